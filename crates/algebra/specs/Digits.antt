-- Base-b digits, lowest first.
use Rattle.std.specs.Prelude.{ℕ, zero, suc, ◌+◌, ◌*◌, ◌/◌, ◌%◌, ◌<◌, List, [], ◌∷◌}

-- the number that a list of digits stands for
unfoldable pub value : ℕ → List ℕ → ℕ
value b [] = 0
value b (d ∷ ds) = d + b * value b ds

-- the k lowest digits of n
unfoldable pub digits : (b k n : ℕ) → List ℕ
digits b zero n = []
digits b (suc k) n = n % b ∷ digits b k (n / b)

-- every digit is below b
abbrev pub Below : ℕ → List ℕ → Type 0
Below b [] = Unit {0}
Below b (d ∷ ds) = (d < b) × Below b ds
