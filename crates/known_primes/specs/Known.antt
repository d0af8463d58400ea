-- The great primes that are known, and what it is to be one of a list of numbers.
use Rattle.std.specs.Prelude.{◌≡◌, List, [], ◌∷◌, ◌⊎◌, ℕ}

-- 119·2^23 + 1, 15·2^27 + 1, 127·2^24 + 1, 2^31 - 1 and the greatest prime below 2^32
abbrev pub known_primes : List ℕ
known_primes = 998244353 ∷ 2013265921 ∷ 2130706433 ∷ 2147483647 ∷ 4294967291 ∷ []

abbrev pub OneOf : ℕ → List ℕ → Type 0
OneOf n [] = ⊥
OneOf n (x ∷ []) = n ≡ x
OneOf n (x ∷ y ∷ ys) = (n ≡ x) ⊎ OneOf n (y ∷ ys)
