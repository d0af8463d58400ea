-- A base and a digit count, as rule 6 lets them through, and their power.
use Rattle.std.specs.Prelude.{◌≡◌, ℕ, ◌^◌, ◌≤◌}
use Rattle.meaning.specs.Refusal.{most_digits}

pub record DigitsKept (b k : ℕ) : Type 0 where
  pub base-two : 2 ≤ b
  pub count-one : 1 ≤ k
  pub count-most : k ≤ most_digits

-- c = b^k, which is at most p
pub record PowerWithin (p b k c : ℕ) : Type 0 where
  pub power : c ≡ b ^ k
  pub positive : 1 ≤ c
  pub within : c ≤ p
