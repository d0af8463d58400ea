-- Whole numbers and remainders modulo p: M, the signed range, the signed value of a cell, odd primes. All else stands on these;
-- clauses 1.1 to 1.8 of docs/FORMAT.md.
use Rattle.std.specs.Prelude.{ℕ, zero, suc, ◌*◌, ◌-◌, ◌/◌, ◌%◌, ◌≤◌, ◌≡◌, Bool, true, cond, ◌&&◌, not, leb, eqb, ℤ, pos, neg_ℤ, ◌-ℤ◌}
use Rattle.std.specs.Int.Signed.{le_z}
use Rattle.algebra.specs.Prime.{Prime}
-- the remainder from 0 to p-1 that a whole number leaves, of algebra. FORMAT 1.6
unfoldable pub use Rattle.algebra.specs.Congruence.{remainder}

-- M. FORMAT 1.3
unfoldable pub half : ℕ → ℕ
half p = (p - 1) / 2

-- the lowest of the signed range, -M. FORMAT 1.4
unfoldable pub lowest : ℕ → ℤ
lowest p = neg_ℤ (pos (half p))

-- and the highest, M. FORMAT 1.4
unfoldable pub highest : ℕ → ℤ
highest p = pos (half p)

-- is x in low..high?
unfoldable pub between : (low x high : ℤ) → Bool
between low x high = le_z low x && le_z x high

-- is a whole number in the signed range? FORMAT 1.4
unfoldable pub in_range : ℕ → ℤ → Bool
in_range p x = between (lowest p) x (highest p)

-- the signed value of a cell, the only way from a remainder to a whole number. FORMAT 1.7, 1.8
unfoldable pub signed : (p cell : ℕ) → ℤ
signed p cell = cond (le_z (pos cell) (highest p)) (pos cell) (pos cell -ℤ pos p)

-- no number from 2 to k + 1 divides n. FORMAT 1.2
unfoldable pub no_divisor : (n k : ℕ) → Bool
no_divisor n zero = true
no_divisor n (suc k) = not (eqb (n % suc (suc k)) 0) && no_divisor n k

-- is n an odd prime? Every smaller number from 2 on is tried. FORMAT 1.2
unfoldable pub odd_prime : ℕ → Bool
odd_prime n = leb 3 n && no_divisor n (n - 2)

-- what a p that passes this test is: prime, and one more than twice its half. FORMAT 1.1, 1.3
pub record OddPrime (p : ℕ) : Type 0 where
  pub prime : Prime p
  pub odd : p ≡ suc (2 * half p)
  pub three : 3 ≤ p
