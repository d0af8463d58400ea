-- Congruence of integers modulo p, the remainder that an integer leaves, and the inverse of a remainder.
use Rattle.std.specs.Prelude.{◌≡◌, true, false, ℕ, zero, suc, ◌-◌, ◌*◌, ◌%◌, eqb, ℤ, pos, negsuc, ◌+ℤ◌, ◌*ℤ◌}

-- a and b differ by a multiple of p
pub record Congruent (p : ℕ) (a b : ℤ) : Type 0 where
  pub quotient : ℤ
  pub equation : a ≡ b +ℤ quotient *ℤ pos p

-- the one number below p in the class of an integer, where p is not 0
unfoldable pub remainder : ℕ → ℤ → ℕ
remainder p (pos n) = n % p
remainder p (negsuc n) = p - suc (n % p)

-- the greatest w below m with t · w leaving 1 modulo p, found by trying; 0 where there is none
unfoldable pub inverse_below : (m p t : ℕ) → ℕ
inverse_below zero p t = 0
inverse_below (suc w) p t = elim (eqb (t * w % p) 1) [ true ↦ w | false ↦ inverse_below w p t ]

unfoldable pub inverse : (p t : ℕ) → ℕ
inverse p t = inverse_below p p t
