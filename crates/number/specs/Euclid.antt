-- What Euclid's algorithm has in hand before a step, modulo a prime p: the remainders r0 and r1 with no common divisor above 1,
-- and what multiple of t each is.
use Rattle.std.specs.Prelude.{◌≡◌, ℕ, ◌<◌, pos, ◌*ℤ◌}
use Rattle.std.specs.Int.{◌∣◌}
use Rattle.algebra.specs.Congruence.{Congruent}
use Rattle.algebra.specs.Prime.{Prime}

-- r is t · s modulo p
pub record Multiple (p t r s : ℕ) : Type 0 where
  pub below : s < p
  pub times : Congruent p (pos t *ℤ pos s) (pos r)

pub record EuclidStep (p t r0 r1 s0 s1 : ℕ) : Type 0 where
  pub prime : Prime p
  pub below : t < p
  pub first : Multiple p t r0 s0
  pub second : Multiple p t r1 s1
  pub coprime : (g : ℕ) → g ∣ r0 → g ∣ r1 → g ≡ 1
