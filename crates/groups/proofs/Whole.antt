-- Whole numbers that are known to be small: what is asked of their distance, and of one less than a number of 32 bits.
use mathlib.Core.Path.{◌≡◌, ap}
use Prim.Native.Nat.{ℕ, ◌+◌, ◌≤◌}
use lib.Dec.{T, ltb}
use lib.IntN.{ℤ, pos, nat_abs, ◌-ℤ◌, +ℤ_idr}
use mir.Syntax.{w64}
use mir.Val.{SFits}
use Rattle.meaning.specs.Machine.{past_i64}
use Rattle.number.specs.Bounded.{Bounded}
use Rattle.number.proofs.Bounded.{difference-fits}

pub pos-bounded : (n bound : ℕ) → n ≤ bound → Bounded bound (pos n)
pos-bounded n bound h = record { size = h }

-- a number less 0
pub nat_abs-from-zero : (z : ℤ) → nat_abs (z -ℤ pos 0) ≡ nat_abs z
nat_abs-from-zero z = ap nat_abs (+ℤ_idr z)

-- the distance of two numbers is taken the one way round or the other
pub distance-fits : {bound : ℕ} {x y : ℤ} → Bounded bound x → Bounded bound y → T (ltb (bound + bound) past_i64)
    → SFits w64 (x -ℤ y) × SFits w64 (y -ℤ x)
distance-fits {bound} {x} {y} s u t = (difference-fits x y s u t, difference-fits y x u s t)
