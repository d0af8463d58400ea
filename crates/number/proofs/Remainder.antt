-- The remainder of an integer, from an equation: what is below p and differs from it by a multiple of p.
use mathlib.Core.Path.{◌≡◌, sym}
use Prim.Native.Nat.{ℕ, ◌<◌}
use lib.IntN.{ℤ, pos, ◌+ℤ◌, ◌*ℤ◌}
use Rattle.algebra.specs.Congruence.{remainder}
use Rattle.algebra.proofs.Congruence.{remainder-unique}

pub remainder_by : (p : ℕ) (z quotient : ℤ) (n : ℕ) → n < p → z ≡ pos n +ℤ quotient *ℤ pos p → n ≡ remainder p z
remainder_by p z q n h e = sym (remainder-unique p z n h (record { quotient = q; equation = e }))
