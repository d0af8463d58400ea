-- Tests, as the rules of a line ask them: two tests at once, and the name of a value, which is a number that is not negative.
use mathlib.Core.Path.{◌≡◌, refl}
use mathlib.Core.Bool.{Bool, true, false, ◌&&◌}
use Prim.Native.Nat.{ℕ, ◌<◌}
use native.Mathlib.Omega.{arith}
use lib.Dec.{ltb, ltb→lt}
use lib.IntN.{ℤ, pos, negsuc, nat_abs}
use lib.Signed.{◌≤ℤ◌}
use Rattle.algebra.proofs.Test.{≡-test}
use Rattle.algebra.proofs.Integer.Linear.{linear}
use Rattle.meaning.specs.Refusal.{is_made}

-- ---- two tests

pub both_true : (a b : Bool) → (a && b) ≡ true → (a ≡ true) × (b ≡ true)
both_true true b e = (refl, e)
both_true false b e = let z : ◌≡◌ {A = ℕ} 0 1 = cc in absurd (omega arith)

-- ---- names

pub record Name (n : ℕ) (z : ℤ) : Type 0 where
  pub counts : pos 0 ≤ℤ z
  pub below : nat_abs z < n

pub made_name : (n : ℕ) (z : ℤ) → is_made n z ≡ true → Name n z
unfolding is_made
made_name n (pos m) e = record { counts = omega linear; below = ltb→lt m n (≡-test (ltb m n) e) }
made_name n (negsuc m) e = let q : ◌≡◌ {A = ℕ} 0 1 = cc in absurd (omega arith)
