-- Bounds on the absolute value: each operation computes the bound of its result, and a bound below 2 ^ 63 is that the result fits.
-- So `difference-fits` shows what `whole_difference` asks of two bounded numbers.
use mathlib.Core.Path.{◌≡◌, refl}
use mathlib.Core.Logic.{◌⊎◌, inl, inr, ⊎_elim}
use Prim.Native.Nat.{ℕ, zero, ◌+◌, ◌*◌, ◌≤◌, ◌<◌}
use native.Mathlib.Omega.{arith}
use native.Mathlib.Nat.{mul-le-mul}
use lib.Dec.{T, ltb, ltb→lt}
use lib.IntN.{ℤ, pos, negsuc, neg_ℤ, ◌+ℤ◌, ◌-ℤ◌, ◌*ℤ◌}
use lib.Signed.{◌≤ℤ◌}
use mir.Syntax.{w64}
use mir.Val.{SFits}
use Rattle.meaning.specs.Machine.{past_i64}
use Rattle.algebra.proofs.Integer.Order.{positive_part, negative_part, nat_abs-parts, plus, minus}
use Rattle.algebra.proofs.Integer.Order.{positive_part-negation, negative_part-negation}
use Rattle.algebra.proofs.Integer.Linear.{linear}
use Rattle.algebra.proofs.Prime.{nat_abs-*}
use Rattle.number.specs.Bounded.{Bounded}
use Rattle.number.proofs.Word.{parts-fit}

-- one of the two parts of an integer is 0
one-part : (z : ℤ) → (positive_part z ≡ zero) ⊎ (negative_part z ≡ zero)
one-part (pos n) = inr refl
one-part (negsuc n) = inl refl

by_parts : {bound : ℕ} (z : ℤ) → positive_part z ≤ negative_part z + bound → negative_part z ≤ positive_part z + bound → Bounded bound z
by_parts z h k = record { size = ⊎_elim (λ e. omega (arith, nat_abs-parts z)) (λ e. omega (arith, nat_abs-parts z)) (one-part z) }

pub bounded-range : {bound : ℕ} (z : ℤ) → neg_ℤ (pos bound) ≤ℤ z → z ≤ℤ pos bound → Bounded bound z
bounded-range z h k = by_parts z (omega linear) (omega linear)

pub bounded-more : {less more : ℕ} {z : ℤ} → Bounded less z → less ≤ more → Bounded more z
bounded-more s h = record { size = omega (arith, s.size) }

-- ---- the operations

pub bounded-negation : {A : ℕ} {a : ℤ} → Bounded A a → Bounded A (neg_ℤ a)
bounded-negation {A} {a} s =
    by_parts (neg_ℤ a) (omega (arith, s.size, nat_abs-parts a, positive_part-negation a, negative_part-negation a))
    (omega (arith, s.size, nat_abs-parts a, positive_part-negation a, negative_part-negation a))

module _ {A B : ℕ} {a b : ℤ} where
  pub bounded-sum : Bounded A a → Bounded B b → Bounded (A + B) (a +ℤ b)
  bounded-sum s t =
      by_parts (a +ℤ b) (omega (arith, s.size, t.size, nat_abs-parts a, nat_abs-parts b, plus a b))
      (omega (arith, s.size, t.size, nat_abs-parts a, nat_abs-parts b, plus a b))

  pub bounded-difference : Bounded A a → Bounded B b → Bounded (A + B) (a -ℤ b)
  bounded-difference s t =
      by_parts (a -ℤ b) (omega (arith, s.size, t.size, nat_abs-parts a, nat_abs-parts b, minus a b))
      (omega (arith, s.size, t.size, nat_abs-parts a, nat_abs-parts b, minus a b))

  pub bounded-product : Bounded A a → Bounded B b → Bounded (A * B) (a *ℤ b)
  bounded-product s t = record { size = rw (nat_abs-* a b) (mul-le-mul s.size t.size) }

-- ---- what fits

pub bounded-fits : (bound : ℕ) {z : ℤ} → Bounded bound z → T (ltb bound past_i64) → SFits w64 z
bounded-fits bound {z} s t =
    let l : bound < past_i64 = ltb→lt bound past_i64 t in
    parts-fit z (omega (arith, s.size, nat_abs-parts z)) (omega (arith, s.size, nat_abs-parts z))

pub difference-fits : {A B : ℕ} (a b : ℤ) → Bounded A a → Bounded B b → T (ltb (A + B) past_i64) → SFits w64 (a -ℤ b)
difference-fits {A} {B} a b s t l = bounded-fits (A + B) (bounded-difference s t) l
