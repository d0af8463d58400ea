-- Remainders in machine words as the values of forms: each operation of number keeps them. A row of two forms is the test of their
-- remainders.
use mathlib.Core.Path.{◌≡◌, refl, sym, ap, ◌∙◌}
use mathlib.Core.List.{List}
use Prim.Native.Nat.{ℕ, ◌<◌}
use native.Mathlib.Omega.{arith}
use lib.Dec.{eqb}
use lib.ListN.{get_or}
use lib.IntN.{ℤ, pos, ◌+ℤ◌, ◌-ℤ◌, ◌*ℤ◌, +ℤ_idr}
use Rattle.algebra.specs.Congruence.{Congruent}
use Rattle.algebra.proofs.Congruence.{congruent-+, congruent--, congruent-*}
use Rattle.algebra.proofs.Congruence.{residue-iff, remainder-iff, remainder-of-residue, remainder-below}
use Rattle.meaning.specs.Number.{remainder}
use Rattle.meaning.specs.Row.{Form, cell, constant, ◌⊕◌, ◌⊖◌, ◌⊗◌, eval, ◌≅◌, holds}
use Rattle.groups.specs.Rows.{Leaves}

-- what is the remainder of an operation on remainders is that of the operation on forms
by-congruence : {p r : ℕ} {z x : ℤ} → r < p → r ≡ remainder p z → Congruent p z x → r ≡ remainder p x
by-congruence {p} {r} {z} {x} l e c = e ∙ (remainder-iff p z x (omega arith)).0 c

-- ---- cells and constants

module _ (p : ℕ) (t : List ℕ) where
  pub leaves-cell : (i : ℕ) {r : ℕ} → get_or t i 0 < p → r ≡ get_or t i 0 → Leaves p t r (cell i)
  unfolding eval
  leaves-cell i h e = rw e (record { below = h; is = sym (remainder-of-residue p (get_or t i 0) h) })

  pub leaves-constant : (n : ℕ) → n < p → Leaves p t n (constant (pos n))
  unfolding eval
  leaves-constant n h = record { below = h; is = sym (remainder-of-residue p n h) }

  -- a number that was taken for its own remainder
  pub leaves-own : (n : ℕ) {r : ℕ} → n < p → r ≡ n → Leaves p t r (constant (pos n))
  leaves-own n h e = rw e (leaves-constant n h)

  pub leaves-whole : (z : ℤ) {r : ℕ} → 0 < p → r ≡ remainder p z → Leaves p t r (constant z)
  unfolding eval
  leaves-whole z h e = record { below = rw e (remainder-below p z h); is = e }

-- ---- operations, and a row

module _ {p : ℕ} {t : List ℕ} where
  pub congruent-leaves : {r : ℕ} {f : Form} → Leaves p t r f → Congruent p (pos r) (eval t f)
  congruent-leaves {r} {f} l = (residue-iff p r (eval t f) l.below).1 l.is

  module _ {a b r : ℕ} {f g : Form} (k : Leaves p t a f) (l : Leaves p t b g) where
    pub leaves-⊕ : (r < p) × (r ≡ remainder p (pos a +ℤ pos b)) → Leaves p t r (f ⊕ g)
    unfolding eval
    leaves-⊕ h = record { below = h.0; is = by-congruence h.0 h.1 (congruent-+ (congruent-leaves k) (congruent-leaves l)) }

    pub leaves-⊖ : (r < p) × (r ≡ remainder p (pos a -ℤ pos b)) → Leaves p t r (f ⊖ g)
    unfolding eval
    leaves-⊖ h = record { below = h.0; is = by-congruence h.0 h.1 (congruent-- (congruent-leaves k) (congruent-leaves l)) }

    pub leaves-⊗ : (r < p) × (r ≡ remainder p (pos a *ℤ pos b)) → Leaves p t r (f ⊗ g)
    unfolding eval
    leaves-⊗ h = record { below = h.0; is = by-congruence h.0 h.1 (congruent-* (congruent-leaves k) (congruent-leaves l)) }

  pub row-test : {a b : ℕ} {f g : Form} → Leaves p t a f → Leaves p t b g → eqb a b ≡ holds p t (f ≅ g)
  unfolding holds
  row-test k l = rw (← k.is, ← l.is) refl

  -- the number of a group, as its rows ask for it
  pub leaves-number : {r : ℕ} (f : Form) (L : ℤ) → Leaves p t r (f ⊖ constant L) → remainder p (eval t f -ℤ L) ≡ r
  unfolding eval
  leaves-number f L l = sym l.is

  -- and of a group that is counted from 0
  pub leaves-plain : {r : ℕ} (f : Form) → Leaves p t r f → remainder p (eval t f -ℤ pos 0) ≡ r
  leaves-plain f l = sym (l.is ∙ ap (remainder p) (sym (+ℤ_idr (eval t f))))
