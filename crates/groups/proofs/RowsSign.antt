-- The rows of a sign: that B is small, and the answer put together from those for the group and for the four rows after it.
use mathlib.Core.Path.{◌≡◌, refl, sym, ap, ◌∙◌}
use mathlib.Core.Bool.{Bool, cond}
use mathlib.Core.List.{List, [], ◌∷◌}
use mathlib.Core.Option.{Option, none, some}
use Prim.Native.Nat.{ℕ, zero, suc, ◌+◌, ◌-◌, ◌^◌, ◌≤◌, ◌<◌}
use native.Mathlib.Omega.{arith}
use native.Mathlib.Numerals.{add-one}
use lib.Dec.{eqb}
use lib.IntN.{ℤ, pos, neg_ℤ, ◌+ℤ◌, ◌-ℤ◌, ◌*ℤ◌}
use Rattle.meaning.specs.Number.{remainder}
use Rattle.meaning.specs.Known.{top_part}
use Rattle.meaning.specs.Row.{Form, cell, constant, ◌⊕◌, ◌⊖◌, ◌⊗◌, ◌≅◌, eval, Row, holds, group}
use Rattle.meaning.specs.Reply.{Reply, reply}
use Rattle.meaning.specs.Gadget.Sign.{sign_shift, sign_rows}
use Rattle.meaning.proofs.RowCounts.{length-group_rows}
use Rattle.groups.specs.Cells.{GroupOf}
use Rattle.groups.specs.Rows.{Leaves, first_refusal, first_of}
use Rattle.groups.proofs.GroupNumbers.{top_below}
use Rattle.groups.proofs.RowsFirst.{first-none, first-row, first_rows}
use Rattle.groups.proofs.RowsForm.{leaves-constant, leaves-own, leaves-⊖, leaves-⊗, row-test}

-- ---- B

pub leaves-top : (p : ℕ) (t : List ℕ) {b k r : ℕ} → GroupOf b k → b ^ k ≤ p → r ≡ top_part b k → Leaves p t r (constant (pos (top_part b k)))
leaves-top p t {b} {k} g h e = leaves-own p t (top_part b k) (omega (arith, top_below g)) e

-- a number that is moved up by B, as the group over it asks
sign-shift : (x : ℤ) (n : ℕ) → x +ℤ pos n ≡ x -ℤ neg_ℤ (pos n)
sign-shift x zero = refl
sign-shift x (suc n) = refl

pub sign-number : {p : ℕ} {t : List ℕ} {r : ℕ} (f : Form) (b k : ℕ) → Leaves p t r (f ⊕ constant (pos (top_part b k)))
    → remainder p (eval t f -ℤ sign_shift b k) ≡ r
unfolding eval sign_shift
sign-number {p} {t} f b k l = sym (l.is ∙ ap (remainder p) (sign-shift (eval t f) (top_part b k)))

-- ---- the four rows after the group

module _ (p : ℕ) (t : List ℕ) (T F W : Form) (x : Row) {top flag witness : ℕ}
    (top-is : Leaves p t top T) (flag_is : Leaves p t flag F) (witness-is : Leaves p t witness W) where
  pub flag-answer : (row : ℕ) {one other shown full unused : ℕ} {last : Bool} {r r₁ r₂ r₃ : Option Reply} → 1 < p → last ≡ holds p t x
      → one ≡ 1 → (other < p) × (other ≡ remainder p (pos one -ℤ pos flag)) → (shown < p) × (shown ≡ remainder p (pos top *ℤ pos witness))
      → (full < p) × (full ≡ remainder p (pos top *ℤ pos flag)) → (unused < p) × (unused ≡ remainder p (pos witness *ℤ pos flag))
      → r₃ ≡ cond last none (some (reply 15 (row + 3))) → r₂ ≡ cond (eqb unused 0) r₃ (some (reply 15 (row + 2)))
      → r₁ ≡ cond (eqb full 0) r₂ (some (reply 15 (row + 1))) → r ≡ cond (eqb shown other) r₁ (some (reply 15 row))
      → r ≡ first_refusal (holds p t) row (T ⊗ W ≅ constant (pos 1) ⊖ F ∷ T ⊗ F ≅ constant (pos 0) ∷ W ⊗ F ≅ constant (pos 0) ∷ x ∷ [])
  flag-answer row h x-is one-is other-is shown-is Full-is unused-is e₃ e₂ e₁ e =
      let none_left = leaves-constant p t 0 (omega arith) in
      first-row (holds p t) row (row + 1) (T ⊗ W ≅ constant (pos 1) ⊖ F) _ (omega arith)
      (row-test (leaves-⊗ top-is witness-is shown-is) (leaves-⊖ (leaves-own p t 1 h one-is) flag_is other-is)) e
      (first-row (holds p t) (row + 1) (row + 2) (T ⊗ F ≅ constant (pos 0)) _ (omega arith)
      (row-test (leaves-⊗ top-is flag_is Full-is) none_left) e₁
      (first-row (holds p t) (row + 2) (row + 3) (W ⊗ F ≅ constant (pos 0)) _ (omega arith)
      (row-test (leaves-⊗ witness-is flag_is unused-is) none_left) e₂
      (first-row (holds p t) (row + 3) (row + 4) x [] (omega arith) x-is e₃ (first-none (holds p t) (row + 4)))))

-- ---- the rows of a sign

pub sign-answer : (p : ℕ) (t : List ℕ) (form : Form) (at b k : ℕ) (row : Form → Row) {r digits later : Option Reply}
    → digits ≡ first_refusal (holds p t) 0 (group form (sign_shift b k) at b k)
    → later ≡ first_refusal (holds p t) (k + 1)
    ((cell (at + (k - 1)) ⊖ constant (pos (b - 1))) ⊗ cell (at + (k + 1)) ≅ constant (pos 1) ⊖ cell (at + k)
    ∷ (cell (at + (k - 1)) ⊖ constant (pos (b - 1))) ⊗ cell (at + k) ≅ constant (pos 0)
    ∷ cell (at + (k + 1)) ⊗ cell (at + k) ≅ constant (pos 0) ∷ row (cell (at + k)) ∷ [])
    → r ≡ first_of digits later → r ≡ first_refusal (holds p t) 0 (sign_rows form at b k row)
unfolding sign_rows
sign-answer p t form at b k row d l e =
    first_rows (holds p t) 0 (suc k) (group form (sign_shift b k) at b k) _ (omega (arith, length-group_rows form (sign_shift b k) at b k)) e d
    (rw add-one at l)
