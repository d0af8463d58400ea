-- The rows of a root line, put together from its product's row and its four groups.
use mathlib.Core.Path.{◌≡◌, ap, ◌∙◌}
use mathlib.Core.List.{List, ◌∷◌, ◌++◌, append_assoc}
use mathlib.Core.Option.{Option}
use Prim.Native.Nat.{ℕ, suc, ◌+◌, ◌*◌, ◌<◌}
use native.Mathlib.Omega.{arith}
use native.Mathlib.Numerals.{add-one}
use lib.IntN.{pos, ◌+ℤ◌, ◌*ℤ◌}
use Rattle.meaning.specs.Number.{remainder}
use Rattle.meaning.specs.Known.{Known, place_of}
use Rattle.meaning.specs.Row.{Form, cell, constant, ◌⊕◌, ◌⊖◌, ◌⊗◌, ◌≅◌, Row, holds, group}
use Rattle.meaning.specs.Reply.{Reply}
use Rattle.meaning.specs.Gadget.Root.{root_line}
use Rattle.groups.specs.Rows.{first_of, first_refusal}
use Rattle.groups.proofs.RowsGroup.{group-then}
use Rattle.table.specs.Root.{four_groups}

all-groups : (x : Row) (a b c d : List Row) → x ∷ (((a ++ b) ++ c) ++ d) ≡ x ∷ (a ++ (b ++ (c ++ d)))
all-groups x a b c d = ap (λ l. x ∷ l) (append_assoc (a ++ b) c d ∙ append_assoc a b (c ++ d))

pub root-rows-are : (s : Known) (v place at b k : ℕ) → place_of s v ≡ place → s.cells ≡ at → (root_line s v b k).rows
    ≡ cell at ⊗ cell at ≅ cell (at + 1) ∷ four_groups (cell place) (cell at) (cell place ⊖ cell (at + 1))
    (cell (at + 1) ⊕ constant (pos 2) ⊗ cell at ⊖ cell place) (at + 2) b k
unfolding root_line four_groups
root-rows-are s v place at b k e h = rw (e, h, add-one) (all-groups (cell at ⊗ cell at ≅ cell (suc at))
    (group (cell place) (pos 0) (at + 2) b k) (group (cell at) (pos 0) (at + 2 + k) b k)
    (group (cell place ⊖ cell (suc at)) (pos 0) (at + 2 + 2 * k) b k)
    (group (cell (suc at) ⊕ constant (pos 2) ⊗ cell at ⊖ cell place) (pos 0) (at + 2 + 3 * k) b k))

-- the sum of a remainder with itself, as a product
pub twice : {p r : ℕ} (a : ℕ) → (r < p) × (r ≡ remainder p (pos a +ℤ pos a)) → (r < p) × (r ≡ remainder p (pos 2 *ℤ pos a))
twice {p} a h = (h.0, h.1 ∙ ap (λ n. remainder p (pos n)) double)
  where
    double : a + a ≡ 2 * a
    double = omega arith

pub groups-answer : (p : ℕ) (t : List ℕ) (A B C D : Form) (at b k : ℕ) {g₁ g₂ g₃ g₄ r₁ r₂ r₃ : Option Reply}
    → g₁ ≡ first_refusal (holds p t) 1 (group A (pos 0) at b k) → g₂ ≡ first_refusal (holds p t) (k + 2) (group B (pos 0) (at + k) b k)
    → g₃ ≡ first_refusal (holds p t) (2 * k + 3) (group C (pos 0) (at + 2 * k) b k)
    → g₄ ≡ first_refusal (holds p t) (3 * k + 4) (group D (pos 0) (at + 3 * k) b k)
    → r₃ ≡ first_of g₃ g₄ → r₂ ≡ first_of g₂ r₃ → r₁ ≡ first_of g₁ r₂ → r₁ ≡ first_refusal (holds p t) 1 (four_groups A B C D at b k)
unfolding four_groups
groups-answer p t A B C D at b k f₁ f₂ f₃ f₄ e₃ e₂ e₁ =
    let second = group B (pos 0) (at + k) b k in
    let third = group C (pos 0) (at + 2 * k) b k in
    let fourth = group D (pos 0) (at + 3 * k) b k in
    group-then p t 1 (k + 2) A (pos 0) at b k (second ++ (third ++ fourth)) (omega arith) e₁ f₁
    (group-then p t (k + 2) (2 * k + 3) B (pos 0) (at + k) b k (third ++ fourth) (omega arith) e₂ f₂
    (group-then p t (2 * k + 3) (3 * k + 4) C (pos 0) (at + 2 * k) b k fourth (omega arith) e₃ f₃ f₄))
