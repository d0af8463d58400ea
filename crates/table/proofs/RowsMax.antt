-- The rows of a max line, put together from its product's row and its two groups.
use mathlib.Core.Path.{◌≡◌, refl}
use mathlib.Core.Bool.{cond}
use mathlib.Core.List.{List, ◌∷◌, ◌++◌}
use mathlib.Core.Option.{Option, some}
use Prim.Native.Nat.{ℕ, ◌+◌, ◌<◌}
use native.Mathlib.Omega.{arith}
use native.Mathlib.Numerals.{add-one}
use lib.Dec.{eqb}
use lib.IntN.{pos}
use Rattle.meaning.specs.Known.{Known, place_of}
use Rattle.meaning.specs.Row.{Form, cell, constant, ◌⊖◌, ◌⊗◌, ◌≅◌, Row, holds, group}
use Rattle.meaning.specs.Reply.{Reply, reply}
use Rattle.meaning.specs.Gadget.Max.{max_line}
use Rattle.groups.specs.Rows.{Leaves, first_of, first_refusal}
use Rattle.groups.proofs.RowsFirst.{first-row}
use Rattle.groups.proofs.RowsForm.{leaves-constant, row-test}
use Rattle.groups.proofs.RowsGroup.{group-then}

-- F is y-u, and G is y-v
abbrev pub max_rows : (F G : Form) (at b k : ℕ) → List Row
max_rows F G at b k = F ⊗ G ≅ constant (pos 0) ∷ group F (pos 0) (at + 1) b k ++ group G (pos 0) (at + 1 + k) b k

pub max-rows-are : (s : Known) (u v place-u place-v at b k : ℕ) → place_of s u ≡ place-u → place_of s v ≡ place-v → s.cells ≡ at
    → (max_line s u v b k).rows ≡ max_rows (cell at ⊖ cell place-u) (cell at ⊖ cell place-v) at b k
unfolding max_line
max-rows-are s u v place-u place-v at b k d e h = rw (d, e, h, add-one) refl

pub max-answer : (p : ℕ) (t : List ℕ) (F G : Form) (at b k : ℕ) {either : ℕ} {r both first second : Option Reply} → 0 < p
    → Leaves p t either (F ⊗ G) → first ≡ first_refusal (holds p t) 1 (group F (pos 0) (at + 1) b k)
    → second ≡ first_refusal (holds p t) (k + 2) (group G (pos 0) (at + 1 + k) b k) → both ≡ first_of first second
    → r ≡ cond (eqb either 0) both (some (reply 15 0)) → r ≡ first_refusal (holds p t) 0 (max_rows F G at b k)
max-answer p t F G at b k h l g₁ g₂ e₁ e =
    first-row (holds p t) 0 1 (F ⊗ G ≅ constant (pos 0)) (group F (pos 0) (at + 1) b k ++ group G (pos 0) (at + 1 + k) b k)
    (omega arith) (row-test l (leaves-constant p t 0 h)) e
    (group-then p t 1 (k + 2) F (pos 0) (at + 1) b k (group G (pos 0) (at + 1 + k) b k) (omega arith) e₁ g₁ g₂)
