-- The law of a field line: nothing is made, and nothing is asked.
use mathlib.Core.Path.{refl}
use mathlib.Core.List.{[]}
use Prim.Native.Nat.{ℕ}
use native.Mathlib.Omega.{arith}
use Rattle.meaning.specs.Known.{Known, Ranged}
use Rattle.meaning.specs.Gadget.Field.{field_line}
use Rattle.meaning.proofs.Cells.{cells_at-zero}
use Rattle.meaning.proofs.Law.{within-append, ranged-append, Law}

pub field-law : (p : ℕ) (s : Known) → Ranged p s.known → Law p s (field_line s)
unfolding field_line
field-law p s r = record {
  ranged = ranged-append p s.known [] r tt;
  within = λ vs next w t i. within-append s.known [] vs [] w tt;
  one_input = omega arith;
  values-count = λ vs next. refl;
  cells_count = λ vs next. refl;
  cells-below = λ vs next w t. tt;
  values-first = λ vs next. refl;
  input-first = λ vs next i. absurd (omega arith);
  rows-hold = λ t vs next b i. (λ _. (tt, cells_at-zero t s.cells), λ _. tt);
}
