-- The law of an input line: its cell stands for the input that is the cell's signed value.
use mathlib.Core.Path.{◌≡◌, refl, sym, ap, ◌∙◌}
use mathlib.Core.List.{[], ◌∷◌}
use Prim.Native.Nat.{ℕ, suc, ◌<◌}
use native.Mathlib.Omega.{arith}
use lib.ListN.{length, get_or}
use lib.Signed.{≤ℤ_refl}
use Rattle.algebra.specs.Congruence.{remainder}
use Rattle.algebra.proofs.Congruence.{remainder-below}
use Rattle.meaning.specs.Number.{lowest, highest, OddPrime}
use Rattle.meaning.specs.Known.{Known, ends, Ranged}
use Rattle.meaning.specs.Gadget.Input.{input_line}
use Rattle.meaning.proofs.Number.{positive, range-low, range-high, remainder_signed}
use Rattle.meaning.proofs.Cells.{cells_at-zero, cons-iff}
use Rattle.meaning.proofs.Law.{within-append, ranged-append, below_at, Law}

pub input-law : (s : Known) → OddPrime s.p → Ranged s.p s.known → Law s.p s (input_line s)
unfolding input_line
input-law s P r =
    let p : ℕ = s.p in
    let new = ends (lowest p) (highest p) ∷ [] in
    record {
      ranged = ranged-append p s.known new r (≤ℤ_refl (lowest p), ≤ℤ_refl (highest p), tt);
      within = λ vs next w t i. within-append s.known new vs (next ∷ []) w
          (range-low P next (i (omega arith)), range-high P next (i (omega arith)), tt);
      one_input = omega arith;
      values-count = λ vs next. refl;
      cells_count = λ vs next. refl;
      cells-below = λ vs next w t. (remainder-below p next (positive P), tt);
      values-first = λ vs next. refl;
      input-first = λ vs next i. refl;
      rows-hold = λ t vs next b i.
          let inside : s.cells < length t = omega (arith, b.room) in
          let same : get_or t s.cells 0 ≡ remainder p next =
          sym (remainder_signed P (get_or t s.cells 0) (below_at p t s.cells b.below inside)) ∙ ap (remainder p) (sym (i (omega arith))) in
          (λ _. (tt, (cons-iff t s.cells 0 (remainder p next) [] inside).1 (same, cells_at-zero t (suc s.cells))), λ _. tt);
    }
