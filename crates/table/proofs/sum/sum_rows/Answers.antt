-- `table::sum::sum_rows`: the terms before the pairs that are left are in the total.
use mathlib.Core.Path.{◌≡◌, ◌∙◌}
use Prim.Native.Nat.{◌<◌}
use native.Mathlib.Omega.{arith}
use lib.IntN.{pos, nat_abs}
use lib.ListN.{get_or, length}
use lib.Signed.{◌≤ℤ◌}
use Rattle.meaning.specs.Number.{remainder}
use Rattle.algebra.proofs.Congruence.{remainder-below}
use Rattle.table.proofs.LineSum.{left-after-first, first-named, rest-named}
use Rattle.table.proofs.RowsSum.{sum-start, sum-next, sum-end}
use Rattle.table.proofs.sum.sum_rows.Goals as goal
use Rattle.table.proofs.sum.sum_rows.Goals.{In-Some, Start}

-- a table that has a cell has a p above it
positive : (s : Start) → 0 < s.args.table.p
positive s = omega (arith, s.args.table.remainders s.args.at.0 s.requires.0)

pub loop-term-init : goal.loop-term-init
loop-term-init c =
    let a = c.args in
    let total : c.remainder_of-total.result.0 ≡ remainder a.table.p (get_or a.numbers.now 0 (pos 0)) = rw c.whole_at.ensures at c.remainder_of-total.ensures in
    let pairs = c.chunks_exact-term-items.ensures.rest ∙ left-after-first a.numbers.now (omega (arith, c.requires.1)) in
    rw c.into_iter-term-iterator.ensures.into_iter_gives (
      c.chunks_exact-term-items.ensures.size,
      rw total (remainder-below a.table.p _ (positive (goal.at.loop-term-init c).Start)),
      rw pairs c.requires.2.named,
      sum-start a.table.p a.table.cells.now a.numbers.now a.places.now (positive (goal.at.loop-term-init c).Start) pairs total,
    )

-- the pair has two numbers, and names a value that has a place
two : (c : In-Some) → length c.in-Some.term.now ≡ 2
two c = c.in-Some.ensures.steps.1.1 ∙ c.loop-term.invariant.0

named : (c : In-Some) → (pos 0 ≤ℤ get_or c.in-Some.term.now 1 (pos 0)) × (nat_abs (get_or c.in-Some.term.now 1 (pos 0)) < length c.args.places.now)
named c = first-named _ _ _ c.in-Some.ensures.steps.1.0 (two c) (length c.args.places.now) c.loop-term.invariant.2

pub place_at-place-requires : goal.place_at-place-requires
place_at-place-requires c =
    let name = named (goal.at.place_at-place-requires c).In-Some in
    record {
      inside = omega (arith, two (goal.at.place_at-place-requires c).In-Some);
      natural = name.0;
      below = name.1;
    }

pub loop-term-preserved : goal.loop-term-preserved
loop-term-preserved c =
    let a = c.args in
    let now = (goal.at.loop-term-preserved c).In-Some in
    let steps = c.in-Some.ensures.steps in (
      steps.0 ∙ c.loop-term.invariant.0,
      c.sum-total.ensures.0,
      rest-named _ _ _ steps.1.0 (two now) (length a.places.now) c.loop-term.invariant.2,
      sum-next a.table.p a.table.cells.now a.numbers.now a.places.now _ _ _ steps.1.0 (two now) (positive (goal.at.loop-term-preserved c).Start) c.loop-term.invariant.3
          (rw c.whole_at-in-loop-term.ensures at c.remainder_of-factor.ensures) c.place_at-place.ensures c.at.ensures c.product-part.ensures c.sum-total.ensures,
    )

pub returns : goal.returns
returns c s p-is cells_is known =
    let a = c.args in
    sum-end a.table.p a.table.cells.now a.numbers.now a.places.now _ _ a.at.0 c.loop-term.invariant.3 c.loop-term.invariant.0 c.in-None.ensures.steps.1.0
    c.at-made.ensures (rw c.eq.ensures at c.row_before.ensures) s cells_is known
