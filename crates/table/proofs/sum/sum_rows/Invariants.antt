-- `table::sum::sum_rows`: the terms before the pairs that are left are in the total.
use mathlib.Core.Path.{◌≡◌}
use Prim.Native.Nat.{◌<◌}
use lib.ListN.{length}
use Rattle.table.specs.Sum.{Named}
use Rattle.table.proofs.RowsSum.{SoFar}
use Rattle.table.proofs.sum.sum_rows.Given as goal

abbrev pub invariant-loop-term : goal.invariant-loop-term
invariant-loop-term l =
    (l.term-iterator.size ≡ 2) × (l.total.0 < l.table.p) × Named (length l.places) l.term-iterator.rest.now
    × SoFar l.table.p l.table.cells.now l.numbers l.places l.total.0 l.term-iterator.rest.now
