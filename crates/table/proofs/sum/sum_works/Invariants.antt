-- `table::sum::sum_works`: before each term, `Summing` holds of the total and of the pairs that are left.
use mathlib.Core.Path.{◌≡◌}
use Rattle.table.proofs.WorksSum.{Summing}
use Rattle.table.proofs.sum.sum_works.Given as goal

abbrev pub invariant-loop-term : goal.invariant-loop-term
invariant-loop-term l =
    (l.term-iterator.size ≡ 2) × Summing l.numbers l.values l.term-iterator.rest.now l.total.0
