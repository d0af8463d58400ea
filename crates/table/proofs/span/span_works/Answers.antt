-- `table::span::span_works`: c is not 0.
use native.Mathlib.Omega.{arith}
use Rattle.groups.proofs.GroupNumbers.{base-most}
use Rattle.table.proofs.span.span_works.Goals as goal

pub overflow_sub-power : goal.overflow_sub-power
overflow_sub-power c =
    let g = c.args.digits.group in
    omega (arith, base-most g, g.base, c.power.ensures)
