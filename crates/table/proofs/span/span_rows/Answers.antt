-- `table::span::span_rows`: one group, over the value less the shift.
use native.Mathlib.Omega.{arith}
use Rattle.meaning.specs.Row.{cell, constant}
use Rattle.meaning.specs.Gadget.Span.{span_line}
use Rattle.groups.specs.Rows.{Leaves}
use Rattle.groups.proofs.RowsForm.{leaves-whole, leaves-⊖, leaves-number}
use Rattle.table.proofs.span.span_rows.Goals as goal
use Rattle.table.proofs.span.span_rows.Goals.{After-remainder_of-lowest}

-- the shift
lowest-is : (c : After-remainder_of-lowest) → let a = c.args.group in
    Leaves a.table.p a.table.cells.now c.remainder_of-lowest.result.0 (constant c.args.shift.0)
lowest-is c =
    let a = c.args.group in
    leaves-whole a.table.p a.table.cells.now c.args.shift.0 (omega (arith, a.table.remainders c.args.place.0 c.requires.0)) c.remainder_of-lowest.ensures

pub difference-number-requires : goal.difference-number-requires
difference-number-requires c = (c.at.ensures.below, (lowest-is (goal.at.difference-number-requires c).After-remainder_of-lowest).below)

pub returns : goal.returns
unfolding span_line
returns c s v p-is place_is cells_is =
    let a = c.args.group in
    let X = cell c.args.place.0 in
    let number = leaves-⊖ c.at.ensures (lowest-is (goal.at.returns c).After-remainder_of-lowest) c.difference-number.ensures in
    rw (place_is, cells_is) (c.group_rows.ensures a.table.p X c.args.shift.0 a.power (leaves-number X c.args.shift.0 number))
