-- `groups::sign::flag_rows`: the four rows, from the last to the first.
use Rattle.groups.proofs.RowsSign.{flag-answer}
use Rattle.groups.proofs.sign.flag_rows.Goals as goal

pub returns : goal.returns
returns c t T F W x top-is flag_is witness-is last-is =
    flag-answer c.args.p t T F W x top-is flag_is witness-is c.args.row c.requires.0 last-is
    c.from.ensures c.difference-other.ensures c.product-shown.ensures c.product-full.ensures
    c.product-unused.ensures c.row_before-last_row.ensures (rw (c.eq.ensures, c.from-zero.ensures) at c.row_before-last_two.ensures)
    (rw (c.eq-2.ensures, c.from-zero.ensures) at c.row_before-last_three.ensures) (rw c.eq-3.ensures at c.row_before.ensures)
