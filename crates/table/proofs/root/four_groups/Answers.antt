-- `table::root::four_groups`: the groups one after another.
use lib.IntN.{pos}
use Rattle.groups.proofs.RowsFirst.{rows-and}
use Rattle.groups.proofs.RowsForm.{leaves-plain}
use Rattle.table.proofs.RowsRoot.{groups-answer}
use Rattle.table.proofs.root.four_groups.Goals as goal

pub returns : goal.returns
returns c A B C D a-is b-is c-is d-is =
    let s = c.args.group in
    let p = s.table.p in
    groups-answer p s.table.cells.now A B C D c.args.at.0 s.digits.base s.digits.count (c.group_rows-first.ensures p A (pos 0) s.power (leaves-plain A a-is))
    (rw c.after.ensures at (c.group_rows-second.ensures p B (pos 0) s.power (leaves-plain B b-is)))
    (rw c.after-2.ensures at (c.group_rows-third.ensures p C (pos 0) s.power (leaves-plain C c-is)))
    (rw c.after-3.ensures at (c.group_rows-fourth.ensures p D (pos 0) s.power (leaves-plain D d-is)))
    (rows-and _ _ c.and.ensures) (rows-and _ _ c.and-2.ensures) (rows-and _ _ c.and-3.ensures)
