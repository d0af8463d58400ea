-- `groups::group::group_cells`: before each digit, `GroupFilling` holds of what is written and of what is left of n.
use Rattle.groups.proofs.CellsGroup.{GroupFilling}
use Rattle.groups.proofs.group.group_cells.Given as goal

abbrev pub invariant-loop-i : goal.invariant-loop-i
invariant-loop-i l = GroupFilling l.b l.k l.n l.initial.out l.out l.i l.rest
