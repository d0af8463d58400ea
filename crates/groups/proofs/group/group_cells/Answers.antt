-- `groups::group::group_cells`: before each digit, `GroupFilling` holds of what is written and of what is left of n.
use Rattle.groups.proofs.CellsGroup.{filling-turn, filling-end}
use Rattle.groups.proofs.group.group_cells.Goals as goal

pub loop-i-preserved : goal.loop-i-preserved
loop-i-preserved c =
    rw (c.divided-rest.ensures, c.set_residue.ensures, c.from.ensures, c.digit.ensures)
    (filling-turn _ _ _ c.loop-i.invariant c.loop-i-test.true c.requires.1)

pub returns : goal.returns
returns c = filling-end _ _ _ c.loop-i.invariant c.loop-i-test.false
