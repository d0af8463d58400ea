-- `groups::cells::Table::at`: a remainder stands there, which the form of the cell leaves.
use Rattle.groups.proofs.RowsForm.{leaves-cell}
use Rattle.groups.proofs.cells.Table.at.Goals as goal

pub returns : goal.returns
returns c =
    let t = c.args.self in
    leaves-cell t.p t.cells.now c.args.place.0 (t.remainders c.args.place.0 c.requires) c.residue_at.ensures
