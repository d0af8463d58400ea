-- `exports::digit_table_show`: `show` is asked for the part of the numbered table, which tells where the part of every table starts.
use native.Mathlib.Omega.{arith}
use Rattle.meaning.specs.Refusal.{cell_limit}
use Rattle.exports.proofs.Shown.{first-shown}
use Rattle.exports.proofs.digit_table_show.Goals as goal

pub returns : goal.returns
returns c =
    let a = c.args in
    let shown =
    first-shown a.list.now a.table.now a.line _ _ cell_limit _ c.number_cells.ensures (omega arith) c.show-part.ensures.cells c.first_of.ensures in
    record { part = shown.part; count = shown.counted; start = shown.starts; inside = shown.inside }
