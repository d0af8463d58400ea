-- The cells are written into the part after the first line.
use lib.ListN.{length}
use Rattle.meaning.specs.Program.{cells_text, table_text}
use Rattle.program.specs.Texts.{heading_text}
use Rattle.program.proofs.Texts.{table-parts}
use Rattle.output.proofs.Writing.{Halves, first-room, rest-room, written-whole}
use Rattle.program.proofs.answer_text.write_table.Goals as goal
use Rattle.program.proofs.answer_text.write_table.Goals.{Start}

halves : (s : Start)
    → Halves (table_text s.args.table.now) (heading_text (length s.args.table.now)) (cells_text 0 s.args.table.now) s.args.part.now
halves s = record { parts = table-parts s.args.table.now; room = s.requires }

pub write_heading-at-requires : goal.write_heading-at-requires
write_heading-at-requires c = first-room (halves (goal.at.write_heading-at-requires c).Start)

pub write_cells-requires : goal.write_cells-requires
write_cells-requires c = rest-room (halves (goal.at.write_cells-requires c).Start) c.write_heading-at.ensures

pub returns : goal.returns
returns c = written-whole (halves (goal.at.returns c).Start) c.write_heading-at.ensures c.write_cells.ensures
