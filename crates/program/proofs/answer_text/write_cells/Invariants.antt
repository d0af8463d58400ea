-- Before each line, `Listing` holds of those that are written.
use Rattle.program.proofs.Texts.{Listing}
use Rattle.program.proofs.answer_text.write_cells.Given as goal

abbrev pub invariant-loop-i : goal.invariant-loop-i
invariant-loop-i l = Listing l.table l.initial.part l.part l.at l.i
