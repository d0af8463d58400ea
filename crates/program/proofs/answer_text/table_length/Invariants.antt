-- Before each cell, `AddingLengths` holds of the bytes before its line.
use Rattle.program.proofs.Lengths.{AddingLengths}
use Rattle.program.proofs.answer_text.table_length.Given as goal

abbrev pub invariant-loop-i : goal.invariant-loop-i
invariant-loop-i l = AddingLengths l.table l.total l.i
