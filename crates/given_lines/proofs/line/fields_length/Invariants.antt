-- Before each number, `Counting` holds of the bytes that are counted.
use Rattle.given_lines.proofs.Taking.{Counting}
use Rattle.given_lines.proofs.line.fields_length.Given as goal

abbrev pub invariant-loop-i : goal.invariant-loop-i
invariant-loop-i l = Counting l.numbers l.total l.i
