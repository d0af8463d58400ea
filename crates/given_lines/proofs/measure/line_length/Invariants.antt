-- Before each number, `MeasuringLine` holds of the bytes that are counted.
use Rattle.given_lines.specs.Given.{word_meaning}
use Rattle.given_lines.proofs.Lengths.{MeasuringLine}
use Rattle.given_lines.proofs.measure.line_length.Given as goal

abbrev pub invariant-loop-i : goal.invariant-loop-i
invariant-loop-i l = MeasuringLine (word_meaning l.line.word) l.line.numbers.now l.before l.total l.i
