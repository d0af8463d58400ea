-- Before each line, `MeasuringText` holds of the bytes that are counted.
use Rattle.given_lines.specs.Given.{lines_of, lines_left}
use Rattle.given_lines.proofs.Lengths.{MeasuringText}
use Rattle.given_lines.proofs.measure.text_length.Given as goal

abbrev pub invariant-loop-line : goal.invariant-loop-line
invariant-loop-line l = MeasuringText (lines_of l.fn.given) (lines_left l.line-iterator) l.total
