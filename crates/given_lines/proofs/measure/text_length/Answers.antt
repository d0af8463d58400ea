-- Before each line, `MeasuringText` holds of the bytes that are counted.
use Rattle.given_lines.proofs.Lengths.{text-turn, text-over, text-end}
use Rattle.given_lines.proofs.measure.text_length.Goals as goal

pub returns-in_err-total : goal.returns-in_err-total
returns-in_err-total c = rw c.from_residual.ensures (text-over c.loop-line.invariant c.in-Some.ensures.steps c.in_err-total.ensures)

pub loop-line-preserved : goal.loop-line-preserved
loop-line-preserved c = text-turn c.loop-line.invariant c.in-Some.ensures.steps c.in_ok-total.ensures

pub returns : goal.returns
returns c = text-end c.loop-line.invariant c.in-None.ensures.steps.0
