-- Before each line, `Begun` holds of the text: what is left are the lines that are left.
use Rattle.given_lines.proofs.Texts.{lines-parts, no_lines}
use Rattle.given_lines.proofs.Begun.{begun-end, next-room, begun-next}
use Rattle.given_lines.proofs.writing.write_text.Goals as goal

pub write_line-written-requires : goal.write_line-written-requires
write_line-written-requires c = next-room c.loop-line.invariant (lines-parts c.in-Some.ensures.steps)

pub loop-line-preserved : goal.loop-line-preserved
loop-line-preserved c = begun-next c.loop-line.invariant (lines-parts c.in-Some.ensures.steps) c.write_line-written.ensures

pub returns : goal.returns
returns c = begun-end c.loop-line.invariant (no_lines c.in-None.ensures.steps.0)
