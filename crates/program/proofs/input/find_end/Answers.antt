-- Before each line, `Seeking` holds: none of the lines before it is `end`.
use mathlib.Core.Path.{◌∙◌}
use Rattle.text.proofs.Bytes.{bytes-equal}
use Rattle.meaning.specs.Text.{bytes}
use Rattle.meaning.proofs.Results.{none-refused}
use Rattle.program.specs.Input.{EndYield}
use Rattle.program.proofs.Parting.{seeking-start, seeking-turn, seeking-found, seeking-end}
use Rattle.program.proofs.input.find_end.Goals as goal

pub loop-at-init : goal.loop-at-init
loop-at-init c = seeking-start _

pub returns-then-eq : goal.returns-then-eq
unfolding bytes EndYield
returns-then-eq c =
    seeking-found c.loop-at.invariant c.args.text.ended c.loop-at-test.true c.line_end-end.ensures (c.eq.ensures ∙ bytes-equal _ _) c.if-eq.true

pub loop-at-preserved : goal.loop-at-preserved
unfolding bytes
loop-at-preserved c =
    seeking-turn c.loop-at.invariant c.args.text.ended c.loop-at-test.true c.line_end-end.ensures (c.eq.ensures ∙ bytes-equal _ _) c.if-eq.false

pub returns : goal.returns
unfolding EndYield
returns c = none-refused 2 (seeking-end c.loop-at.invariant c.loop-at-test.false)
