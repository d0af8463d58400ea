-- Before each line, `ReadingInputs` holds: each of the lines before it is a number, and the first of these are stored.
use mathlib.Core.Path.{◌≡◌}
use mir.Syntax.{w64}
use mir.Val.{to_z, of_z}
use Rattle.program.specs.Input.{InputsYield}
use Rattle.program.proofs.Inputs.{reading-turn, reading-stops, reading-end}
use borrow.Author.Rules.{rules}
use Rattle.program.proofs.input.read_inputs.Goals as goal
use Rattle.program.proofs.input.read_inputs.Goals.{In-Some}

pub returns-in_default : goal.returns-in_default
unfolding InputsYield
returns-in_default c = reading-stops c.loop-at.invariant c.args.text.ended c.loop-at-test.true c.number_of.ensures c.in_default.is

-- a number that was read is what its bits say
kept : (c : In-Some) → to_z w64 (of_z w64 c.in-Some.number.value) ≡ c.in-Some.number.value
kept c = search rules

pub loop-at-preserved : goal.loop-at-preserved
loop-at-preserved c =
    rw (c.store.ensures, kept (goal.at.loop-at-preserved c).In-Some)
    (reading-turn c.loop-at.invariant c.args.text.ended c.loop-at-test.true c.number_of.ensures c.in-Some.is)

pub returns : goal.returns
unfolding InputsYield
returns c = reading-end c.loop-at.invariant c.loop-at-test.false
