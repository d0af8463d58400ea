-- `service::showing::stretch_of`: the walk to the line, with what holds before each line as the invariant.
use mathlib.Core.Path.{◌∙◌}
use Rattle.service.specs.Taken.{Took}
use Rattle.service.proofs.Standing.{taken-here}
use Rattle.service.proofs.Shown.{Showing, showing-first, showing-end, showing-line, showing-next}
use borrow.Author.Rules.{rules}
use Rattle.service.proofs.showing.stretch_of.Goals as goal
use Rattle.service.proofs.showing.stretch_of.Goals.{In-Some}

pub loop-taken-init : goal.loop-taken-init
loop-taken-init c =
    let start = c.over-walk.ensures in
    (start.over, rw (start.at-start, start.first, start.none-counted) (showing-first c.args.list.now c.args.line c.requires))

-- what held before the line that is taken, and the line
here : (c : In-Some) → Showing c.args.list.now c.args.line c.in-Some.taken.before c.loop-taken.walk.at c.in-Some.taken.number
here c = let takes = c.in-Some.ensures in rw (takes.counts-before, takes.number_is) c.loop-taken.invariant.1

took : (c : In-Some) → Took (here c).stands c.next.new.numbers c.in-Some.taken c.next.new.self.at
took c = taken-here c.loop-taken.invariant.0 c.in-Some.ensures (here c).stands

pub returns-then-taken-line : goal.returns-then-taken-line
returns-then-taken-line c =
    let l = (goal.at.returns-then-taken-line c).In-Some in
    showing-line (here l) _ _ (took l).left_is (took l).next c.if-taken-line.true

pub loop-taken-preserved : goal.loop-taken-preserved
loop-taken-preserved c =
    let l = (goal.at.loop-taken-preserved c).In-Some in
    let takes = c.in-Some.ensures in (
      takes.same_list ∙ c.loop-taken.invariant.0,
      rw (takes.counts-after, takes.number-after) (showing-next (here l) _ _ (took l).left_is (took l).next c.if-taken-line.false),
    )

pub returns : goal.returns
returns c = showing-end c.loop-taken.invariant.1 _ (search rules) (rw c.loop-taken.invariant.0 at c.in_default.ensures)
