-- `service::working::work_lines`: the walk that works each line, with what holds before each line as the invariant.
use mathlib.Core.Path.{◌≡◌, refl, ◌∙◌}
use Rattle.std.specs.Prelude.{Ok, Err}
use Rattle.service.specs.Taken.{Took}
use Rattle.reader.proofs.Placing.{passed_on, refused_as, gone_on}
use Rattle.service.proofs.Standing.{taken-here}
use Rattle.service.proofs.Worked.{WorkingOn, working-first, working-end, working-false, working-next, value-inside, values-given, worked-so}
use borrow.Author.Rules.{rules}
use Rattle.service.proofs.working.work_lines.Goals as goal
use Rattle.service.proofs.working.work_lines.Goals.{In-Some, In_ok-made}

pub loop-line-init : goal.loop-line-init
loop-line-init c =
    let start = c.over-walk.ensures in
    (start.over, rw (start.at-start, start.first, start.none-counted) (working-first c.args.list.now c.args.inputs.now c.args.values.now c.told-values c.requires))

-- what held before the line that is taken, and the line
here : (c : In-Some) → WorkingOn c.args.list.now c.args.inputs.now c.loop-line.values c.in-Some.line.before c.loop-line.walk.at c.in-Some.line.number
here c = let takes = c.in-Some.ensures in rw (takes.counts-before, takes.number_is) c.loop-line.invariant.1

took : (c : In-Some) → Took (here c).stands c.next.new.numbers c.in-Some.line c.next.new.self.at
took c = taken-here c.loop-line.invariant.0 c.in-Some.ensures (here c).stands

pub line_works-requires : goal.line_works-requires
line_works-requires c = let l = (goal.at.line_works-requires c).In-Some in values-given (here l) (took l)

-- what a line that is not refused makes
gone : (c : In_ok-made) → c.line_works.result ≡ Ok c.in_ok-made.made
gone c = gone_on c.line_works.result _ c.map_err.ensures.cases c.in_ok-made.was

pub take_value-requires : goal.take_value-requires
take_value-requires c z value =
    let l = (goal.at.take_value-requires c).In-Some in
    let w = here l in
    let yields = worked-so w (took l) (Ok c.in_ok-made.made) c.input_at-input.ensures (rw (gone (goal.at.take_value-requires c).In_ok-made) at c.line_works.ensures) in
    value-inside w _ _ (took l).left_is _ yields (took l).kept z value

pub loop-line-preserved : goal.loop-line-preserved
loop-line-preserved c =
    let l = (goal.at.loop-line-preserved c).In-Some in
    let takes = c.in-Some.ensures in
    let w = here l in
    let yields = worked-so w (took l) (Ok c.in_ok-made.made) c.input_at-input.ensures (rw (gone (goal.at.loop-line-preserved c).In_ok-made) at c.line_works.ensures) in (
      takes.same_list ∙ c.loop-line.invariant.0,
      rw (c.take_value.ensures, takes.counts-after, takes.number-after) (working-next w _ _ (took l).left_is _ yields (took l).kept (took l).next),
    )

pub returns-in_err-made : goal.returns-in_err-made
returns-in_err-made c =
    let l = (goal.at.returns-in_err-made c).In-Some in
    let w = here l in
    let (e, is, given, out) = passed_on c.line_works.result c.from_residual.result _ c.map_err.ensures.cases c.in_err-made.was c.from_residual.ensures.1 in
    let so : (c.in_err-made.field-0.0.refusal ≡ e) × (c.in_err-made.field-0.0.place ≡ c.in-Some.line.number) = search (rules, given) in
    let yields = worked-so w (took l) (Err e) c.input_at-input.ensures (rw is at c.line_works.ensures) in
    λ m. rw (refused_as out so.0 so.1) (working-false w _ _ (took l).left_is (record { refusal = e; place = c.in-Some.line.number }) yields refl m _)

pub returns : goal.returns
returns c m = working-end c.loop-line.invariant.1 (rw c.loop-line.invariant.0 at c.in_default.ensures) m _
