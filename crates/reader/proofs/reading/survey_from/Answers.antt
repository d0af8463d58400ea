-- The walk over the lines, with what holds before each of them as the invariant. Bytes that spell no line are refused 3, and a line that they
-- spell is stepped over.
use mathlib.Core.Path.{◌≡◌, refl}
use native.Mathlib.Omega.{arith}
use mathlib.Core.List.{◌∷◌}
use Prim.Native.Nat.{◌+◌}
use lib.ListN.{replicate}
use Rattle.meaning.specs.Refusal.{value_limit}
use Rattle.text.specs.Place.{end_of, line_at, lines_from}
use Rattle.text.proofs.Places.{lines_none}
use Rattle.text.proofs.Ends.{in-line, lines_at}
use Rattle.lines.proofs.Answers.{no-line-meaning, line-meaning, line-most, line-next}
use Rattle.reader.specs.Step.{placed_at}
use Rattle.reader.proofs.Steps.{no-line-step, line_step, line-parsed}
use Rattle.reader.proofs.Placing.{passed_on, refused_as, gone_on}
use Rattle.reader.proofs.Walk.{placed-long, walk_start, walk_end, walk-stopped, walk-next}
use borrow.Author.Rules.{rules}
use Rattle.reader.proofs.reading.survey_from.Goals as goal
use Rattle.reader.proofs.reading.survey_from.Goals.{In-Some}

pub loop-at-init : goal.loop-at-init
loop-at-init c = (
  replicate value_limit 0,
  record {
    inside = c.requires.1;
    counted = c.requires.0;
    walking =
        let over = c.over-state.ensures in
        walk_start _ c.args.p c.over-state.result (replicate value_limit 0) over.prime over.counts over.long c.requires.2 c.requires.3 refl;
  },
)

pub returns-in_default-clause-yields : goal.returns-in_default-clause-yields
returns-in_default-clause-yields c =
    rw (c.at.ensures.refusal, c.at.ensures.place) (walk-stopped c.loop-at.invariant.1.walking (lines_at _ _ c.args.text.ended c.loop-at-test.true) 3 (no-line-step 1 _ (no-line-meaning c.line_of.ensures.read c.in_default.is)))

-- the lines that are left begin with the one at `at`
line-here : (c : In-Some) → lines_from c.args.text.bytes.now c.loop-at.at ≡ line_at c.args.text.bytes.now c.loop-at.at ∷ lines_from c.args.text.bytes.now (end_of c.args.text.bytes.now c.loop-at.at + 1)
line-here c = lines_at c.args.text.bytes.now c.loop-at.at c.args.text.ended c.loop-at-test.true

next-at : (c : In-Some) → c.in-Some.line.next ≡ end_of c.args.text.bytes.now c.loop-at.at + 1
next-at c = line-next c.args.text.bytes.now c.loop-at.at c.line_of.ensures.next c.in-Some.is

pub shared_ref_as_front-parsed : goal.shared_ref_as_front-parsed
shared_ref_as_front-parsed c = line-most c.line_of.ensures.read c.in-Some.is

pub invariant_of-parsed : goal.invariant_of-parsed
invariant_of-parsed c = record { parsed = line-parsed c.line_of.ensures.read c.line_of.array_long c.in-Some.is }

pub step-requires : goal.step-requires
step-requires c = c.loop-at.invariant.1.walking.sized

pub returns-in_err-map_err-clause-yields : goal.returns-in_err-map_err-clause-yields
returns-in_err-map_err-clause-yields c =
    let w = c.loop-at.invariant.1.walking in
    let step = c.step.ensures.yields _ c.loop-at.invariant.0 w.places-long refl in
    let (e, is, given, out) = passed_on c.step.result c.from_residual.result _ c.map_err.ensures.cases c.in_err-map_err.was c.from_residual.ensures.1 in
    let so : (c.in_err-map_err.field-0.0.refusal ≡ e) × (c.in_err-map_err.field-0.0.place ≡ c.loop-at.n) = search (rules, given) in
    rw (refused_as out so.0 so.1)
    (walk-stopped w (line-here (goal.at.returns-in_err-map_err-clause-yields c).In-Some) _ (line_step 1 _ (line-meaning c.line_of.ensures.read c.in-Some.is) (rw is at step)))

pub loop-at-smaller : goal.loop-at-smaller
loop-at-smaller c = omega (arith, next-at (goal.at.loop-at-smaller c).In-Some, c.loop-at-test.true)

pub loop-at-preserved : goal.loop-at-preserved
loop-at-preserved c =
    let at-line = (goal.at.loop-at-preserved c).In-Some in
    let read = c.line_of.ensures.read in
    let loop = c.loop-at in
    let places = loop.invariant.0 in
    let w = loop.invariant.1.walking in
    let stepped = c.step.ensures in
    let gone = gone_on c.step.result _ c.map_err.ensures.cases c.in_ok-map_err.was in
    rw (next-at at-line) (
      placed_at loop.state.counts places,
      record {
        inside = omega (arith, (in-line c.args.text.bytes.now c.args.text.ended loop.at c.loop-at-test.true).inside);
        counted = omega (arith, loop.invariant.1.counted);
        walking =
            walk-next w (line-here at-line) _ (placed_at loop.state.counts places)
            (line_step 1 _ (line-meaning read c.in-Some.is) (rw gone at stepped.yields _ places w.places-long refl))
            (rw gone at stepped.held) (placed-long loop.state.counts places);
      },
    )

pub returns-clause-yields : goal.returns-clause-yields
returns-clause-yields c = walk_end c.loop-at.invariant.1.walking (lines_none _ _ c.loop-at-test.false)
