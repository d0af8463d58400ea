-- The walk over the lines, with where it stands before each of them as the invariant. A line that is none is refused 3, and one that is read does what
-- the reader's steps say.
use mathlib.Core.Path.{◌≡◌, ap, ◌∙◌}
use mathlib.Core.Logic.{inl}
use mathlib.Core.List.{List}
use Prim.Native.Nat.{◌+◌}
use native.Mathlib.Omega.{arith}
use lib.ListN.{length}
use Rattle.meaning.specs.Write.{Given, text_of}
use Rattle.given_lines.specs.Given.{lines_of, lines_left}
use Rattle.given_lines.proofs.Texts.{no_lines}
use Rattle.reader.proofs.Placing.{passed_on, refused_as, gone_on}
use Rattle.writer.proofs.Surveying.{length-lines_given, some-given, read-parsed, bytes-here, too-long, standing-ready, standing-end, standing-none, standing-stopped, standing-next}
use borrow.Author.Rules.{rules}
use Rattle.writer.proofs.survey.survey_given.Goals as goal
use Rattle.writer.proofs.survey.survey_given.Goals.{After-into_iter-n-iterator, In-Some-line_given}

abbrev all : After-into_iter-n-iterator → List Given
all c = lines_of c.args.given

-- at the start all lines are left
lines-first : (c : After-into_iter-n-iterator) → lines_left c.into_iter-n-iterator.result.iter ≡ all c
lines-first c = rw (c.into_iter-n-iterator.ensures.into_iter_gives, c.enumerate-n-items.ensures.source) c.lines.ensures

none-counted : (c : After-into_iter-n-iterator) → c.into_iter-n-iterator.result.count ≡ 0
none-counted c = rw c.into_iter-n-iterator.ensures.into_iter_gives c.enumerate-n-items.ensures.count

count-given : (c : After-into_iter-n-iterator) → length (all c) ≡ length c.args.given.words.now
count-given c = length-lines_given c.args.given.words.now c.args.given.counts.now c.args.given.numbers.now

pub loop-n-init-derived : goal.loop-n-init-derived
loop-n-init-derived c = ((tt, tt, inl (rw (none-counted c, lines-first c, count-given c) (omega arith))), tt)

pub returns-in_default : goal.returns-in_default
returns-in_default c =
    let (is, number, next, _) = c.in-Some.ensures.steps in
    rw (c.at.ensures.refusal, c.at.ensures.place, number) (standing-none is c.loop-n.invariant.stands c.in_default.ensures)

pub invariant_of-parsed : goal.invariant_of-parsed
invariant_of-parsed c = record { parsed = read-parsed c.in-Some-line_given.ensures }

pub advance-requires : goal.advance-requires
advance-requires c = let (is, number, next, _) = c.in-Some.ensures.steps in rw number (standing-ready c.loop-n.invariant.stands)

pub returns-in_err-map_err : goal.returns-in_err-map_err
returns-in_err-map_err c =
    let (is, number, next, _) = c.in-Some.ensures.steps in
    let answer = c.advance.ensures in
    let (e, stopped, given, out) = passed_on c.advance.result c.from_residual.result _ c.map_err.ensures.cases c.in_err-map_err.was c.from_residual.ensures.1 in
    let so : (c.in_err-map_err.field-0.0.refusal ≡ e) × (c.in_err-map_err.field-0.0.place ≡ c.in-Some.n) = search (rules, given) in
    rw (refused_as out so.0 (so.1 ∙ number))
    (standing-stopped is c.in-Some-line_given.ensures.is (rw number at answer.first) (rw number at answer.later) c.loop-n.invariant.stands stopped)

-- the bytes of a line that is read, and those of the lines after it
bytes-are : (c : In-Some-line_given) → length (text_of (lines_of c.args.given))
    ≡ c.loop-n.total + c.in-Some-line_given.read.size + length (text_of (lines_left c.next.new.self.iter))
bytes-are c = omega (arith, c.loop-n.invariant.bytes, bytes-here c.in-Some.ensures.steps.0 c.in-Some-line_given.ensures.sized)

pub returns-then-too_long : goal.returns-then-too_long
returns-then-too_long c =
    let (is, _, _, _) = c.in-Some.ensures.steps in
    too-long c.loop-n.invariant is c.in-Some-line_given.ensures.sized c.if-too_long.true

pub loop-n-preserved : goal.loop-n-preserved
loop-n-preserved c =
    let (is, number, next, _) = c.in-Some.ensures.steps in
    let answer = c.advance.ensures in
    let gone = gone_on c.advance.result _ c.map_err.ensures.cases c.in_ok-map_err.was in
    record {
      few = omega arith;
      bytes = bytes-are (goal.at.loop-n-preserved c).In-Some-line_given;
      stands =
          rw next
          (standing-next is c.in-Some-line_given.ensures.is (rw number at answer.first) (rw number at answer.later) c.loop-n.invariant.stands gone);
    }

pub returns : goal.returns
returns c =
    let w = c.loop-n.invariant in
    let over = c.in-None.ensures.steps.0.0 in (
      omega (arith, w.bytes, ap length (no_lines over)),
      w.few,
      standing-end w.stands (some-given c.args.given c.requires) over (omega (arith, w.bytes, w.few, ap length (no_lines over))),
    )
