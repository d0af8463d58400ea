-- The text as a whole, line 0, then the lines after it.
use mathlib.Core.Path.{◌≡◌, refl, sym, ap, ◌∙◌}
use Prim.Native.Nat.{ℕ, ◌+◌, ◌≤◌}
use native.Mathlib.Omega.{arith}
use lib.ListN.{length}
use lib.Seq.{length-take-le}
use Rattle.std.specs.Prelude.{Result, Ok}
use Rattle.meaning.specs.Line.{line_of}
use Rattle.meaning.specs.Known.{fresh}
use Rattle.meaning.specs.Refusal.{text_limit}
use Rattle.text.specs.Place.{end_of, line_at}
use Rattle.lines.proofs.Answers.{no-line-meaning, line-meaning, line-next}
use Rattle.refusal.specs.declared.refused.Refusal.{Refusal}
use Rattle.reader.specs.Read.{first_meaning}
use Rattle.reader.specs.Step.{step_option}
use Rattle.reader.proofs.Steps.{no-line-step, line_step, numbers-fit, line-parsed}
use Rattle.reader.proofs.Placing.{passed_on, refused_as, gone_on}
use Rattle.reader.proofs.Whole.{ended_some, first-within, lines_start, survey-not-ended, first-stopped, first-is-prime, survey-after}
use borrow.Author.Rules.{rules}
use Rattle.reader.proofs.reading.survey.Goals as goal
use Rattle.reader.proofs.reading.survey.Goals.{After-first_parsed, In-Some, In_ok-p}

pub returns-in_default-clause-yields : goal.returns-in_default-clause-yields
returns-in_default-clause-yields c =
    rw (c.at-in_default.ensures.refusal, c.at-in_default.ensures.place) (survey-not-ended c.args.list.now (omega arith) c.in_default.ensures)

-- the text has the bytes of the list, which are not too many
short : (c : In-Some) → length c.in-Some.text.bytes.now ≤ text_limit
short c = rw c.in-Some.ensures (omega arith)

pub line_of-requires : goal.line_of-requires
line_of-requires c = ended_some _ c.in-Some.text.ended

pub returns-in_default-line_of-clause-yields : goal.returns-in_default-line_of-clause-yields
returns-in_default-line_of-clause-yields c =
    let text = c.in-Some.text in
    rw (c.at-in_default-line_of.ensures.refusal, c.at-in_default-line_of.ensures.place, ← c.in-Some.ensures)
    (first-stopped text.bytes.now (short (goal.at.returns-in_default-line_of-clause-yields c).In-Some) text.ended (lines_start _ text.ended) 3
    (no-line-step 0 fresh (no-line-meaning c.line_of.ensures.read c.in_default-line_of.is)))

pub slice_bounds-numbers-end : goal.slice_bounds-numbers-end
slice_bounds-numbers-end c = numbers-fit c.line_of.ensures.read c.line_of.array_long c.in-Some-line_of.is

pub slice_bounds-parsed-end : goal.slice_bounds-parsed-end
slice_bounds-parsed-end c = sym (length-take-le _ _ (numbers-fit c.line_of.ensures.read c.line_of.array_long c.in-Some-line_of.is))

pub invariant_of-parsed : goal.invariant_of-parsed
invariant_of-parsed c = record { parsed = line-parsed c.line_of.ensures.read c.line_of.array_long c.in-Some-line_of.is }

-- line 0, as it was read
first_read : (c : After-first_parsed) {x : Result ℕ Refusal} → c.first_parsed.result ≡ x → first_meaning x ≡ step_option 0 fresh (line_of (line_at c.in-Some.text.bytes.now 0))
first_read c is = ap first_meaning (sym is) ∙ line_step 0 fresh (line-meaning c.line_of.ensures.read c.in-Some-line_of.is) c.first_parsed.ensures.yields

second : (c : After-first_parsed) → c.in-Some-line_of.line.next ≡ end_of c.in-Some.text.bytes.now 0 + 1
second c = line-next c.in-Some.text.bytes.now 0 c.line_of.ensures.next c.in-Some-line_of.is

-- p, where line 0 is not refused
gone : (c : In_ok-p) → c.first_parsed.result ≡ Ok c.in_ok-p.p
gone c = gone_on c.first_parsed.result _ c.map_err.ensures.cases c.in_ok-p.was

pub survey_from-requires : goal.survey_from-requires
survey_from-requires c =
    let at_first = (goal.at.survey_from-requires c).After-first_parsed in
    let within = first-within c.in-Some.text.bytes.now c.in-Some.text.ended in (
      omega (arith, second at_first),
      omega (arith, within, second at_first),
      first-is-prime _ _ (first_read at_first (gone (goal.at.survey_from-requires c).In_ok-p)),
      (rw (gone (goal.at.survey_from-requires c).In_ok-p) at c.first_parsed.ensures.small),
    )

pub returns-in_err-p-clause-yields : goal.returns-in_err-p-clause-yields
returns-in_err-p-clause-yields c =
    let text = c.in-Some.text in
    let at_first = (goal.at.returns-in_err-p-clause-yields c).After-first_parsed in
    let (e, is, given, out) = passed_on c.first_parsed.result c.from_residual.result _ c.map_err.ensures.cases c.in_err-p.was c.from_residual.ensures.1 in
    let so : (c.in_err-p.field-0.0.refusal ≡ e) × (c.in_err-p.field-0.0.place ≡ 0) = search (rules, given) in
    rw (refused_as out so.0 so.1, ← c.in-Some.ensures)
    (first-stopped text.bytes.now (short (goal.at.returns-in_err-p-clause-yields c).In-Some) text.ended (lines_start _ text.ended) _ (first_read at_first is))

pub returns-clause-yields : goal.returns-clause-yields
returns-clause-yields c =
    let text = c.in-Some.text in
    let at_first = (goal.at.returns-clause-yields c).After-first_parsed in
    rw (second at_first) at c.survey_from.ensures.yields
    ∙ survey-after text.bytes.now (short (goal.at.returns-clause-yields c).In-Some) text.ended (lines_start _ text.ended) _ (first_read at_first (gone (goal.at.returns-clause-yields c).In_ok-p))
    ∙ rw c.in-Some.ensures refl
