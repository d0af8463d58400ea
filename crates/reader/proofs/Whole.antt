-- What is found of a whole list: refusals 1 and 2, then line 0, then the lines after it. The lines are those of a text, wherever it comes from.
use mathlib.Core.Path.{◌≡◌, refl, sym, ap, ◌∙◌, subst}
use mathlib.Core.Bool.{true, false}
use mathlib.Core.List.{List, [], ◌∷◌}
use mathlib.Core.Option.{none}
use Prim.Native.Nat.{ℕ, ◌+◌, ◌≤◌, ◌<◌}
use native.Mathlib.Omega.{arith}
use borrow.Author.Tests.{le-leb, lt-leb}
use lib.ListN.{length}
use Rattle.meaning.specs.Text.{lines_of, is_ended}
use Rattle.meaning.specs.Line.{Line, line_of}
use Rattle.meaning.specs.Known.{Known, fresh}
use Rattle.meaning.specs.Meaning.{after}
use Rattle.meaning.specs.Refusal.{text_limit, Reading, read, on_reading, rules, first_broken, plain, read_line, read_from, reading_by, reading}
use Rattle.meaning.specs.Number.{OddPrime}
use Rattle.meaning.proofs.Kept.{keeps-all}
use Rattle.meaning.proofs.Lines.{sound-after, sound-fresh}
use Rattle.text.specs.Place.{end_of, line_at, lines_from}
use Rattle.text.proofs.Ends.{in-line, lines_at}
use Rattle.reader.specs.Step.{stops, goes, step_option}
use Rattle.reader.specs.Read.{only, refused_at, survey_of}
use Rattle.reader.proofs.Stopping.{stopped-at, gone_at}

-- ---- the first line of a text that is ended

pub ended_some : (text : List ℕ) → is_ended text ≡ true → 0 < length text
unfolding is_ended
ended_some [] e = let z : ◌≡◌ {A = ℕ} 0 1 = cc in omega arith
ended_some (x ∷ xs) e = omega arith

module _ (text : List ℕ) (ended : is_ended text ≡ true) where
  pub first-within : end_of text 0 < length text
  first-within = (in-line text ended 0 (ended_some text ended)).inside

  pub lines_start : lines_of text ≡ line_at text 0 ∷ lines_from text (end_of text 0 + 1)
  lines_start = lines_at text 0 ended (ended_some text ended)

-- p of a line 0 that is not refused is an odd prime
pub first-is-prime : (line : List ℕ) (p : ℕ) → goes (only p) ≡ step_option 0 fresh (line_of line) → OddPrime p
unfolding only
first-is-prime line p yields =
    let (l, kept, known, _) = gone_at 0 fresh (λ z. read [] z) (line_of line) (only p) yields in
    let sound = sound-after 0 fresh l sound-fresh (keeps-all 0 fresh l kept) in
    subst OddPrime (sym (ap (λ (z : Known). z.p) known)) (sound.prime (omega arith))

-- ---- the list

module _ (text : List ℕ) where
  pub survey-too-long : text_limit < length text → refused_at 1 0 ≡ survey_of (reading text)
  unfolding survey_of reading_by on_reading
  survey-too-long h = rw (lt-leb (length text) text_limit h) refl

  module _ (short : length text ≤ text_limit) where
    pub survey-not-ended : is_ended text ≡ false → refused_at 2 0 ≡ survey_of (reading text)
    unfolding survey_of reading_by on_reading
    survey-not-ended e = rw (le-leb (length text) text_limit short, e) refl

    module _ (ended : is_ended text ≡ true) {line : List ℕ} {later : List (List ℕ)} (is : lines_of text ≡ line ∷ later) where
      abbrev rest : Known → Reading
      rest z = read_from plain 1 z later

      survey-here : survey_of (reading text) ≡ survey_of (read_line plain 0 fresh (line_of line) rest)
      unfolding reading_by read_from
      survey-here = rw (le-leb (length text) text_limit short, ended, is) refl

      pub first-stopped : (n : ℕ) → stops n ≡ step_option 0 fresh (line_of line) → refused_at n 0 ≡ survey_of (reading text)
      first-stopped n yields = sym (survey-here ∙ stopped-at 0 fresh rest (line_of line) n yields)

      module _ (p : ℕ) (yields : goes (only p) ≡ step_option 0 fresh (line_of line)) where
        gone : (l : Line) × (first_broken rules 0 fresh l ≡ none) × (only p ≡ after fresh l) × (survey_of (read_line plain 0 fresh (line_of line) rest) ≡ survey_of (rest (only p)))
        gone = gone_at 0 fresh rest (line_of line) (only p) yields

        pub survey-after : survey_of (read_from plain 1 (only p) later) ≡ survey_of (reading text)
        survey-after = sym (survey-here ∙ gone.3)

-- the same of a longer text, as the check applies it
pub too_long : (text : List ℕ) → text_limit < length text → survey_of (reading text) ≡ refused_at 1 0
too_long text h = sym (survey-too-long text h)
