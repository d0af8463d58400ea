-- Reading given lines by the reader's steps: the lines that are left begin with the one that is taken, a line that was taken is what a step asks for,
-- and what holds before each line is what holds in a walk over a text.
use mathlib.Core.Path.{◌≡◌, refl, sym, ap, subst, ◌∙◌}
use mathlib.Core.Bool.{true}
use mathlib.Core.List.{List, [], ◌∷◌, map}
use mathlib.Core.Option.{none, some}
use Prim.Native.Nat.{ℕ, suc, ◌+◌, ◌≤◌, ◌<◌}
use native.Mathlib.Omega.{arith}
use lib.ListN.{length, get_or, drop, replicate, length-append}
use lib.IntN.{ℤ}
use Rattle.meaning.specs.Text.{lines_of, is_ended}
use Rattle.meaning.specs.Line.{line_of}
use Rattle.meaning.specs.Line.{Line as Meant}
use Rattle.meaning.specs.Known.{Known, fresh}
use Rattle.meaning.specs.Refusal.{text_limit, value_limit, plain, read_from, reading}
use Rattle.meaning.specs.Write.{Given, given_text, text_of, lines_given}
use Rattle.lines.proofs.Answers.{good-line}
use Rattle.reader.specs.State.{state_of}
use Rattle.reader.specs.Line.{ParsedLine}
use Rattle.reader.specs.Step.{stops, step_option, placed_at}
use Rattle.reader.specs.Size.{counted as Counts-of}
use Rattle.reader.specs.Read.{only, refused_at, survey_of}
use Rattle.reader.proofs.Steps.{no-line-step, line_step}
use Rattle.reader.proofs.Walk.{Walking, placed-long, walk_start, walk_end, walk-stopped, walk-next}
use Rattle.reader.proofs.Whole.{first-stopped, first-is-prime, survey-after}
use Rattle.given_lines.specs.Given.{line_meaning}
use Rattle.given_lines.specs.Given.{lines_of as rows-lines}
use Rattle.given_lines.specs.declared.given.Given.{Given as Rows}
use Rattle.std.specs.Prelude.{Result, Ok, Err}
use Rattle.refusal.specs.Refusal.{number_of}
use Rattle.refusal.specs.declared.refused.Refusal.{Refusal}
use Rattle.reader.specs.declared.state.State.{State}
use Rattle.writer.specs.Survey.{StepReady, AsFirst, AsLater, IsRead}
use Rattle.given_lines.specs.Line.{ReadsAs}
use Rattle.given_lines.specs.declared.given.GivenLine.{GivenLine}
use Rattle.given_lines.specs.declared.line.Readable.{Readable}
use Rattle.meaning.proofs.Write.{lines-given}
use Rattle.given_lines.proofs.Texts.{text-ended}

-- ---- the text of the lines, by its first line

module _ {all later : List Given} {g : Given} (is : all ≡ g ∷ later) where
  line-here : map given_text all ≡ given_text g ∷ map given_text later
  line-here = ap (map given_text) is

  first-here : lines_of (text_of all) ≡ given_text g ∷ map given_text later
  first-here = lines-given all ∙ line-here

  given-ended : is_ended (text_of all) ≡ true
  given-ended = text-ended g later is

  -- its bytes, and those of the lines after it
  pub bytes-here : {bytes : ℕ} → bytes ≡ suc (length (given_text g)) → length (text_of all) ≡ bytes + length (text_of later)
  unfolding text_of
  bytes-here e =
      let line = given_text g in
      let rest = text_of later in
      ap (λ (gs : List Given). length (text_of gs)) is ∙ omega (arith, length-append line (10 ∷ rest))

-- a line that is read is what a step asks for
pub read-parsed : {l : GivenLine} {r : Readable} → ReadsAs l r → ParsedLine r.word l.numbers.now
read-parsed {l} {r} reads =
    let good = good-line (given_text (line_meaning l)) reads.is in
    record { counted = good.counted; most = reads.most; small = λ i h. good.small i }

-- ---- the walk

-- where the walk over all lines stands before line n, when these are left: at line 0, or after it, in a walk over the lines from line 1 on.
pub data Standing (all left : List Given) (st : State) (n : ℕ) : Type 0 where
  at_first : n ≡ 0 → left ≡ all → st.counts ≡ (Counts-of 0 0 0 0) → length st.ends ≡ value_limit → Standing all left st n
  at-later : (later : List Given) (places : List ℕ)
      → (length (text_of all) ≤ text_limit
      → survey_of (read_from plain 1 (only st.p) (map given_text later)) ≡ survey_of (reading (text_of all)))
      → Walking (map given_text later) (map given_text left) st.p st places n
      → Standing all left st n

-- with the bytes that are counted before line n
pub record WalkedGiven (all left : List Given) (st : State) (total n : ℕ) : Type 0 where
  pub few : total ≤ text_limit
  pub bytes : length (text_of all) ≡ total + length (text_of left)
  pub stands : Standing all left st n

-- where the bytes of a line pass the limit, so do those of all lines
pub too-long : {all left later : List Given} {g : Given} {st : State} {total n size : ℕ} → WalkedGiven all left st total n → left ≡ g ∷ later
    → size ≡ suc (length (given_text g)) → text_limit < total + size → text_limit < length (text_of all)
too-long w is sized over = omega (arith, w.bytes, bytes-here is sized, over)

module _ {all left : List Given} {st : State} {n : ℕ} where
  -- what a later line asks for
  pub standing-ready : Standing all left st n → StepReady n st
  standing-ready (at_first z _ _ _) = record { later = λ h. absurd (omega arith) }
  standing-ready (at-later later places _ w) = record { later = λ _. w.sized }

  -- after the last line the list is read
  pub standing-end : Standing all left st n → 0 < length all → left ≡ [] → length (text_of all) ≤ text_limit
      → IsRead (survey_of (reading (text_of all)))
  unfolding IsRead
  standing-end (at_first z same _ _) h over short = absurd (omega (arith, ap length (sym same ∙ over)))
  standing-end (at-later later places whole w) h over short =
      (st.p, st.counts.values, st.counts.inputs, st.counts.cells.0, st.counts.rows, walk_end w (ap (map given_text) over) ∙ whole short)

  module _ {g : Given} {later : List Given} (is : left ≡ g ∷ later) where
    -- a line that is refused, by what is known before it
    standing-refused : Standing all left st n → (r : ℕ)
        → (n ≡ 0 → stops r ≡ step_option 0 fresh (line_of (given_text g)))
        → (0 < n → (s : Known) (places : List ℕ) → length places ≡ value_limit → s ≡ state_of st places → stops r ≡ step_option 1 s (line_of (given_text g)))
        → length (text_of all) ≤ text_limit → refused_at r n ≡ survey_of (reading (text_of all))
    standing-refused (at_first z same _ _) r first rest short =
        let here : all ≡ g ∷ later = sym same ∙ is in
        rw z (first-stopped (text_of all) short (given-ended here) (first-here here) r (first z))
    standing-refused (at-later from places whole w) r first rest short =
        walk-stopped w (line-here is) r (rest (omega (arith, w.later)) (state_of st places) places w.places-long refl) ∙ whole short

    pub standing-none : Standing all left st n → line_of (given_text g) ≡ none
        → length (text_of all) ≤ text_limit → refused_at 3 n ≡ survey_of (reading (text_of all))
    standing-none standing e = standing-refused standing 3 (λ _. no-line-step 0 fresh e) (λ _ s _ _ _. no-line-step 1 s e)

    -- a line that is read, and what it does
    module _ {m : Meant} {after : State} {r : Result Unit Refusal} (reads : line_of (given_text g) ≡ some m)
        (first : n ≡ 0 → AsFirst m st after r) (rest : 0 < n → AsLater m st after r) where
      pub standing-stopped : Standing all left st n → {k : Refusal} → r ≡ Err k
          → length (text_of all) ≤ text_limit → refused_at (number_of k) n ≡ survey_of (reading (text_of all))
      standing-stopped standing {k} q =
          standing-refused standing (number_of k) (λ z. line_step 0 fresh reads (rw q at (first z).yields)) (λ h s places long e. line_step 1 s reads (rw q at ((rest h).yields s places long e)))

      pub standing-next : Standing all left st n → r ≡ Ok tt → Standing all later after (n + 1)
      standing-next (at_first z same e long) is-next =
          let here : all ≡ g ∷ later = sym same ∙ is in
          let yields = line_step 0 fresh reads (rw is-next at (first z).yields) in
          let lines = map given_text later in
          at-later later (replicate value_limit 0)
          (λ short. survey-after (text_of all) short (given-ended here) (first-here here) after.p yields)
          (rw z (walk_start lines after.p after (replicate value_limit 0) refl ((first z).same-counts ∙ e) (ap length (first z).same-ends ∙ long)
          (first-is-prime (given_text g) after.p yields) (rw is-next at (first z).small) refl))
      standing-next (at-later from places whole w) is-next =
          let h : 0 < n = omega (arith, w.later) in
          let held = rw is-next at (rest h).held in
          let same : after.p ≡ st.p = held.prime in
          at-later from (placed_at st.counts places) (rw same whole)
          (subst (λ (q : ℕ). Walking (map given_text from) (map given_text later) q after (placed_at st.counts places) (n + 1)) (sym same)
          (walk-next w (line-here is) after (placed_at st.counts places)
          (line_step 1 _ reads (rw is-next at ((rest h).yields _ places w.places-long refl)))
          held (placed-long st.counts places)))

-- there are as many lines as codes
pub length-lines_given : (codes counts : List ℕ) (numbers : List ℤ) → length (lines_given codes counts numbers) ≡ length codes
unfolding lines_given
length-lines_given [] counts numbers = refl
length-lines_given (code ∷ codes) counts numbers = ap suc (length-lines_given codes (drop 1 counts) (drop (get_or counts 0 0) numbers))

pub some-given : (g : Rows) → 0 < length g.words.now → 0 < length (rows-lines g)
some-given g h = omega (arith, length-lines_given g.words.now g.counts.now g.numbers.now)

pub no-lines-given : (codes counts : List ℕ) (numbers : List ℤ) → length codes ≡ 0 → lines_given codes counts numbers ≡ []
unfolding lines_given
no-lines-given [] counts numbers e = refl
no-lines-given (code ∷ codes) counts numbers e = absurd (omega arith)
