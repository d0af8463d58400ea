-- Walking the lines of a list: what holds before each line, that it holds again after a line that is not refused, and what is found
-- where the walk ends.
use mathlib.Core.Path.{◌≡◌, refl, sym, ap, ◌∙◌, subst}
use mathlib.Core.List.{List, [], ◌∷◌, ◌++◌}
use mathlib.Core.Option.{none}
use Prim.Native.Nat.{ℕ, suc, ◌+◌, ◌≤◌, ◌<◌}
use native.Mathlib.Omega.{arith}
use native.Mathlib.Numerals.{add-one}
use lib.Dec.{leb→le}
use lib.ListN.{length, take, length-append, length-set}
use lib.Seq.{length-take-le}
use Rattle.std.proofs.lemmas.List.{length-map}
use Rattle.std.specs.Prelude.{Ok}
use Rattle.meaning.specs.Number.{OddPrime}
use Rattle.meaning.specs.Line.{Line, line_of}
use Rattle.meaning.specs.Known.{Known}
use Rattle.meaning.specs.Meaning.{gadget, after}
use Rattle.meaning.specs.Refusal.{value_limit, cell_limit, Reading, on_reading, rules, first_broken, plain, read_line, read_from}
use Rattle.meaning.specs.Kept.{Keeps, Sound}
use Rattle.meaning.proofs.Kept.{keeps-all}
use Rattle.meaning.proofs.Lines.{sound-after}
use Rattle.text.specs.Place.{lines_from}
use Rattle.rules.specs.Ready.{greatest}
use Rattle.rules.specs.Yield.{ends_meaning}
use Rattle.reader.specs.State.{state_of, WithinLimits, Ordered}
use Rattle.reader.specs.Step.{stops, goes, step_option, placed_at, Stepped}
use Rattle.reader.specs.Size.{counted as counts}
use Rattle.reader.specs.Read.{only, counted, refused_at, survey_of}
use Rattle.reader.specs.declared.counts.Counts.{Counts}
use Rattle.reader.specs.declared.state.State.{State}
use Rattle.reader.proofs.Steps.{few}
use Rattle.reader.proofs.Stopping.{stopped-at, gone_at, step-later}

-- what holds before line n of a list, of which `lines` are the lines from 1 on and `left` those from n on. Whether the lines are parts of a text
-- or are given as words and numbers makes no difference here. No step asks for `sound` and `ordered`, which say of what the code knows that p is an odd
-- prime, and that the ends of each value lie in its signed range and in order. FORMAT 1.1, 5.1
pub record Walking (lines left : List (List ℕ)) (p : ℕ) (st : State) (places : List ℕ) (n : ℕ) : Type 0 where
  pub later : 1 ≤ n
  pub prime : st.p ≡ p
  pub sized : WithinLimits st
  pub places-long : length places ≡ value_limit
  pub sound : Sound n (state_of st places)
  pub ordered : Ordered (state_of st places).known
  pub survey-left : survey_of (read_from plain 1 (only p) lines) ≡ survey_of (read_from plain n (state_of st places) left)

-- as many values are known as the code counts
pub known-count : (st : State) (places : List ℕ) → length st.ends ≡ value_limit → st.counts.values ≤ value_limit → length (state_of st places).known ≡ st.counts.values
known-count st places long few-values = length-map (take st.counts.values st.ends) ends_meaning ∙ length-take-le st.counts.values st.ends (omega (arith, long))

pub placed-long : (c : Counts) (places : List ℕ) → length (placed_at c places) ≡ length places
unfolding placed_at
placed-long c places = length-set places c.values c.cells.0

-- before line 1 nothing but p is known
pub walk_start : (lines : List (List ℕ)) (p : ℕ) (st : State) (places : List ℕ) → st.p ≡ p → st.counts ≡ counts 0 0 0 0 → length st.ends ≡ value_limit
    → OddPrime p → p ≤ greatest → length places ≡ value_limit → Walking lines lines p st places 1
unfolding only
walk_start lines p st places prime none-yet long odd small o = record {
  later = omega arith;
  prime = prime;
  sized = record {
    p-low = rw prime odd.three;
    p-high = rw prime small;
    long = long;
    few = rw none-yet (record { values-most = omega arith; inputs-most = omega arith; cells-most = omega arith; rows-most = omega arith });
    sized = λ i d h. let none : i < 0 = rw none-yet at h in absurd (omega arith);
  };
  places-long = o;
  sound = record { start = λ e. absurd (omega arith); prime = λ _. rw prime odd; ranged = rw none-yet tt };
  ordered = rw none-yet tt;
  survey-left = rw (prime, none-yet) refl;
}

module _ {lines left : List (List ℕ)} {p : ℕ} {st : State} {places : List ℕ} {n : ℕ}
    (w : Walking lines left p st places n) where
  pub walk_end : left ≡ [] → counted p st.counts.values st.counts.inputs st.counts.cells.0 st.counts.rows ≡ survey_of (read_from plain 1 (only p) lines)
  unfolding survey_of read_from on_reading
  walk_end none_left =
      sym (w.survey-left ∙ rw (none_left, w.prime) (ap (λ (v : ℕ). counted p v st.counts.inputs st.counts.cells.0 st.counts.rows)
      (known-count st places w.sized.long w.sized.few.values-most)))

  module _ {line : List ℕ} {later : List (List ℕ)} (is : left ≡ line ∷ later) where
    abbrev rest : Known → Reading
    rest z = read_from plain (suc n) z later

    survey-here : survey_of (read_from plain 1 (only p) lines) ≡ survey_of (read_line plain n (state_of st places) (line_of line) rest)
    unfolding read_from
    survey-here = w.survey-left ∙ rw is refl

    pub walk-stopped : (r : ℕ) → stops r ≡ step_option 1 (state_of st places) (line_of line) → refused_at r n ≡ survey_of (read_from plain 1 (only p) lines)
    walk-stopped r e =
        sym (survey-here ∙ stopped-at n (state_of st places) rest (line_of line) r (e ∙ step-later n w.later (state_of st places) (line_of line)))

    -- the walk goes on with the next line
    module _ (next : State) (ps : List ℕ) (e : goes (state_of next ps) ≡ step_option 1 (state_of st places) (line_of line))
        (step : Stepped (Ok tt) st next) (places-long : length ps ≡ length places) where
      abbrev s : Known
      s = state_of st places

      abbrev t : Known
      t = state_of next ps

      gone : (l : Line) × (first_broken rules n s l ≡ none) × (t ≡ after s l) × (survey_of (read_line plain n s (line_of line) rest) ≡ survey_of (rest t))
      gone = gone_at n s rest (line_of line) t (e ∙ step-later n w.later s (line_of line))

      keeps : Keeps n s gone.0
      keeps = keeps-all n s gone.0 gone.1

      room : WithinLimits next
      unfolding after
      room =
          let c = st.counts in
          let g = gadget s gone.0 in
          let f = few n s gone.0 keeps in
          let long : length next.ends ≡ value_limit = step.long ∙ w.sized.long in
          let cells_are : next.counts.cells.0 ≡ c.cells.0 + g.width = ap (λ (z : Known). z.cells) gone.2 in
          let rows_are : next.counts.rows ≡ c.rows + length g.rows = ap (λ (z : Known). z.rows) gone.2 in
          let inputs_are : next.counts.inputs ≡ c.inputs + g.inputs = ap (λ (z : Known). z.inputs) gone.2 in
          let count : length t.known ≡ next.counts.values = known-count next ps long step.left.0 in
          let known-are : length t.known ≡ length (g.narrowed ++ g.made) = ap (λ (z : Known). length z.known) gone.2 in
          let before = known-count st places w.sized.long w.sized.few.values-most in
          record {
            p-low = rw step.prime w.sized.p-low;
            p-high = rw step.prime w.sized.p-high;
            long = long;
            few = record {
              values-most = step.left.0;
              inputs-most = omega (arith, inputs_are, count, known-are, length-append g.narrowed g.made, f.0, f.2, before, w.sized.few.inputs-most);
              cells-most = omega (arith, cells_are, leb→le (c.cells.0 + g.width) cell_limit keeps.cells_fit);
              rows-most = omega (arith, cells_are, rows_are, f.1, w.sized.few.rows-most);
            };
            sized = step.sized;
          }

      pub walk-next : Walking lines later p next ps (n + 1)
      walk-next = record {
        later = omega arith;
        prime = step.prime ∙ w.prime;
        sized = room;
        places-long = places-long ∙ w.places-long;
        sound = rw (add-one n) (subst (λ (z : Known). Sound (suc n) z) (sym gone.2) (sound-after n s gone.0 w.sound keeps));
        ordered = step.ordered w.ordered;
        survey-left = survey-here ∙ gone.3 ∙ ap (λ (i : ℕ). survey_of (read_from plain i t later)) (sym (add-one n));
      }

-- ---- the walk over a text

-- the lines are those of a text from `start` on, and line n starts at `at`; no more lines than bytes stand before it
pub record Walked (text : List ℕ) (start p : ℕ) (st : State) (places : List ℕ) (at n : ℕ) : Type 0 where
  pub inside : at ≤ length text
  pub counted : n ≤ at
  pub walking : Walking (lines_from text start) (lines_from text at) p st places n
