-- A list that was read: it is ended, it is read in one way, and what `survey` answers says of which kind it is.
use mathlib.Core.Path.{◌≡◌, refl, sym, ap, ap₂, ◌∙◌, subst}
use mathlib.Core.Bool.{Bool, true, false, cond, false≢true}
use mathlib.Core.List.{List, []}
use Prim.Native.Nat.{ℕ, ◌≤◌}
use native.Mathlib.Omega.{arith}
use lib.Dec.{leb}
use lib.ListN.{length}
use Rattle.meaning.specs.Text.{lines_of, is_ended}
use Rattle.meaning.specs.Line.{Line}
use Rattle.meaning.specs.Known.{Known, fresh}
use Rattle.meaning.specs.Refusal.{text_limit, plain, Reading, refused, read, on_reading, read_from, reading_by, reading}
use Rattle.meaning.specs.Number.{OddPrime}
use Rattle.rules.specs.Ready.{greatest}
use Rattle.reader.specs.Read.{Survey, counted, refused_at, survey_of, survey_meaning, PrimeFound}
use Rattle.reader.specs.declared.counts.Counts.{Counts}
use Rattle.reader.specs.declared.reading.Surveyed.{Surveyed}
use Rattle.std.specs.Prelude.{Result, Ok, Err, IsErrAnd}
use Rattle.refusal.specs.declared.refused.Refused.{Refused}
use Rattle.refusal.specs.Refusal.{number_of, refused_reply}
use Rattle.service.specs.Reply.{reply_meaning}
use Rattle.service.specs.Walk.{ListRead, CountsGiven}

abbrev IsRead : Reading → Type 0
IsRead (refused n i) = ⊥
IsRead (read ls s) = Unit {0}

abbrev lines_in : Reading → List Line
lines_in (refused n i) = []
lines_in (read ls s) = ls

abbrev last_in : Reading → Known
last_in (refused n i) = fresh
last_in (read ls s) = s

-- ---- it is ended

ended_by : (short ended : Bool) (r : Reading) (ls : List Line) (s : Known) → cond short (cond ended r (refused 2 0)) (refused 1 0) ≡ read ls s → ended ≡ true
ended_by true true r ls s e = refl
ended_by true false r ls s e = absurd (subst IsRead (sym e) tt)
ended_by false ended r ls s e = absurd (subst IsRead (sym e) tt)

pub read-ended : (list : List ℕ) (ls : List Line) (s : Known) → reading list ≡ read ls s → is_ended list ≡ true
unfolding reading_by
read-ended list ls s e = ended_by (leb (length list) text_limit) (is_ended list) (read_from plain 0 fresh (lines_of list)) ls s e

pub not_unended : {list : List ℕ} → ListRead list → is_ended list ≡ false → ⊥
not_unended l e = false≢true (sym e ∙ read-ended _ l.lines l.last l.is_read)

-- ---- it is read in one way

module _ {list : List ℕ} (l m : ListRead list) where
  pub same_lines : l.lines ≡ m.lines
  same_lines = ap lines_in (sym l.is_read ∙ m.is_read)

  pub same-last : l.last ≡ m.last
  same-last = ap last_in (sym l.is_read ∙ m.is_read)

-- ---- what a survey says

abbrev number_in : Survey → ℕ
number_in (counted p v i c r) = 0
number_in (refused_at n at) = n

abbrev place_in : Survey → ℕ
place_in (counted p v i c r) = 0
place_in (refused_at n at) = at

abbrev IsCounted : Survey → Type 0
IsCounted (counted p v i c r) = Unit {0}
IsCounted (refused_at n at) = ⊥

-- each count of it
abbrev count_in : (ℕ → ℕ → ℕ → ℕ → ℕ → ℕ) → Survey → ℕ
count_in f (counted p v i c r) = f p v i c r
count_in f (refused_at n at) = 0

refused-by : (r : Reading) (n at : ℕ) → refused_at n at ≡ survey_of r → r ≡ refused n at
unfolding survey_of on_reading
refused-by (refused m i) n at e = sym (ap₂ refused (ap number_in e) (ap place_in e))
refused-by (read ls s) n at e = absurd (subst IsCounted (sym e) tt)

counted-by : (list : List ℕ) (r : Reading) (p : ℕ) (c : Counts) → reading list ≡ r → OddPrime p × (p ≤ greatest)
    → counted p c.values c.inputs c.cells.0 c.rows ≡ survey_of r → CountsGiven list p c
unfolding survey_of on_reading
counted-by list (refused m i) p c is h e = absurd (subst IsCounted e tt)
counted-by list (read ls s) p c is h e =
    let prime : s.p ≡ p = sym (ap (count_in (λ q v i c r. q)) e) in
    record {
      listed = record { lines = ls; last = s; is_read = is; p-most = omega (arith, prime, h.1) };
      prime = prime;
      odd = h.0;
      counts-are = record {
        values-are = sym (ap (count_in (λ q v i c r. v)) e);
        inputs_are = sym (ap (count_in (λ q v i c r. i)) e);
        cells_are = sym (ap (count_in (λ q v i c r. c)) e);
        rows_are = sym (ap (count_in (λ q v i c r. r)) e);
      };
    }

module _ (list : List ℕ) (x : Result Surveyed Refused) (yields : survey_meaning x ≡ survey_of (reading list)) where
  pub survey-refused : (r : Refused) → x ≡ Err r → reading list ≡ refused (number_of r.refusal) r.place
  survey-refused r is = refused-by (reading list) (number_of r.refusal) r.place (ap survey_meaning (sym is) ∙ yields)

  pub survey-counted : PrimeFound x → (s : Surveyed) → x ≡ Ok s → CountsGiven list s.p s.counts
  survey-counted found s is =
      counted-by list (reading list) s.p s.counts refl (subst PrimeFound is found) (ap survey_meaning (sym is) ∙ yields)

-- a refusal that is passed on is the reply
pub passed-on : (r : Result (Unit {0}) Refused) (broken : Refused) → IsErrAnd r (λ x. x ≡ broken) → reply_meaning r ≡ refused_reply broken
passed-on (Ok _) broken h = absurd h
passed-on (Err x) broken h = rw h refl

-- ---- p and the counts, by any reading of the list

module _ {list : List ℕ} {p : ℕ} {counts : Counts} (a : CountsGiven list p counts) (l : ListRead list) where
  pub prime-by : p ≡ l.last.p
  prime-by = sym a.prime ∙ ap (λ (s : Known). s.p) (same-last a.listed l)

  pub cells-by : counts.cells.0 ≡ l.last.cells
  cells-by = sym a.counts-are.cells_are ∙ ap (λ (s : Known). s.cells) (same-last a.listed l)

  pub inputs-by : counts.inputs ≡ l.last.inputs
  inputs-by = sym a.counts-are.inputs_are ∙ ap (λ (s : Known). s.inputs) (same-last a.listed l)
