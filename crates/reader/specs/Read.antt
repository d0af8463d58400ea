-- Reading a whole list: line 0, what is left of a list at a place, and how the code's answers are read as the definitions'.
use Rattle.std.specs.Prelude.{ℕ, ◌≤◌, ◌≡◌, ◌↔◌, Result, Ok, Err, List, [], length}
use Rattle.meaning.specs.Known.{Known}
use Rattle.meaning.specs.Refusal.{Reading, on_reading}
use Rattle.meaning.specs.Claims.{Fits, Before}
use Rattle.meaning.specs.Reply.{reply, counts, refusal}
use Rattle.meaning.specs.Reply.{Answer as Meant}
use Rattle.meaning.specs.Number.{OddPrime}
use Rattle.rules.specs.Ready.{greatest}
use Rattle.reader.specs.Step.{Step, stops, goes}
use Rattle.refusal.specs.declared.refused.Refusal.{Refusal}
use Rattle.refusal.specs.declared.refused.Refused.{Refused}
use Rattle.refusal.specs.Refusal.{number_of, refused_reply}
use Rattle.reader.specs.declared.reading.Surveyed.{Surveyed}
use Rattle.reader.specs.declared.reading.Summary.{Summary}

-- over p, nothing else is known
unfoldable pub only : ℕ → Known
only p = record { p = p; known = []; places = []; inputs = 0; cells = 0; rows = 0 }

abbrev pub first_meaning : Result ℕ Refusal → Step
first_meaning (Ok p) = goes (only p)
first_meaning (Err broken) = stops (number_of broken)

-- what a list has, in counts, or its refusal
pub data Survey : Type 0 where
  counted : (p values inputs cells rows : ℕ) → Survey
  refused_at : (number place : ℕ) → Survey

-- what reading counts, and the count of inputs, which making asks for. FORMAT 8.7
unfoldable pub survey_of : Reading → Survey
survey_of r = on_reading r refused_at (λ ls s. counted s.p (length s.known) s.inputs s.cells s.rows)

abbrev pub survey_meaning : Result Surveyed Refused → Survey
survey_meaning (Ok s) = counted s.p s.counts.values s.counts.inputs s.counts.cells.0 s.counts.rows
survey_meaning (Err r) = refused_at (number_of r.refusal) r.place

-- p of a read list is an odd prime, and of a number's size. FORMAT 1.1
abbrev pub PrimeFound : Result Surveyed Refused → Type 0
PrimeFound (Ok s) = OddPrime s.p × (s.p ≤ greatest)
PrimeFound (Err r) = Unit {0}

-- what is replied of it: all but the count of inputs. FORMAT 9.4
unfoldable pub reply_of : Survey → Meant
reply_of (counted p values inputs cells rows) = counts p values cells rows
reply_of (refused_at number place) = refusal (reply number place)

abbrev pub answer_meaning : Result Summary Refused → Meant
answer_meaning (Ok s) = counts s.p s.values s.cells s.rows
answer_meaning (Err r) = refusal (refused_reply r)

-- it is a read list's reply exactly when no refusal fits the text, and a refusal's exactly when that is the first that fits. FORMAT 13.3
abbrev pub Exact : List ℕ → Meant → Type 0
Exact text a =
    (((p : ℕ) × (values : ℕ) × (cells : ℕ) × (rows : ℕ) × (a ≡ counts p values cells rows)) ↔ ((number place : ℕ) → ¬ Fits text number place))
    × ((number place : ℕ) → a ≡ refusal (reply number place) ↔
    (Fits text number place × ((n i : ℕ) → Before n i number place → ¬ Fits text n i)))
