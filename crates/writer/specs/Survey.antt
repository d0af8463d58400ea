-- How the answers of reading given lines are read: what a line does to what is known, the first one or a later one; and that all lines are read, that
-- one is refused, or that their text is too long.
use Rattle.std.specs.Prelude.{ℕ, ◌≤◌, ◌<◌, ◌≡◌, Option, Some, None, Result, Ok, Err, IfOk, List, length}
use Rattle.meaning.specs.Line.{Line}
use Rattle.meaning.specs.Known.{Known, fresh}
use Rattle.meaning.specs.Refusal.{text_limit, value_limit, reading}
use Rattle.meaning.specs.Reply.{reply}
use Rattle.rules.specs.Ready.{greatest}
use Rattle.reader.specs.State.{state_of, WithinLimits}
use Rattle.reader.specs.Step.{step_of, step_meaning, placed_at, Stepped}
use Rattle.reader.specs.Read.{Survey, counted, refused_at, survey_of, first_meaning}
use Rattle.reader.specs.declared.state.State.{State}
use Rattle.refusal.specs.Refusal.{number_of, refused_reply}
use Rattle.refusal.specs.declared.refused.Refusal.{Refusal}
use Rattle.refusal.specs.declared.refused.Refused.{Refused}

-- ---- one line

-- a later line asks for what the lines before it have left
pub record StepReady (n : ℕ) (st : State) : Type 0 where
  pub later : 0 < n → WithinLimits st

-- what line 0 does to a state over no p: it gives p, and leaves the rest as it was
abbrev pub first_of : State → Result Unit Refusal → Result ℕ Refusal
first_of after (Ok done) = Ok after.p
first_of after (Err broken) = Err broken

pub record AsFirst (l : Line) (before after : State) (r : Result Unit Refusal) : Type 0 where
  pub yields : first_meaning (first_of after r) ≡ step_of 0 fresh l
  pub small : IfOk r (λ _. after.p ≤ greatest)
  pub same-counts : after.counts ≡ before.counts
  pub same-ends : after.ends ≡ before.ends

-- and a later line, as the reader's step
pub record AsLater (l : Line) (before after : State) (r : Result Unit Refusal) : Type 0 where
  pub yields : (s : Known) (places : List ℕ) → length places ≡ value_limit → s ≡ state_of before places
      → step_meaning after r (placed_at before.counts places) ≡ step_of 1 s l
  pub held : Stepped r before after

-- ---- all lines

-- by what a survey of the text says: it has counts
unfoldable pub IsRead : Survey → Type 0
IsRead s = (p : ℕ) × (values : ℕ) × (inputs : ℕ) × (cells : ℕ) × (rows : ℕ) × (counted p values inputs cells rows ≡ s)

-- the answer for lines with this text: its length, where it is read, none where it is too long, and else its refusal if it is not too long.
-- FORMAT 4.8, 10.1, 13.1
abbrev pub FoundYield : (text : List ℕ) → Result (Option ℕ) Refused → Type 0
FoundYield text (Ok (Some n)) = (n ≡ length text) × (n ≤ text_limit) × IsRead (survey_of (reading text))
FoundYield text (Ok None) = text_limit < length text
FoundYield text (Err r) = length text ≤ text_limit → refused_at (number_of r.refusal) r.place ≡ survey_of (reading text)

-- the refusal of lines of which one is refused: that refusal, or that the text is too long. FORMAT 13.1
pub record IsFirstRefusal (text : List ℕ) (refused result : Refused) : Type 0 where
  pub within : length text ≤ text_limit → result ≡ refused
  pub over : text_limit < length text → refused_reply result ≡ reply 1 0
