-- What is known of the input when its parts are made into a table, and what reading them yields: a part, or the refusal, which is the answer.
use Rattle.std.specs.Prelude.{◌≡◌, List, ℕ, ℤ, ◌≤◌, length, take, replicate, Result, Ok, Err}
use Rattle.meaning.specs.Refusal.{text_limit, value_limit}
use Rattle.meaning.specs.Reply.{make_reply}
use Rattle.meaning.specs.Text.{lines_of}
use Rattle.meaning.specs.Program.{refusal_text, table_text, making_text, parts_of, on_parts, respond}
use Rattle.refusal.specs.declared.refused.Refused.{Refused}
use Rattle.refusal.specs.Refusal.{refused_reply}
use Rattle.service.specs.Walk.{ListRead}
use Rattle.program.specs.Input.{EndsAt}
use Rattle.program.specs.declared.input.Ending.{Ending}
use Rattle.program.specs.declared.reading.Listed.{Listed}

-- the line `end` stands in the input, after so many lines
pub record ListGiven (input : List ℕ) (end : Ending) : Type 0 where
  pub short : length input ≤ text_limit
  pub ends : EndsAt input end

-- and the list before it is read, and has so many cells
pub record InputsGiven (input : List ℕ) (end : Ending) (cells : ℕ) : Type 0 where
  pub given : ListGiven input end
  pub listed : ListRead (take end.at input)
  pub cells_are : listed.last.cells ≡ cells

-- a list of this input that is read; or the refusal, which is the answer
abbrev pub ReadYield : List ℕ → Result Listed Refused → Type 0
ReadYield input (Ok l) = (l.text.bytes.now ≡ input) × InputsGiven input l.end l.cells × (on_parts (parts_of (lines_of input)) ≡ respond input)
ReadYield input (Err r) = refusal_text (refused_reply r) ≡ respond input

-- the same where the line `end` is there, of the answer to its parts
abbrev pub PartsYield : List ℕ → Result Listed Refused → Type 0
PartsYield input (Ok l) = (l.text.bytes.now ≡ input) × InputsGiven input l.end l.cells
PartsYield input (Err r) = refusal_text (refused_reply r) ≡ on_parts (parts_of (lines_of input))

-- the answer of making the list's table, which is all 0 before, of this column
abbrev pub ColumnGiven : List ℕ → Ending → (cells : ℕ) → (column : List ℤ) → Type 0
ColumnGiven input end cells column =
    making_text (make_reply (take end.at input) column (replicate cells 0)) ≡ on_parts (parts_of (lines_of input))

-- a column of so many inputs; or the refusal
abbrev pub ColumnYield : List ℕ → Ending → (cells : ℕ) → (stored : List ℤ) → Result ℕ Refused → Type 0
ColumnYield input end cells stored (Ok count) = (count ≤ value_limit) × (length stored ≡ value_limit) × ColumnGiven input end cells (take count stored)
ColumnYield input end cells stored (Err r) = refusal_text (refused_reply r) ≡ on_parts (parts_of (lines_of input))

-- what making answers: the table, or the refusal
abbrev pub made_text : List ℕ → Result (Unit {0}) Refused → List ℕ
made_text table (Ok _) = table_text table
made_text table (Err r) = refusal_text (refused_reply r)
