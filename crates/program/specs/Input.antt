-- How the input's parts, which the code finds as places and counts, are those of the definitions. A missing line `end` is refusal 2, and
-- a line after it that is no number refusal 3.
use Rattle.std.specs.Prelude.{◌≡◌, List, ℕ, ◌+◌, ◌≤◌, ℤ, length, take, Some, None, Result, Ok, Err}
use Rattle.std.specs.Prelude.{Option as Perhaps}
use Rattle.std.proofs.Math.Option.{none, some}
use Rattle.meaning.specs.Text.{lines_of, number}
use Rattle.meaning.specs.Line.{numbers_of}
use Rattle.meaning.specs.Refusal.{refused_by, or_refused, value_limit}
use Rattle.meaning.specs.Reply.{reply, first_fail, refusal_at}
use Rattle.meaning.specs.Program.{Parts, parts_of, joined, is_some, or_none}
use Rattle.text.specs.Place.{lines_from}
use Rattle.program.specs.declared.input.Ending.{Ending}

-- the first line `end` starts there, after so many lines. FORMAT 11.3, 11.4
pub record EndsAt (input : List ℕ) (end : Ending) : Type 0 where
  pub parts : Parts
  pub are : parts_of (lines_of input) ≡ some parts
  pub inside : end.at + 4 ≤ length input
  pub listed : take end.at input ≡ joined parts.list
  pub counted : end.lines ≡ length parts.list
  pub left : lines_from input (end.at + 4) ≡ parts.inputs

-- where it is, or that it is missing. FORMAT 11.3
unfoldable pub EndYield : List ℕ → Perhaps Ending → Type 0
EndYield input (Some end) = EndsAt input end
EndYield input None = or_refused 2 (parts_of (lines_of input)) ≡ refused_by 2

-- all lines are numbers, so many; the first of them are stored, as many as have room
pub record NumbersRead (lines : List (List ℕ)) (stored : List ℤ) (count : ℕ) : Type 0 where
  pub all : first_fail (λ l. is_some (number l)) 0 lines ≡ none
  pub counted : count ≡ length (or_none (numbers_of lines))
  pub room : length stored ≡ value_limit
  pub stands : take value_limit (or_none (numbers_of lines)) ≡ take count stored

-- all are numbers, or the first line that is none. FORMAT 11.6
unfoldable pub InputsYield : List (List ℕ) → List ℤ → Result ℕ ℕ → Type 0
InputsYield lines stored (Ok count) = NumbersRead lines stored count
InputsYield lines stored (Err i) = refusal_at 3 (first_fail (λ l. is_some (number l)) 0 lines) ≡ some (reply 3 i)
