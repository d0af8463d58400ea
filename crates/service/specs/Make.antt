-- Making a table for a list that was read: what working its lines and writing their cells are given, and what they then yield.
use Rattle.std.specs.Prelude.{◌≡◌, List, ℕ, ℤ, length, take, set, Some, None, Result, Ok, Err}
use Rattle.std.specs.Prelude.{Option as Perhaps}
use Rattle.std.proofs.Math.Option.{Option, none, some}
use Rattle.meaning.specs.Line.{Line}
use Rattle.meaning.specs.Known.{Known}
use Rattle.meaning.specs.Work.{true-table, work}
use Rattle.meaning.specs.Reply.{Reply, reply, making, filled}
use Rattle.meaning.specs.Claims.{Column}
use Rattle.number.specs.declared.whole.Whole.{Whole}
use Rattle.refusal.specs.declared.refused.Refused.{Refused}
use Rattle.refusal.specs.Refusal.{refused_reply}
use Rattle.service.specs.Walk.{ListRead}

-- the refusal at the first input outside the signed range. FORMAT 10.17
unfoldable pub inputs_meaning : Perhaps ℕ → Option Reply
inputs_meaning None = none
inputs_meaning (Some i) = some (reply 17 i)

-- the values with the one that a line makes, where it makes one
abbrev pub with_value : List ℤ → ℕ → Perhaps Whole → List ℤ
with_value values at (Some x) = set values at x.0
with_value values at None = values

-- a column of inputs for a list that was read. FORMAT 8.2
pub record WorkGiven (list : List ℕ) (inputs : List ℤ) : Type 0 where
  pub listed : ListRead list
  pub column : Column listed.last inputs

-- the refusal at the first line whose statement is false, which leaves any table as it was; or none is false, and the values stand in the array.
-- FORMAT 10.18, 8.5
unfoldable pub WorkingYield : List Line → Known → (inputs values : List ℤ) → Result (Unit {0}) Refused → Type 0
WorkingYield ls s xs values (Err r) = (t : List ℕ) → filled (work ls xs) t ≡ making (refused_reply r) t
WorkingYield ls s xs values (Ok _) = (cells : List ℕ) × (work ls xs ≡ true-table (take (length s.known) values) cells)

-- the values of a column whose statements are true, and a table of the list's length
pub record WriteGiven (list : List ℕ) (p : ℕ) (values : List ℤ) (table : List ℕ) : Type 0 where
  pub inputs : List ℤ
  pub given : WorkGiven list inputs
  pub prime : given.listed.last.p ≡ p
  pub cells : List ℕ
  pub worked : work given.listed.lines inputs ≡ true-table (take (length given.listed.last.known) values) cells
  pub long : length table ≡ given.listed.last.cells
