-- What a line does, given what is known before it: one record, by which reading, working, making and checking go, so that none of them tells
-- kinds of lines apart.
use Rattle.std.specs.Prelude.{ℕ, Bool, List, ℤ}
use Rattle.meaning.specs.Known.{Ends}
use Rattle.meaning.specs.Row.{Row}

-- what a line does in reading, in a table and in working
pub record Gadget : Type 0 where
  -- reading: it keeps the digit rule or the root rule, else refusal 10; its sum stays in the signed range, else 11; its span shares a point with
  -- what is known, else 12. FORMAT 6.2, 6.4, 5.5, 5.10
  pub unambiguous : Bool
  pub fits : Bool
  pub overlaps : Bool
  -- the known ends after the line, of the values before it and of those that it makes. FORMAT 3.2, 5.11
  pub narrowed : List Ends
  pub made : List Ends
  -- the table: how many cells it has, those of its values first, how many of them are inputs, and its rows in order. FORMAT 7.2, 7.3
  pub width : ℕ
  pub inputs : ℕ
  pub rows : List Row
  -- working, on the values before it: its statement; the values that it makes, where it is true, and the line's cells in the true table, both
  -- with the next input (which an `in` line takes). FORMAT 8.1, 8.3, 8.6
  pub statement : List ℤ → Bool
  pub values : List ℤ → (next : ℤ) → List ℤ
  pub cells : List ℤ → (next : ℤ) → List ℕ
