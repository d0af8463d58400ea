-- Walking a list that was read once more, line by line: what the counts are of, and what holds before a line.
use Rattle.std.specs.Prelude.{◌≡◌, cond, List, map, ℕ, ◌≤◌, ltb, length, take, set}
use Rattle.std.proofs.Math.Option.{some}
use Rattle.algebra.specs.Digits.{Below}
use Rattle.meaning.specs.Line.{Line, line_of}
use Rattle.meaning.specs.Known.{Known}
use Rattle.meaning.specs.Refusal.{read, reading, value_limit}
use Rattle.meaning.specs.Kept.{Kept, Sound}
use Rattle.meaning.specs.Number.{OddPrime}
use Rattle.text.specs.Place.{lines_from}
use Rattle.rules.specs.Ready.{greatest}
use Rattle.reader.specs.Size.{Few}
use Rattle.reader.specs.declared.counts.Counts.{Counts}

-- the counts are those of what is known
pub record CountsOf (s : Known) (c : Counts) : Type 0 where
  pub values-are : length s.known ≡ c.values
  pub inputs_are : s.inputs ≡ c.inputs
  pub cells_are : s.cells ≡ c.cells.0
  pub rows_are : s.rows ≡ c.rows

-- the list is read: its lines, and what is known at its end
pub record ListRead (list : List ℕ) : Type 0 where
  pub lines : List Line
  pub last : Known
  pub is_read : reading list ≡ read lines last
  pub p-most : last.p ≤ greatest

-- what is counted of a list that was read
pub record CountsGiven (list : List ℕ) (p : ℕ) (c : Counts) : Type 0 where
  pub listed : ListRead list
  pub prime : listed.last.p ≡ p
  pub odd : OddPrime p
  pub counts-are : CountsOf listed.last c

-- before line n, which starts at `at`: s is known, the lines in left are still to come, and last is known at the end of the list
pub record Stands (list : List ℕ) (last s : Known) (left : List Line) (c : Counts) (at n : ℕ) : Type 0 where
  pub inside : at ≤ length list
  pub numbered : n ≤ at
  pub spells : map line_of (lines_from list at) ≡ map some left
  pub kept : Kept n s left last
  pub sound : Sound n s
  pub p-most : last.p ≤ greatest
  pub counted : CountsOf s c
  pub few : Few c

-- a walk over a list that was read stands before a line, or at the end
pub record BeforeLine (list : List ℕ) (c : Counts) (at n : ℕ) : Type 0 where
  pub listed : ListRead list
  pub state : Known
  pub left : List Line
  pub stands : Stands list listed.last state left c at n

-- ---- the cells of the values

-- the cell of the value that a line makes, where it makes one, with the cells of those before it
unfoldable pub with_place : List ℕ → (before next : Counts) → List ℕ
with_place places c d = cond (ltb c.values d.values) (set places c.values c.cells.0) places

-- the first places are the cells of the values that are known
pub record Placed (s : Known) (places : List ℕ) : Type 0 where
  pub long : length places ≡ value_limit
  pub are : s.places ≡ take (length s.known) places
  pub below : Below s.cells s.places
