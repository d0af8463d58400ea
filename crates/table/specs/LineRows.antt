-- What the rows of a line are given, and what they then yield: the first of them that fails.
use Rattle.std.specs.Prelude.{◌≡◌, false, List, ℕ, ◌+◌, ◌≤◌, ◌<◌, ℤ, length, get_or, Result}
use Rattle.meaning.specs.Word.{Word, kind_of}
use Rattle.meaning.specs.Row.{holds}
use Rattle.groups.specs.Rows.{rows_meaning, first_refusal}
use Rattle.table.specs.Line.{KeptLine, gadget_of, known_count}

-- a table with room for the line's cells, which start at the one called cells; places has the cell of each value before the line
pub record RowsGiven (p : ℕ) (w : Word) (numbers : List ℤ) (table : List ℕ) (cells : ℕ) (places : List ℕ) : Type 0 where
  pub kept : KeptLine w numbers
  pub prime : (kind_of w).is_field ≡ false → kept.state.p ≡ p
  pub cells_are : kept.state.cells ≡ cells
  pub room : cells + (gadget_of kept).width ≤ length table
  pub places-long : length places ≡ known_count kept
  pub places-are : kept.state.places ≡ places
  pub inside : (v : ℕ) → v < known_count kept → get_or places v 0 < length table

-- the answer is the refusal at the first of the line's rows that fails
abbrev pub RowsYield : (p : ℕ) (w : Word) (numbers : List ℤ) (table : List ℕ) (cells : ℕ) (places : List ℕ) → Result (Unit {0}) ℕ → Type 0
RowsYield p w numbers table cells places r =
    (a : RowsGiven p w numbers table cells places) → rows_meaning r ≡ first_refusal (holds p table) 0 (gadget_of a.kept).rows
