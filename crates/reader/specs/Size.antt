-- How much a line adds to the counts of a list.
use Rattle.std.specs.Prelude.{◌≡◌, List, ℕ, ◌+◌, ◌*◌, ◌≤◌, length, get_or, ℤ, pos, nat_abs, ◌≤ℤ◌}
use Rattle.meaning.specs.Refusal.{most_digits, value_limit, cell_limit}
use Rattle.meaning.specs.Line.{Line}
use Rattle.meaning.specs.Known.{Known}
use Rattle.meaning.specs.Meaning.{gadget}
use Rattle.reader.specs.declared.counts.Counts.{Counts}

abbrev pub counted : (values inputs cells rows : ℕ) → Counts
counted values inputs cells rows = record { values = values; inputs = inputs; cells = record { 0 = cells }; rows = rows }

-- counts with those of one more line
abbrev pub added : (before size : Counts) → Counts
added c size = counted (c.values + size.values) (c.inputs + size.inputs) (c.cells.0 + size.cells.0) (c.rows + size.rows)

-- counts of a list that no sum overflows
pub record Few (c : Counts) : Type 0 where
  pub values-most : c.values ≤ value_limit
  pub inputs-most : c.inputs ≤ c.values
  pub cells-most : c.cells.0 ≤ cell_limit
  pub rows-most : c.rows ≤ 2 * c.cells.0

-- how much a line adds to the counts of what is known before it
pub record Adds (s : Known) (l : Line) (c : Counts) : Type 0 where
  pub values-are : length (gadget s l).made ≡ c.values
  pub inputs_are : (gadget s l).inputs ≡ c.inputs
  pub cells_are : (gadget s l).width ≡ c.cells.0
  pub rows_are : length (gadget s l).rows ≡ c.rows

-- the most cells of a line, and its most rows: a root has four groups of digits
abbrev pub most_width : ℕ
most_width = 4 * most_digits + 2

abbrev pub most_rows : ℕ
most_rows = 4 * most_digits + 5

-- no line adds more
abbrev pub FewCounts : Counts → Type 0
FewCounts c = (c.values ≤ 1) × (c.inputs ≤ 1) × (c.cells.0 ≤ most_width) × (c.rows ≤ most_rows)

-- a number that a line may have as its digit count is k, and k is at most 31 whatever the number is
abbrev pub DigitCount : ℤ → ℕ → Type 0
DigitCount z k = (k ≤ most_digits) × (pos 1 ≤ℤ z → z ≤ℤ pos most_digits → k ≡ nat_abs z)

-- the counts of a line whose digit count stands at a place: `each` cells and as many rows for each digit, with so many cells and rows more
pub record DigitSize (numbers : List ℤ) (at values each cells rows : ℕ) (c : Counts) : Type 0 where
  pub count : ℕ
  pub is-count : DigitCount (get_or numbers at (pos 0)) count
  pub counts-are : c ≡ counted values 0 (each * count + cells) (each * count + rows)
