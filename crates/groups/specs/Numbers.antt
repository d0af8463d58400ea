-- What a line's numbers are, as the code reads them: a name, which stands for a value or for its cell, and a base with its digit count.
use Rattle.std.specs.Prelude.{◌≡◌, List, ℕ, ◌+◌, ◌≤◌, ◌<◌, ℤ, pos, nat_abs, length, get_or, ◌≤ℤ◌}
use Rattle.meaning.specs.Text.{largest}
use Rattle.groups.specs.Cells.{GroupOf}

-- the size of the number at a place: a name, a base or a digit count, where the number is not negative
abbrev pub size : (numbers : List ℤ) (i : ℕ) → ℕ
size numbers i = nat_abs (get_or numbers i (pos 0))

-- ---- names

-- the number at a place names one of the first n values
pub record NameAt (n : ℕ) (numbers : List ℤ) (i : ℕ) : Type 0 where
  pub inside : i < length numbers
  pub natural : pos 0 ≤ℤ get_or numbers i (pos 0)
  pub below : size numbers i < n

-- the value that it names
abbrev pub named : (numbers : List ℤ) (i : ℕ) (values : List ℤ) → ℤ
named numbers i values = get_or values (size numbers i) (pos 0)

-- and the cell of that value
abbrev pub placed : (numbers : List ℤ) (i : ℕ) (places : List ℕ) → ℕ
placed numbers i places = get_or places (size numbers i) 0

-- ---- bases and digit counts

-- a base stands at a place and its digit count at the next
pub record DigitsFrom (numbers : List ℤ) (i : ℕ) : Type 0 where
  pub base-inside : i < length numbers
  pub base-natural : pos 0 ≤ℤ get_or numbers i (pos 0)
  pub base-most : size numbers i ≤ largest
  pub count-inside : i + 1 < length numbers
  pub count-natural : pos 0 ≤ℤ get_or numbers (i + 1) (pos 0)
  pub group : GroupOf (size numbers i) (size numbers (i + 1))

-- they are b and k
pub record DigitsAre (numbers : List ℤ) (i b k : ℕ) : Type 0 where
  pub base : b ≡ size numbers i
  pub count : k ≡ size numbers (i + 1)
