-- A name that stands for a value of a list.
use Rattle.std.specs.Prelude.{List, ℕ, ℤ, length}
use Rattle.number.specs.Bounded.{Bounded}
use Rattle.groups.specs.Cells.{value_bound}
use Rattle.groups.specs.Numbers.{named, NameAt}

-- the number at a place names a value, which is small
pub record ValueAt (numbers values : List ℤ) (i : ℕ) : Type 0 where
  pub name : NameAt (length values) numbers i
  pub small : Bounded value_bound (named numbers i values)
