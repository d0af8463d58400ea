-- What is lent for the rules of a line: p, and the ends of the values before it; and how large a number of a line and a known end can be.
use Rattle.std.specs.Prelude.{◌≡◌, List, ℕ, ◌*◌, ◌≤◌, ◌<◌, length, get_or, map, ℤ, pos, nat_abs}
use Rattle.meaning.specs.Known.{Known, ends}
use Rattle.meaning.specs.Known.{Ends as KnownEnds}
use Rattle.meaning.specs.Text.{largest}
use Rattle.meaning.specs.Refusal.{cell_limit, value_limit}
use Rattle.number.specs.Bounded.{Bounded}
use Rattle.rules.specs.declared.ends.Ends.{Ends}
use Rattle.rules.specs.Yield.{ends_meaning}

-- the size of a number that was read, and so of every known end
abbrev pub greatest : ℕ
greatest = largest

-- that of the difference of two such
abbrev pub greatest_apart : ℕ
greatest_apart = 2 * greatest

-- and of their product
abbrev pub greatest_product : ℕ
greatest_product = greatest * greatest

-- the first n numbers are of that size at most
abbrev pub Small : ℕ → List ℤ → Type 0
Small n zs = (i : ℕ) → i < n → nat_abs (get_or zs i (pos 0)) ≤ greatest

-- ends of at most that size: greatest for those of a value, twice that for those of a difference
pub record BoundedEnds (bound : ℕ) (e : Ends) : Type 0 where
  pub low-sized : Bounded bound e.low.0
  pub high-sized : Bounded bound e.high.0

-- what is lent for reading a line: p, and the ends of the values before it
pub record Ready (p cells : ℕ) (ends : List Ends) : Type 0 where
  pub p-low : 3 ≤ p
  pub p-high : p ≤ greatest
  pub values-most : length ends ≤ value_limit
  pub cells-most : cells ≤ cell_limit
  pub sized : (i : ℕ) (d : Ends) → i < length ends → BoundedEnds greatest (get_or ends i d)

-- the ends of the value with a number
abbrev pub ends_at : List Ends → ℕ → KnownEnds
ends_at es v = get_or (map ends_meaning es) v (ends (pos 0) (pos 0))

-- they are those of state s, as far as the rules for a line ask
pub record Represented (s : Known) (p cells : ℕ) (ends : List Ends) : Type 0 where
  pub prime : s.p ≡ p
  pub known : s.known ≡ map ends_meaning ends
  pub cells_are : s.cells ≡ cells
