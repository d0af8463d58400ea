-- A line `sum c0 c1 v1 c2 v2 ..`: its value, and what working it and checking its row ask: its terms name values, and the steps of the sum
-- stay in a range.
use Rattle.std.specs.Prelude.{List, [], ◌∷◌, ℕ, ◌≤◌, ◌<◌, T, ℤ, ◌+ℤ◌, ◌*ℤ◌, length, get_or}
use Rattle.meaning.specs.Word.{number_at, without_first, alternate}
use Rattle.meaning.specs.Refusal.{all, is_made}
use Rattle.meaning.specs.Gadget.Digits.{value_at}
use Rattle.meaning.specs.Gadget.Sum.{Term, terms_of, sum_value}
use Rattle.number.specs.Bounded.{Bounded}
use Rattle.groups.specs.Cells.{value_bound}

-- the numbers are pairs of a coefficient and a name, each of which names one of the first n values
abbrev pub Named : (n : ℕ) (pairs : List ℤ) → Type 0
Named n pairs = T (all (is_made n) (alternate (without_first pairs)))

-- ---- working

-- the value of a line `sum` with the numbers ns, over the values vs
abbrev pub sum_of : (ns vs : List ℤ) → ℤ
sum_of ns vs = sum_value vs (number_at ns 0) (terms_of (without_first ns))

-- the sum so far, and after each further term, is small
unfoldable pub SumSmall : List ℤ → ℤ → List Term → Type 0
SumSmall vs x [] = Bounded value_bound x
SumSmall vs x (t ∷ ts) = Bounded value_bound x × SumSmall vs (x +ℤ t.coefficient *ℤ value_at vs t.value) ts

-- what the sum of a line takes over the values before it: its terms name values, and no step of the sum is great
pub record SumGiven (numbers values : List ℤ) : Type 0 where
  pub some_number : 1 ≤ length numbers
  pub named : Named (length values) (without_first numbers)
  pub small : SumSmall values (number_at numbers 0) (terms_of (without_first numbers))

-- ---- rows

-- the terms of a sum name values that are known, and the places of those are among the cells
pub record PlacesInside (numbers : List ℤ) (places : List ℕ) (cells : ℕ) : Type 0 where
  pub named : Named (length places) (without_first numbers)
  pub inside : (v : ℕ) → v < length places → get_or places v 0 < cells
