-- The number that a reading returns and what then stands in the five places that a caller in another language lends: the place of the
-- reply at every call, and p and the counts where the list was read.
use Rattle.std.specs.Prelude.{ℕ}
use Rattle.meaning.specs.Reply.{Answer, counts, refusal}

-- the number that is returned, and what stands in the five places
pub record Numbers : Type 0 where
  pub number : ℕ
  pub place : ℕ
  pub p : ℕ
  pub values : ℕ
  pub cells : ℕ
  pub rows : ℕ

abbrev pub numbers : (number place p values cells rows : ℕ) → Numbers
numbers n at p v c r = record { number = n; place = at; p = p; values = v; cells = c; rows = r }

-- a read list has number 0; a refused one changes none of the four places lent for p and the counts. FORMAT 9.19
abbrev pub numbers_after : (p values cells rows : ℕ) → Answer → Numbers
numbers_after p' v' c' r' (counts p v c r) = numbers 0 0 p v c r
numbers_after p' v' c' r' (refusal r) = numbers r.number r.place p' v' c' r'
