-- Rows: what a table has to meet modulo p, whoever wrote it; and the rows of a digit group. Clauses 1.9 and 7.4 of docs/FORMAT.md.
use Rattle.std.specs.Prelude.{ℕ, zero, suc, ◌*◌, Bool, List, [], ◌∷◌, ◌++◌, ltb, eqb, get_or, ℤ, pos, ◌+ℤ◌, ◌-ℤ◌, ◌*ℤ◌}
use Rattle.meaning.specs.Number.{remainder}

-- a side of a row, and a form that digits are asked for: a polynomial over the cells. FORMAT 1.9
infixl 80 ◌⊕◌ ◌⊖◌
infixl 90 ◌⊗◌
pub data Form : Type 0 where
  cell : (place : ℕ) → Form
  constant : ℤ → Form
  ◌⊕◌ ◌⊖◌ ◌⊗◌ : Form → Form → Form

-- its value in a table, as a whole number. FORMAT 1.9
unfoldable pub eval : List ℕ → Form → ℤ
eval t (cell i) = pos (get_or t i 0)
eval t (constant z) = z
eval t (f ⊕ g) = eval t f +ℤ eval t g
eval t (f ⊖ g) = eval t f -ℤ eval t g
eval t (f ⊗ g) = eval t f *ℤ eval t g

-- the two kinds of rows. FORMAT 1.9, 7.4
infix 70 ◌≅◌
pub data Row : Type 0 where
  -- the cell at the place is among 0..b-1
  among : (place b : ℕ) → Row
  -- the two sides leave the same remainder
  ◌≅◌ : Form → Form → Row

-- does a row hold in a table? FORMAT 1.9, 7.4
unfoldable pub holds : ℕ → List ℕ → Row → Bool
holds p t (among i b) = ltb (get_or t i 0) b
holds p t (f ≅ g) = eqb (remainder p (eval t f)) (remainder p (eval t g))

-- ---- a digit group, at the k cells from the one called at

-- a row for each digit. FORMAT 7.4
unfoldable pub digit_rows : (at b k : ℕ) → List Row
digit_rows at b zero = []
digit_rows at b (suc k) = among at b ∷ digit_rows (suc at) b k

-- the number that digits spell, times w: w·d0 + w·b·d1 + .. FORMAT 7.4
unfoldable pub place_values : (w at b k : ℕ) → Form
place_values w at b zero = constant (pos 0)
place_values w at b (suc k) = constant (pos w) ⊗ cell at ⊕ place_values (w * b) (suc at) b k

-- all rows of the group: the digits, then the form less its shift against the number that they spell. FORMAT 7.4
unfoldable pub group : Form → ℤ → (at b k : ℕ) → List Row
group form L at b k = digit_rows at b k ++ form ⊖ constant L ≅ place_values 1 at b k ∷ []
