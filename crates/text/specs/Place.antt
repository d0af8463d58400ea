-- Places in a byte string: what a search for a separator finds, the field that starts at a place, and the lines that are left at one.
use Rattle.std.specs.Prelude.{◌≡◌, ℕ, suc, ◌+◌, ◌≤◌, cond, List, [], ◌∷◌, eqb, length, take, drop}
use Rattle.meaning.specs.Text.{lines_of, fields_of}

-- how many bytes stand before the first that equals separator: all, where there is none
unfoldable pub index_of : (separator : ℕ) → List ℕ → ℕ
index_of separator [] = 0
index_of separator (x ∷ xs) = cond (eqb x separator) 0 (suc (index_of separator xs))

-- place is where the first separator at or after `at` stands, or the end
pub record Found (separator : ℕ) (xs : List ℕ) (at place : ℕ) : Type 0 where
  pub low : at ≤ place
  pub high : place ≤ length xs
  pub is : place ≡ at + index_of separator (drop at xs)

-- where the line ends that goes on at `at`: at the first byte 10 from there on
abbrev pub end_of : List ℕ → ℕ → ℕ
end_of text at = at + index_of 10 (drop at text)

-- the bytes of the text before that
abbrev pub up_to : List ℕ → ℕ → List ℕ
up_to text at = take (end_of text at) text

-- the line that starts at `at`: the bytes up to the first byte 10, or to the end
unfoldable pub line_at : List ℕ → ℕ → List ℕ
line_at text at = let left = drop at text in take (index_of 10 left) left

-- the field that starts at `at`: the bytes up to the first tab, or to the end
unfoldable pub field_at : List ℕ → ℕ → List ℕ
field_at line at = let left = drop at line in take (index_of 9 left) left

-- the fields of the line from `at` on
abbrev pub fields_from : List ℕ → ℕ → List (List ℕ)
fields_from line at = fields_of (drop at line)

-- the lines of the text from `at` on
abbrev pub lines_from : List ℕ → ℕ → List (List ℕ)
lines_from text at = lines_of (drop at text)
