-- A line as a word and numbers, and which bytes spell one; clauses 2.4 and 2.7 of docs/FORMAT.md.
use Rattle.std.specs.Prelude.{ℕ, cond, List, [], ◌∷◌, ℤ}
use Rattle.std.proofs.Math.Option.{Option, none, some}
use Rattle.meaning.specs.Text.{same_bytes, fields_of, number}
use Rattle.meaning.specs.Word.{Word, words, kind_of}

-- what a line means. FORMAT 2.4
pub record Line : Type 0 where
  pub word : Word
  pub numbers : List ℤ

-- ---- from bytes

-- the word that a field spells, byte for byte, if it spells one. FORMAT 2.7
unfoldable pub word_among : List Word → List ℕ → Option Word
word_among [] f = none
word_among (w ∷ ws) f = let later = word_among ws f in cond (same_bytes (kind_of w).spelling f) (some w) later

-- a number before others, where all are there
unfoldable pub cons_number : Option ℤ → Option (List ℤ) → Option (List ℤ)
cons_number none ns = none
cons_number (some x) none = none
cons_number (some x) (some xs) = some (x ∷ xs)

-- the numbers that fields spell, if each spells one. FORMAT 2.7
unfoldable pub numbers_of : List (List ℕ) → Option (List ℤ)
numbers_of [] = some []
numbers_of (f ∷ fs) = cons_number (number f) (numbers_of fs)

-- the line, if the word has so many numbers. FORMAT 2.7
unfoldable pub assemble : Option Word → Option (List ℤ) → Option Line
assemble none ns = none
assemble (some w) none = none
assemble (some w) (some ns) = cond ((kind_of w).is_counted ns) (some (record { word = w; numbers = ns })) none

-- the first field is the word, the others are numbers. FORMAT 2.4
unfoldable pub line_of_fields : List (List ℕ) → Option Line
line_of_fields [] = none
line_of_fields (f ∷ fs) = assemble (word_among words f) (numbers_of fs)

-- the line that these bytes spell; none is refusal 3. FORMAT 2.7, 10.3
unfoldable pub line_of : List ℕ → Option Line
line_of line = line_of_fields (fields_of line)
