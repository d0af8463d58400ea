-- A list as it is written: the bytes of lines that are given as words and numbers, and how such lines come in three rows of numbers. Clauses 2.9
-- and 9.23 to 9.25 of docs/FORMAT.md.
use Rattle.std.specs.Prelude.{ℕ, zero, suc, cond, List, [], ◌∷◌, ◌++◌, map, leb, length, get_or, take, drop, ℤ}
use Rattle.std.proofs.Math.Option.{Option, none, some}
use Rattle.meaning.specs.Text.{number_text}
use Rattle.meaning.specs.Word.{Word, kind_of, words}
use Rattle.meaning.specs.Line.{Line}

-- a line as it is given: its word, if it has one, and its numbers. FORMAT 9.23
pub record Given : Type 0 where
  pub word : Option Word
  pub numbers : List ℤ

abbrev pub given : Option Word → List ℤ → Given
given w ns = record { word = w; numbers = ns }

-- a line of a list, as it would be given. FORMAT 9.28
unfoldable pub given_of : Line → Given
given_of l = given (some l.word) l.numbers

-- ---- the text of lines

-- a word by its spelling, none by no byte. FORMAT 9.24
unfoldable pub word_text : Option Word → List ℕ
word_text none = []
word_text (some w) = (kind_of w).spelling

-- each number after a tab. FORMAT 2.9
unfoldable pub fields_text : List ℤ → List ℕ
fields_text [] = []
fields_text (n ∷ ns) = 9 ∷ number_text n ++ fields_text ns

-- the bytes of a line, but for the one that ends it. FORMAT 2.9
unfoldable pub given_text : Given → List ℕ
given_text g = word_text g.word ++ fields_text g.numbers

-- each line, and the byte that ends it. FORMAT 2.9
unfoldable pub text_of : List Given → List ℕ
text_of [] = []
text_of (g ∷ gs) = given_text g ++ 10 ∷ text_of gs

-- the text of a list. FORMAT 2.9
unfoldable pub list_text : List Line → List ℕ
list_text ls = text_of (map given_of ls)

-- ---- lines in three rows: words, counts and numbers

-- the element at a place, if there is one
unfoldable pub element_at : {A : Type 0} → List A → ℕ → Option A
element_at [] i = none
element_at (x ∷ xs) zero = some x
element_at (x ∷ xs) (suc i) = element_at xs i

-- the word with this code, if one has it. FORMAT 9.24
unfoldable pub word_with : (code : ℕ) → Option Word
word_with code = element_at words code

-- a line with this code and the first of these numbers, as many as the count says; it is none where fewer are left. FORMAT 9.25
unfoldable pub line_given : (code count : ℕ) → List ℤ → Given
line_given code count ns = cond (leb count (length ns)) (given (word_with code) (take count ns)) (given none [])

-- a line for each code; a count that is not there is 0, and numbers that are left after the last line are not looked at. FORMAT 9.23, 9.25
unfoldable pub lines_given : (codes counts : List ℕ) → List ℤ → List Given
lines_given [] counts ns = []
lines_given (code ∷ codes) counts ns =
    let count : ℕ = get_or counts 0 0 in line_given code count ns ∷ lines_given codes (drop 1 counts) (drop count ns)
