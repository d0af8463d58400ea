-- How the answers for a given line are read: the bytes of its numbers where their sizes are allowed, and the line that its text spells.
use Rattle.std.specs.Prelude.{ℕ, suc, ◌+◌, ◌*◌, ◌≤◌, ◌≡◌, Bool, true, false, Option, Some, None, List, leb, length, ℤ, nat_abs}
use Rattle.std.proofs.Math.Option.{none, some}
use Rattle.meaning.specs.Text.{largest, number_text}
use Rattle.meaning.specs.Word.{most_numbers}
use Rattle.meaning.specs.Line.{line_of}
use Rattle.meaning.specs.Refusal.{all}
use Rattle.meaning.specs.Write.{fields_text, given_text}
use Rattle.text.specs.Word.{word_of}
use Rattle.rules.specs.Yield.{line_with}
use Rattle.given_lines.specs.Given.{line_meaning}
use Rattle.given_lines.specs.declared.given.GivenLine.{GivenLine}
use Rattle.given_lines.specs.declared.line.Readable.{Readable}

-- is the size of each number allowed? FORMAT 2.6
unfoldable pub all_sized : List ℤ → Bool
all_sized ns = all (λ z. leb (nat_abs z) largest) ns

-- the most bytes of a number with its tab, and of a line: its word, its numbers and the byte that ends it
abbrev pub most_field : ℕ
most_field = 21

abbrev pub most_line : ℕ
most_line = 6 + most_field * most_numbers

-- the answer for a number: how many bytes more than two it has with its tab, or it is too large. FORMAT 2.6, 2.9
abbrev pub MoreBytesYield : ℤ → Option ℕ → Type 0
MoreBytesYield z (Some n) = (leb (nat_abs z) largest ≡ true) × (length (number_text z) ≡ n + 1) × (n + 2 ≤ most_field)
MoreBytesYield z None = leb (nat_abs z) largest ≡ false

-- the answer for numbers: how many bytes they have, or one of them is too large. FORMAT 2.6, 2.9
abbrev pub FieldBytesYield : List ℤ → Option ℕ → Type 0
FieldBytesYield ns (Some n) = (all_sized ns ≡ true) × (n ≡ length (fields_text ns)) × (n ≤ most_field * length ns)
FieldBytesYield ns None = all_sized ns ≡ false

-- the word of the answer, with the numbers of the line, is the line that its text spells
pub record ReadsAs (l : GivenLine) (r : Readable) : Type 0 where
  pub is : line_of (given_text (line_meaning l)) ≡ some (line_with (word_of r.word) l.numbers.now)
  pub most : length l.numbers.now ≤ most_numbers
  pub sized : r.size ≡ suc (length (given_text (line_meaning l)))
  pub short : r.size ≤ most_line

abbrev pub ReadableYield : GivenLine → Option Readable → Type 0
ReadableYield l (Some r) = ReadsAs l r
ReadableYield l None = line_of (given_text (line_meaning l)) ≡ none
