-- How the line reader's answer and the numbers that it wrote are read as a value of the definitions, and what it leaves in the numbers
-- that were lent to it. Bytes that spell no line are refusal 3.
use Rattle.std.specs.Prelude.{◌≡◌, ℕ, ◌+◌, ◌≤◌, Bool, true, false, cond, List, [], ◌∷◌, ◌++◌, eqb, ℤ, pos, length, get_or, take, drop, Option as Answer, Some, None}
use Rattle.std.proofs.Math.Option.{Option, none, some}
use Rattle.meaning.specs.Text.{fields_of, number}
use Rattle.meaning.specs.Word.{words, most_numbers, kind_of}
use Rattle.meaning.specs.Line.{word_among, numbers_of, assemble, line_of}
use Rattle.meaning.specs.Word.{Word as MeantWord}
use Rattle.meaning.specs.Line.{Line as Meant}
use Rattle.meaning.specs.Refusal.{Result, value, refused_by, or_refused}
use Rattle.text.specs.Word.{word_of}
use Rattle.text.specs.Place.{end_of, line_at, fields_from}
use Rattle.text.specs.declared.Word.{Word}
use Rattle.text.specs.declared.Field.{Field}
use Rattle.lines.specs.declared.Fields.{Fields}
use Rattle.lines.specs.declared.Line.{Line}

unfoldable pub parsed_meaning : Answer Line → List ℤ → Result Meant
parsed_meaning (Some l) ns = value (record { word = word_of l.word; numbers = take l.count ns })
parsed_meaning None ns = refused_by 3

-- how many numbers were written, by the answer
unfoldable pub count_meaning : Answer Line → ℕ
count_meaning (Some l) = l.count
count_meaning None = 0

-- the place in the answer is where the line after the one at `at` starts
unfoldable pub NextAfter : List ℕ → ℕ → Answer Line → Type 0
NextAfter text at (Some l) = l.next ≡ end_of text at + 1
NextAfter text at None = Unit {0}

-- ---- the numbers that are left

unfoldable pub if_some : {A : Type 0} {B : Type 0} → Option A → B → (A → B) → B
if_some none b f = b
if_some (some x) b f = f x

-- the numbers that fields spell, up to the first field that spells none
unfoldable pub leading_numbers : List (List ℕ) → List ℤ
leading_numbers [] = []
leading_numbers (f ∷ fs) = if_some (number f) [] (λ n. n ∷ leading_numbers fs)

-- the fields of a line that may be numbers: all but a word that stands first
unfoldable pub after_word : List (List ℕ) → List (List ℕ)
after_word [] = []
after_word (f ∷ fs) = if_some (word_among words f) (f ∷ fs) (λ _. fs)

-- the numbers that reading a line writes, whether it spells a line or is refused
unfoldable pub leading : List ℕ → List ℤ
leading line = leading_numbers (after_word (fields_of line))

-- the leading numbers, as many as a line can have, stand first, and what comes after them is as it was before
pub record Stored (ns before after : List ℤ) : Type 0 where
  pub stand : after ≡ take most_numbers ns ++ drop (length (take most_numbers ns)) before
  pub kept : length after ≡ length before

-- ---- what fields yield

-- the numbers of the fields from `from` on, and where the line ends; or no word has such numbers
unfoldable pub NumbersYield : List ℕ → ℕ → List ℤ → Answer (Field ℕ) → Type 0
NumbersYield line from after (Some f) =
    (numbers_of (fields_from line from) ≡ some (take f.value after)) × (f.value ≤ most_numbers) × (f.end ≡ length line)
NumbersYield line from after None = (w : MeantWord) → assemble (some w) (numbers_of (fields_from line from)) ≡ none

-- the answer for a word with so many numbers, by whether as many belong to it
unfoldable pub worded_by : Bool → Word → ℕ → ℕ → Fields
worded_by true w count next = record { word = Some w; count = count; next = next }
worded_by false w count next = record { word = None; count = 0; next = next }

abbrev pub WordedAs : Word → (count next : ℕ) → Fields → Type 0
WordedAs w count next f = (ns : List ℤ) → length ns ≡ count → f ≡ worded_by ((kind_of (word_of w)).is_counted ns) w count next

-- the number that stands alone, where so many do: the first that was written
unfoldable pub alone_among : ℕ → List ℤ → Option ℤ
alone_among count ns = cond (eqb count 1) (some (get_or ns 0 (pos 0))) none

-- the line with this word and so many numbers stands at `at`; or no line does, and the number there is the one that stands alone
unfoldable pub FieldsAre : List ℕ → ℕ → List ℤ → Answer Word → ℕ → Type 0
FieldsAre text at after (Some w) count =
    (line_of (line_at text at) ≡ some (record { word = word_of w; numbers = take count after })) × (number (line_at text at) ≡ none)
    × (count ≤ most_numbers)
FieldsAre text at after None count = (line_of (line_at text at) ≡ none) × (number (line_at text at) ≡ alone_among count after)

-- the word and the numbers of the line at `at`, or the number that it is where one stands alone, and where the next line starts; or it is no
-- line and no number
unfoldable pub FieldsYield : List ℕ → ℕ → List ℤ → Answer Fields → Type 0
FieldsYield text at after (Some f) = FieldsAre text at after f.word f.count × (f.next ≡ end_of text at + 1)
FieldsYield text at after None = (line_of (line_at text at) ≡ none) × (number (line_at text at) ≡ none)

-- the answer, with the numbers as they were left, is the line that the bytes spell
pub record LineRead (line : List ℕ) (before after : List ℤ) (r : Answer Line) : Type 0 where
  pub meaning : parsed_meaning r after ≡ or_refused 3 (line_of line)
  pub most : count_meaning r ≤ most_numbers
  pub left : Stored (leading line) before after
