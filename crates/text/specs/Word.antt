-- How the word reader's answers are read as values of the definitions. A field that is no word is refusal 3.
use Rattle.std.specs.Prelude.{◌≡◌, Bool, List, ℕ, length, ℤ, Option as Answer, Some, None}
use Rattle.std.proofs.Math.Option.{some}
use Rattle.meaning.specs.Refusal.{refused_by, or_refused}
use Rattle.meaning.specs.Word.{field, input, span, sum, relu, which, max, root, words, kind_of}
use Rattle.meaning.specs.Line.{word_among}
use Rattle.meaning.specs.Word.{Word as Meant}
use Rattle.text.specs.declared.Word.{Word}
use Rattle.text.specs.declared.Word.TheVariants.{Field, In, Span, Sum, Relu, Which, Max, Root}
use Rattle.text.specs.declared.Field.{Field as Yielded}
use Rattle.text.specs.Place.{Found, field_at}

unfoldable pub word_of : Word → Meant
word_of Field = field
word_of In = input
word_of Span = span
word_of Sum = sum
word_of Relu = relu
word_of Which = which
word_of Max = max
word_of Root = root

-- the answer is the word of the field at a place, and the place where that field ends
unfoldable pub WordYield : List ℕ → ℕ → Answer (Yielded Word) → Type 0
WordYield line at (Some f) = (word_among words (field_at line at) ≡ some (word_of f.value)) × Found 9 line at f.end
WordYield line at None = or_refused 3 (word_among words (field_at line at)) ≡ refused_by 3

-- the field at a place is this word or none
abbrev pub OnlyWord : List ℕ → ℕ → Word → Type 0
OnlyWord line at w = (other : Meant) → field_at line at ≡ (kind_of other).spelling → other ≡ word_of w

-- the answer says of any numbers, so many, whether as many belong to the word
abbrev pub CountYield : Word → (count : ℕ) → Bool → Type 0
CountYield w count r = (ns : List ℤ) → length ns ≡ count → r ≡ (kind_of (word_of w)).is_counted ns
