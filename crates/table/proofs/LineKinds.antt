-- The kinds of lines that have a base and a digit count: where these and the names stand among the line's numbers, and the line's gadget
-- by them. What holds of all such kinds is said once, for those that name one value and for those that name two.
use mathlib.Core.Path.{◌≡◌, refl, ◌∙◌}
use mathlib.Core.Bool.{true, false}
use mathlib.Core.List.{List, [], ◌∷◌}
use Prim.Native.Nat.{ℕ, ◌+◌, ◌^◌, ◌≤◌, ◌<◌}
use native.Mathlib.Omega.{arith}
use lib.IntN.{ℤ, pos}
use lib.ListN.{length, get_or}
use lib.Dec.{eqb, eqb→eq}
use Rattle.algebra.proofs.Test.{≡-test}
use Rattle.meaning.specs.Word.{Word, number_at, size_at, digits_at, kind_of}
use Rattle.meaning.specs.Known.{Known}
use Rattle.meaning.specs.Gadget.Interface.{Gadget}
use Rattle.meaning.specs.Gadget.Span.{span_line}
use Rattle.meaning.specs.Gadget.Relu.{relu_line}
use Rattle.meaning.specs.Gadget.Which.{which_line}
use Rattle.meaning.specs.Gadget.Max.{max_line}
use Rattle.meaning.specs.Gadget.Root.{root_line}
use Rattle.meaning.specs.Meaning.{gadget}
use Rattle.text.specs.Word.{word_of}
use Rattle.text.specs.declared.Word.{Word as Coded}
use Rattle.text.specs.declared.Word.TheVariants.{Span, Relu, Which, Max, Root}
use Rattle.groups.specs.Numbers.{size, NameAt, DigitsFrom, DigitsAre}
use Rattle.table.specs.Line.{KeptLine, gadget_of, known_count}
use Rattle.table.proofs.LineNumbers.{first-name, second-name, digits_from, power_below}

-- a base stands at place i and its digit count after it
pub record DigitWord (w : Word) (numbers : List ℤ) (i : ℕ) : Type 0 where
  pub late : (kind_of w).is_field ≡ false
  pub long : i + 1 < length numbers
  pub digits : (kind_of w).digits numbers ≡ digits_at numbers i

-- before it one value is named
pub record OneWord (w : Word) (numbers : List ℤ) (line : Known → (v b k : ℕ) → Gadget) : Type 0 where
  pub has-digits : DigitWord w numbers 1
  pub names : (kind_of w).names numbers ≡ number_at numbers 0 ∷ []
  pub is : (s : Known) → (kind_of w).gadget s numbers ≡ line s (size numbers 0) (size numbers 1) (size numbers 2)

-- or two
pub record TwoWord (w : Word) (numbers : List ℤ) (line : Known → (u v b k : ℕ) → Gadget) : Type 0 where
  pub has-digits : DigitWord w numbers 2
  pub names : (kind_of w).names numbers ≡ number_at numbers 0 ∷ number_at numbers 1 ∷ []
  pub is : (s : Known) → (kind_of w).gadget s numbers ≡ line s (size numbers 0) (size numbers 1) (size numbers 2) (size numbers 3)

-- as many numbers as a line of the kind has
so-many : (n : ℕ) (numbers : List ℤ) → eqb (length numbers) n ≡ true → length numbers ≡ n
so-many n numbers e = eqb→eq (length numbers) n (≡-test (eqb (length numbers) n) e)

-- which kind a line is of, and what that says of its numbers; the word is the code's
module _ {word : Coded} {numbers : List ℤ} where
  pub relu-word : word ≡ Relu → KeptLine (word_of word) numbers → OneWord (word_of word) numbers relu_line
  unfolding word_of kind_of number_at size_at
  relu-word e = rw e (λ l. record { has-digits = record { late = refl; long = omega (arith, so-many 3 numbers l.counted); digits = refl }; names = refl; is = λ s. refl })

  pub root-word : word ≡ Root → KeptLine (word_of word) numbers → OneWord (word_of word) numbers root_line
  unfolding word_of kind_of number_at size_at
  root-word e = rw e (λ l. record { has-digits = record { late = refl; long = omega (arith, so-many 3 numbers l.counted); digits = refl }; names = refl; is = λ s. refl })

  pub span-long : word ≡ Span → KeptLine (word_of word) numbers → length numbers ≡ 4
  unfolding word_of kind_of
  span-long e = rw e (λ l. so-many 4 numbers l.counted)

  pub span-word : word ≡ Span → KeptLine (word_of word) numbers → OneWord (word_of word) numbers (λ s v b k. span_line s v b k (get_or numbers 3 (pos 0)))
  unfolding word_of kind_of number_at size_at
  span-word e = rw e (λ l. record { has-digits = record { late = refl; long = omega (arith, so-many 4 numbers l.counted); digits = refl }; names = refl; is = λ s. refl })

  pub which-word : word ≡ Which → KeptLine (word_of word) numbers → TwoWord (word_of word) numbers which_line
  unfolding word_of kind_of number_at size_at
  which-word e = rw e (λ l. record { has-digits = record { late = refl; long = omega (arith, so-many 4 numbers l.counted); digits = refl }; names = refl; is = λ s. refl })

  pub max-word : word ≡ Max → KeptLine (word_of word) numbers → TwoWord (word_of word) numbers max_line
  unfolding word_of kind_of number_at size_at
  max-word e = rw e (λ l. record { has-digits = record { late = refl; long = omega (arith, so-many 4 numbers l.counted); digits = refl }; names = refl; is = λ s. refl })

-- ---- a line of such a kind that keeps its rules

module _ {w : Word} {numbers : List ℤ} (l : KeptLine w numbers) where
  pub word-digits : {i : ℕ} → DigitWord w numbers i → DigitsFrom numbers i
  word-digits {i} word = digits_from l i word.long word.late word.digits

  pub word-power : {i b k : ℕ} → DigitWord w numbers i → DigitsAre numbers i b k → b ^ k ≤ l.state.p
  word-power {i} word d = rw (d.base, d.count) (power_below l i word.long word.late word.digits)

  module _ {line : Known → (v b k : ℕ) → Gadget} (word : OneWord w numbers line) where
    pub one_name : NameAt (known_count l) numbers 0
    one_name = first-name l 0 [] (omega (arith, word.has-digits.long)) word.names

    pub one-is : {b k : ℕ} → DigitsAre numbers 1 b k → gadget_of l ≡ line l.state (size numbers 0) b k
    unfolding gadget
    one-is d = word.is l.state ∙ rw (d.base, d.count) refl

  module _ {line : Known → (u v b k : ℕ) → Gadget} (word : TwoWord w numbers line) where
    pub two-first : NameAt (known_count l) numbers 0
    two-first = first-name l 0 _ (omega (arith, word.has-digits.long)) word.names

    pub two-second : NameAt (known_count l) numbers 1
    two-second = second-name l 1 _ [] (omega (arith, word.has-digits.long)) word.names

    pub two_is : {b k : ℕ} → DigitsAre numbers 2 b k → gadget_of l ≡ line l.state (size numbers 0) (size numbers 1) b k
    unfolding gadget
    two_is d = word.is l.state ∙ rw (d.base, d.count) refl

  -- where its kind is known by one of the laws above: its digits, as `digits_from` asks them
  pub one-digits : {line : Known → (v b k : ℕ) → Gadget} → (KeptLine w numbers → OneWord w numbers line) → DigitsFrom numbers 1
  one-digits kind = word-digits (kind l).has-digits

  pub two-digits : {line : Known → (u v b k : ℕ) → Gadget} → (KeptLine w numbers → TwoWord w numbers line) → DigitsFrom numbers 2
  two-digits kind = word-digits (kind l).has-digits
