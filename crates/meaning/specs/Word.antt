-- What a word is, in one place: how it is spelled, what the numbers after it are, and what its line does. A new word is one clause of `kind_of`.
-- Clauses 3.1 to 3.4 of docs/FORMAT.md; what each line does stands in Gadget.antt's modules.
use Rattle.std.specs.Prelude.{ℕ, suc, ◌%◌, Bool, true, false, ◌&&◌, List, [], ◌∷◌, leb, eqb, length, get_or, ℤ, pos, nat_abs}
use Rattle.meaning.specs.Text.{bytes}
use Rattle.meaning.specs.Known.{Known}
use Rattle.meaning.specs.Gadget.Interface.{Gadget}
use Rattle.meaning.specs.Gadget.Field.{field_line}
use Rattle.meaning.specs.Gadget.Input.{input_line}
use Rattle.meaning.specs.Gadget.Span.{span_line}
use Rattle.meaning.specs.Gadget.Sum.{sum_line, terms_of}
use Rattle.meaning.specs.Gadget.Relu.{relu_line}
use Rattle.meaning.specs.Gadget.Which.{which_line}
use Rattle.meaning.specs.Gadget.Max.{max_line}
use Rattle.meaning.specs.Gadget.Root.{root_line}

-- the eight words. FORMAT 3.1
pub data Word : Type 0 where
  field input span sum relu which max root : Word

-- all of them. FORMAT 3.1
unfoldable pub words : List Word
words = field ∷ input ∷ span ∷ sum ∷ relu ∷ which ∷ max ∷ root ∷ []

-- ---- the numbers of a line

-- the number at a place, and its size
unfoldable pub number_at : List ℤ → ℕ → ℤ
number_at ns i = get_or ns i (pos 0)

unfoldable pub size_at : List ℤ → ℕ → ℕ
size_at ns i = nat_abs (number_at ns i)

-- every other number of a list, from its first
unfoldable pub alternate : List ℤ → List ℤ
alternate [] = []
alternate (x ∷ []) = x ∷ []
alternate (x ∷ (y ∷ xs)) = x ∷ alternate xs

-- a list but for its first number
unfoldable pub without_first : List ℤ → List ℤ
without_first [] = []
without_first (n ∷ ns) = ns

-- a base and a count of digits. FORMAT 3.4
pub record Digits : Type 0 where
  pub b : ℤ
  pub k : ℤ

-- those that stand at this place and the next
unfoldable pub digits_at : List ℤ → ℕ → List Digits
digits_at ns i = record { b = number_at ns i; k = number_at ns (suc i) } ∷ []

-- the most numbers that a line has: a sum's constant and 16 pairs. FORMAT 3.1, 4.5
abbrev pub most_numbers : ℕ
most_numbers = 33

-- ---- the kinds of lines

-- what a word is. FORMAT 3.1
pub record Kind : Type 0 where
  pub spelling : List ℕ
  -- the line that sets p. FORMAT 3.5
  pub is_field : Bool
  -- are these as many numbers as the word has after it? FORMAT 3.1, 4.5
  pub is_counted : List ℤ → Bool
  -- the numbers that name values: u and v, and v1, v2, .. of a sum. FORMAT 3.3
  pub names : List ℤ → List ℤ
  -- c0 and the coefficients c1, c2, .. of a sum. FORMAT 4.4
  pub coefficients : List ℤ → List ℤ
  -- L of a span. FORMAT 4.3
  pub shifts : List ℤ → List ℤ
  -- the base and the digit count. FORMAT 3.4
  pub digits : List ℤ → List Digits
  -- what the line does, by what is known before it
  pub gadget : Known → List ℤ → Gadget

-- which numbers a line has: none of a sort, no base, one name, two names
abbrev has_none : List ℤ → List ℤ
has_none ns = []

abbrev no_digits : List ℤ → List Digits
no_digits ns = []

abbrev named : List ℤ → List ℤ
named ns = number_at ns 0 ∷ []

abbrev both_named : List ℤ → List ℤ
both_named ns = number_at ns 0 ∷ number_at ns 1 ∷ []

-- a line that names no value
abbrev kind_without : (spelling : List ℕ) (is_field : Bool) (count : ℕ) (gadget : Known → Gadget) → Kind
kind_without s f n g = record {
  spelling = s;
  is_field = f;
  is_counted = λ ns. eqb (length ns) n;
  names = has_none;
  coefficients = has_none;
  shifts = has_none;
  digits = no_digits;
  gadget = λ known ns. g known;
}

-- a line that makes a value of the one or two that it names, shown by digits
abbrev kind_with : (spelling : List ℕ) (count : ℕ) (names : List ℤ → List ℤ) (digits : ℕ) (gadget : Known → List ℤ → Gadget) → Kind
kind_with s n names i g = record {
  spelling = s;
  is_field = false;
  is_counted = λ ns. eqb (length ns) n;
  names = names;
  coefficients = has_none;
  shifts = has_none;
  digits = λ ns. digits_at ns i;
  gadget = g;
}

-- each word. FORMAT 3.1, 3.2
unfoldable pub kind_of : Word → Kind
kind_of field = kind_without (bytes "field") true 1 field_line
kind_of input = kind_without (bytes "in") false 0 input_line
kind_of span = record {
  spelling = bytes "span";
  is_field = false;
  is_counted = λ ns. eqb (length ns) 4;
  names = named;
  coefficients = has_none;
  shifts = λ ns. number_at ns 3 ∷ [];
  digits = λ ns. digits_at ns 1;
  gadget = λ s ns. span_line s (size_at ns 0) (size_at ns 1) (size_at ns 2) (number_at ns 3);
}
-- a constant, then 0 to 16 pairs. FORMAT 4.5
kind_of sum = record {
  spelling = bytes "sum";
  is_field = false;
  is_counted = λ ns. eqb (length ns % 2) 1 && leb (length ns) most_numbers;
  names = λ ns. alternate (without_first (without_first ns));
  coefficients = λ ns. number_at ns 0 ∷ alternate (without_first ns);
  shifts = has_none;
  digits = no_digits;
  gadget = λ s ns. sum_line s (number_at ns 0) (terms_of (without_first ns));
}
kind_of relu = kind_with (bytes "relu") 3 named 1 (λ s ns. relu_line s (size_at ns 0) (size_at ns 1) (size_at ns 2))
kind_of which = kind_with (bytes "which") 4 both_named 2 (λ s ns. which_line s (size_at ns 0) (size_at ns 1) (size_at ns 2) (size_at ns 3))
kind_of max = kind_with (bytes "max") 4 both_named 2 (λ s ns. max_line s (size_at ns 0) (size_at ns 1) (size_at ns 2) (size_at ns 3))
kind_of root = kind_with (bytes "root") 3 named 1 (λ s ns. root_line s (size_at ns 0) (size_at ns 1) (size_at ns 2))
