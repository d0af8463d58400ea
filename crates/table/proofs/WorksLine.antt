-- What working a line of each kind answers is what its gadget says of the values before it.
use mathlib.Core.Path.{◌≡◌, refl, sym, ap}
use mathlib.Core.Bool.{Bool, cond, true, false}
use mathlib.Core.List.{List, [], ◌∷◌}
use Prim.Native.Nat.{ℕ, ◌^◌, ◌≤◌}
use native.Mathlib.Omega.{arith}
use lib.Dec.{ltb}
use lib.IntN.{ℤ, pos, nat_abs, ◌-ℤ◌}
use lib.ListN.{length, get_or}
use Rattle.meaning.specs.Word.{Word, sum, number_at, without_first, kind_of}
use Rattle.meaning.specs.Number.{between}
use Rattle.meaning.specs.Known.{Known, larger}
use Rattle.meaning.specs.Meaning.{gadget}
use Rattle.meaning.specs.Refusal.{value, refused_by}
use Rattle.meaning.specs.Gadget.Interface.{Gadget}
use Rattle.meaning.specs.Gadget.Digits.{value_at}
use Rattle.meaning.specs.Gadget.Field.{field_line}
use Rattle.meaning.specs.Gadget.Input.{input_line}
use Rattle.meaning.specs.Gadget.Span.{span_top, span_line}
use Rattle.meaning.specs.Gadget.Sum.{terms_of, sum_line}
use Rattle.meaning.specs.Gadget.Sign.{sign_statement}
use Rattle.meaning.specs.Gadget.Relu.{relu_line}
use Rattle.meaning.specs.Gadget.Which.{which_value, which_line}
use Rattle.meaning.specs.Gadget.Max.{max_line}
use Rattle.meaning.specs.Gadget.Root.{root_value, root_line}
use Rattle.meaning.proofs.Lines.{terms-named}
use Rattle.number.specs.Bounded.{Bounded}
use Rattle.text.specs.Word.{word_of}
use Rattle.text.specs.declared.Word.{Word as Coded}
use Rattle.text.specs.declared.Word.TheVariants.{Field, In, Span, Sum, Relu, Which, Max, Root}
use Rattle.groups.specs.Cells.{worked_meaning, power_bound}
use Rattle.groups.specs.Numbers.{size, named, DigitsAre}
use Rattle.number.specs.declared.whole.Whole.{Whole}
use Rattle.refusal.specs.declared.refused.Refusal.{Refusal}
use Rattle.std.specs.Prelude.{Option, Some, None, Result, Ok}
use Rattle.table.specs.Line.{KeptLine}
use Rattle.table.specs.Sum.{sum_of, SumGiven}
use Rattle.table.specs.LineValues.{ValuesGiven, WorkYield}
use Rattle.table.proofs.LineNumbers.{half-most}
use Rattle.table.proofs.LineKinds.{span-long, span-word, relu-word, which-word, max-word, root-word}
use Rattle.table.proofs.LineKinds.{OneWord, one-is, TwoWord, two_is}
use Rattle.table.proofs.LineValues.{values-known}
use Rattle.table.proofs.WorksSumFits.{sum-small}

-- ---- one value, and a digit group

pub span-shift : {word : Coded} {numbers : List ℤ} → word ≡ Span → KeptLine (word_of word) numbers → Bounded power_bound (get_or numbers 3 (pos 0))
span-shift e l = record { size = omega (arith, l.small 3 (omega (arith, span-long e l))) }

module _ {numbers values : List ℤ} {v : ℤ} {b k : ℕ} (value-is : v ≡ named numbers 0 values) (digits : DigitsAre numbers 1 b k) (next : ℤ) (r : Result (Option Whole) Refusal) where
  -- the answer for the line's gadget over v is that for the line
  one-worked : {w : Word} {line : Known → (n b k : ℕ) → Gadget} → (KeptLine w numbers → OneWord w numbers line)
      → ((s : Known) (n : ℕ) (vs : List ℤ) → value_at vs n ≡ v
      → worked_meaning r ≡ cond ((line s n b k).statement vs) (value ((line s n b k).values vs next)) (refused_by 18)) → WorkYield w numbers values next r
  unfolding value_at
  one-worked word yields a =
      let l = a.kept in
      rw (one-is l (word l) digits) (yields l.state (size numbers 0) values (sym value-is))

  pub relu-yield : {word : Coded} → word ≡ Relu → worked_meaning r ≡ cond (sign_statement b k v) (value (larger (pos 0) v ∷ [])) (refused_by 18) → WorkYield (word_of word) numbers values next r
  unfolding relu_line
  relu-yield e h = one-worked (relu-word e) (λ s n vs is. rw is h)

  pub root-yield : {word : Coded} → word ≡ Root → worked_meaning r ≡ cond (between (pos 0) v (pos (b ^ k) -ℤ pos 1)) (value (root_value v ∷ [])) (refused_by 18)
      → WorkYield (word_of word) numbers values next r
  unfolding root_line
  root-yield e h = one-worked (root-word e) (λ s n vs is. rw is h)

  pub span-yield : {word : Coded} → word ≡ Span → {shift : ℤ} → shift ≡ get_or numbers 3 (pos 0) → worked_meaning r ≡ cond (between shift v (span_top b k shift)) (value []) (refused_by 18)
      → WorkYield (word_of word) numbers values next r
  unfolding span_line
  span-yield e same h = one-worked (span-word e) (λ s n vs is. rw (is, ← same) h)

-- ---- two values, and a digit group

module _ {numbers values : List ℤ} {u v : ℤ} {b k : ℕ} (first-is : u ≡ named numbers 0 values) (second_is : v ≡ named numbers 1 values) (digits : DigitsAre numbers 2 b k) (next : ℤ) (r : Result (Option Whole) Refusal) where
  two-worked : {w : Word} {line : Known → (m n b k : ℕ) → Gadget} → (KeptLine w numbers → TwoWord w numbers line)
      → ((s : Known) (m n : ℕ) (vs : List ℤ) → value_at vs m ≡ u → value_at vs n ≡ v
      → worked_meaning r ≡ cond ((line s m n b k).statement vs) (value ((line s m n b k).values vs next)) (refused_by 18)) → WorkYield w numbers values next r
  unfolding value_at
  two-worked word yields a =
      let l = a.kept in
      rw (two_is l (word l) digits) (yields l.state (size numbers 0) (size numbers 1) values (sym first-is) (sym second_is))

  pub which-yield : {word : Coded} → word ≡ Which → worked_meaning r ≡ cond (sign_statement b k (u -ℤ v)) (value (which_value u v ∷ [])) (refused_by 18) → WorkYield (word_of word) numbers values next r
  unfolding which_line
  which-yield e h = two-worked (which-word e) (λ s m n vs u-is v-is. rw (u-is, v-is) h)

  pub max-yield : {word : Coded} → word ≡ Max → worked_meaning r ≡ cond (ltb (nat_abs (u -ℤ v)) (b ^ k)) (value (larger u v ∷ [])) (refused_by 18) → WorkYield (word_of word) numbers values next r
  unfolding max_line
  max-yield e h = two-worked (max-word e) (λ s m n vs u-is v-is. rw (u-is, v-is) h)

-- ---- lines without a digit group

pub field-yield : {word : Coded} → word ≡ Field → (numbers values : List ℤ) (next : ℤ) → WorkYield (word_of word) numbers values next (Ok None)
unfolding word_of gadget kind_of field_line
field-yield e numbers values next = rw e (λ a. refl)

pub input-yield : {word : Coded} → word ≡ In → (numbers values : List ℤ) (next : Whole) → WorkYield (word_of word) numbers values next.0 (Ok (Some next))
unfolding word_of gadget kind_of input_line
input-yield e numbers values next = rw e (λ a. refl)

-- a sum has its constant
pub some-number : (numbers : List ℤ) → (kind_of sum).is_counted numbers ≡ true → 1 ≤ length numbers
unfolding kind_of
some-number [] e = let h : ◌≡◌ {A = Bool} false true = e in cc
some-number (c ∷ ns) e = omega arith

module _ {word : Coded} {numbers values : List ℤ} (is : word ≡ Sum) where
  pub sum-given : ValuesGiven (word_of word) numbers values → SumGiven numbers values
  unfolding word_of kind_of gadget sum_line
  sum-given = rw is (λ a.
      let l = a.kept in
      record {
        some_number = some-number numbers l.counted;
        named = rw (values-known a) l.keeps.names-made;
        small = sum-small l.state values a.within (half-most l refl) (number_at numbers 0)
            (terms_of (without_first numbers)) (terms-named l.state (without_first numbers) l.keeps.names-made) l.keeps.fits;
      })

  pub sum-yield : {x : Whole} → x.0 ≡ sum_of numbers values → (next : ℤ) → WorkYield (word_of word) numbers values next (Ok (Some x))
  unfolding word_of gadget kind_of sum_line
  sum-yield h next = rw is (λ a. ap (λ (y : ℤ). value (y ∷ [])) h)

-- what a line of any other kind yields
pub ruleset line_yields = (field-yield, input-yield, span-yield, relu-yield, which-yield, max-yield, root-yield)
