-- Line 0: what it yields, by its word and its number.
use mathlib.Core.Path.{◌≡◌, refl, ◌∙◌}
use mathlib.Core.Bool.{true, false, not, ◌&&◌}
use mathlib.Core.List.{List, [], ◌∷◌}
use Prim.Native.Nat.{◌≤◌}
use native.Mathlib.Omega.{arith}
use lib.ListN.{length, get_or}
use lib.IntN.{ℤ, pos, nat_abs}
use lib.Signed.{lt_z}
use Rattle.number.proofs.Word.{not-below-zero}
use Rattle.text.specs.Word.{word_of}
use Rattle.text.specs.declared.Word.{Word}
use Rattle.text.specs.declared.Word.TheVariants.{Field, In, Span, Sum, Relu, Which, Max, Root}
use Rattle.text.specs.contracts.Word.{the_type}
use types.Run.{OneOf, miss}
use denote.Enum.Declared.{tag_of}
use Rattle.meaning.specs.Number.{odd_prime}
use Rattle.meaning.specs.Word.{field, number_at, size_at, kind_of}
use Rattle.meaning.specs.Word.{Word as Meant}
use Rattle.meaning.specs.Known.{fresh}
use Rattle.meaning.specs.Gadget.Field.{field_line}
use Rattle.meaning.specs.Meaning.{gadget, prime_after, places_from, after}
use Rattle.meaning.specs.Refusal.{all, on_some, is_placed, is_over_prime, is_ranged, rules_with, rules_within, rules, first_broken}
use Rattle.rules.specs.Yield.{line_with}
use Rattle.reader.specs.Line.{ParsedLine}
use Rattle.reader.specs.Step.{stops, goes, step_of}
use Rattle.reader.specs.Read.{only}
use Rattle.rules.specs.Ready.{greatest}
use Rattle.reader.proofs.Sizes.{count-is}

-- ---- by its word and its number

pub first-other : (w : Meant) (ns : List ℤ) → (kind_of w).is_field ≡ false → stops 4 ≡ step_of 0 fresh (line_with w ns)
unfolding step_of rules rules_with rules_within first_broken on_some is_placed
first-other w ns f = rw f refl

module _ (ns : List ℤ) where
  first-not-prime : is_over_prime field ns ≡ false → stops 5 ≡ step_of 0 fresh (line_with field ns)
  unfolding step_of rules rules_with rules_within first_broken on_some is_placed kind_of
  first-not-prime f = rw f refl

  first-prime : is_over_prime field ns ≡ true → goes (only (size_at ns 0)) ≡ step_of 0 fresh (line_with field ns)
  unfolding step_of rules rules_with rules_within first_broken on_some is_placed kind_of is_ranged all gadget field_line fresh after prime_after places_from only
  first-prime f = rw f refl

-- ---- as the code has them

pub not-field : (v : Word) → OneOf (1 ∷ 2 ∷ 3 ∷ 4 ∷ 5 ∷ 6 ∷ 7 ∷ []) (tag_of the_type v) → (kind_of (word_of v)).is_field ≡ false
unfolding kind_of word_of
not-field Field h = absurd (miss (1 ∷ 2 ∷ 3 ∷ 4 ∷ 5 ∷ 6 ∷ 7 ∷ []) 0 tt h)
not-field In h = refl
not-field Span h = refl
not-field Sum h = refl
not-field Relu h = refl
not-field Which h = refl
not-field Max h = refl
not-field Root h = refl

-- the same of a word that is told apart from `field` by an equation
pub other-word : (v : Word) → (v ≡ Field → ⊥) → (kind_of (word_of v)).is_field ≡ false
unfolding kind_of word_of
other-word Field h = absurd (h refl)
other-word In h = refl
other-word Span h = refl
other-word Sum h = refl
other-word Relu h = refl
other-word Which h = refl
other-word Max h = refl
other-word Root h = refl

module _ {w : Word} {numbers : List ℤ} (parsed : ParsedLine w numbers) (is : w ≡ Field) where
  abbrev z : ℤ
  z = get_or numbers 0 (pos 0)

  pub one : length numbers ≡ 1
  unfolding kind_of word_of
  one = count-is numbers 1 is (λ ns. refl) parsed.counted

  pub first-size : nat_abs z ≤ greatest
  first-size = parsed.small 0 (omega (arith, one))

  over-prime : is_over_prime field numbers ≡ not (lt_z z (pos 0)) && odd_prime (nat_abs z)
  unfolding is_over_prime kind_of number_at
  over-prime = rw (not-below-zero z)

  pub first-negative : lt_z z (pos 0) ≡ true → stops 5 ≡ step_of 0 fresh (line_with (word_of w) numbers)
  unfolding word_of
  first-negative t = rw is (first-not-prime numbers (over-prime ∙ rw t))

  module _ (t : lt_z z (pos 0) ≡ false) where
    pub first-composite : odd_prime (nat_abs z) ≡ false → stops 5 ≡ step_of 0 fresh (line_with (word_of w) numbers)
    unfolding word_of
    first-composite o = rw is (first-not-prime numbers (over-prime ∙ rw (t, o)))

    pub first-odd-prime : odd_prime (nat_abs z) ≡ true → goes (only (nat_abs z)) ≡ step_of 0 fresh (line_with (word_of w) numbers)
    unfolding word_of size_at number_at
    first-odd-prime o = rw is (first-prime numbers (over-prime ∙ rw (t, o)))
