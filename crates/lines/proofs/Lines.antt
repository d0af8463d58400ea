-- Laws of the line reader: the numbers of fields, one more and each way out; the word before them; and a line that is one number.
use mathlib.Core.Path.{◌≡◌, refl, sym, ◌∙◌, ap}
use mathlib.Core.Bool.{Bool, true, false, and-false}
use mathlib.Core.List.{List, [], ◌∷◌, ◌++◌, append-nil, append_assoc}
use mathlib.Core.Option.{Option, none, some, none-ne-some}
use Prim.Native.Nat.{ℕ, suc, ◌+◌, ◌-◌, ◌%◌, ◌≤◌, ◌<◌}
use native.Mathlib.Numerals.{add-one}
use native.Mathlib.Omega.{arith}
use borrow.Author.Tests.{lt-leb, ne_eqb, ltb-true, ltb-false}
use lib.Dec.{eqb, ltb}
use lib.IntN.{ℤ}
use lib.ListN.{length, take, drop, set, length-set, length-append, take-append-drop}
use lib.Seq.{length-take-le, take-nil, take-suc-set, drop-drop, drop-set-lt}
use Rattle.meaning.specs.Text.{bytes, fields_of, number, same_bytes, sized, is_plain, all_digits, is_digit}
use Rattle.meaning.specs.Word.{field, input, span, sum, relu, which, max, root, words, kind_of, most_numbers}
use Rattle.meaning.specs.Line.{word_among, cons_number, numbers_of, assemble, line_of_fields, line_of}
use Rattle.meaning.specs.Word.{Word as MeantWord}
use Rattle.text.specs.Place.{index_of, field_at}
use Rattle.lines.specs.Parsed.{if_some, leading_numbers, after_word, leading, Stored}
use Rattle.text.proofs.Numbers.{tab-number}
use Rattle.meaning.proofs.Words.{word-spelled}
use Rattle.text.proofs.Places.{fields-two, fields-one}

-- the numbers that were read, before those that are left
unfoldable pub after_numbers : List ℤ → Option (List ℤ) → Option (List ℤ)
after_numbers ns none = none
after_numbers ns (some ms) = some (ns ++ ms)

-- one number more: it goes from the first that is left to the last that was read
pub after_next : (ns : List ℤ) (n : ℤ) (rest : Option (List ℤ)) → after_numbers ns (cons_number (some n) rest) ≡ after_numbers (ns ++ n ∷ []) rest
unfolding after_numbers cons_number
after_next ns n none = refl
after_next ns n (some ms) = ap some (sym (append_assoc ns (n ∷ []) ms))

pub before-all : (numbers : Option (List ℤ)) → numbers ≡ after_numbers [] numbers
unfolding after_numbers
before-all none = refl
before-all (some ns) = refl

-- ---- no word has more numbers than the most

pub count-over : (w : MeantWord) (ns : List ℤ) → most_numbers < length ns → (kind_of w).is_counted ns ≡ false
unfolding kind_of
count-over field ns h = ne_eqb (length ns) 1 (λ e. omega arith)
count-over input ns h = ne_eqb (length ns) 0 (λ e. omega arith)
count-over span ns h = ne_eqb (length ns) 4 (λ e. omega arith)
count-over sum ns h = rw (lt-leb (length ns) most_numbers h) (and-false (eqb (length ns % 2) 1))
count-over relu ns h = ne_eqb (length ns) 3 (λ e. omega arith)
count-over which ns h = ne_eqb (length ns) 4 (λ e. omega arith)
count-over max ns h = ne_eqb (length ns) 4 (λ e. omega arith)
count-over root ns h = ne_eqb (length ns) 3 (λ e. omega arith)

after-full : (w : MeantWord) (ns : List ℤ) (first : Option ℤ) (rest : Option (List ℤ)) → length ns ≡ most_numbers
    → assemble (some w) (after_numbers ns (cons_number first rest)) ≡ none
unfolding assemble after_numbers cons_number
after-full w ns none rest h = refl
after-full w ns (some n) none h = refl
after-full w ns (some n) (some ms) h = rw (count-over w (ns ++ n ∷ ms) (omega (arith, length-append ns (n ∷ ms))))

-- ---- the numbers of fields

-- of all fields those that are left are still to read: the numbers of the others stand, and what comes after them is as it was before
pub record ReadingNumbers (all left : List (List ℕ)) (before numbers : List ℤ) (count : ℕ) : Type 0 where
  pub yields : numbers_of all ≡ after_numbers (take count numbers) (numbers_of left)
  pub stands : take most_numbers (leading_numbers all) ≡ take count numbers ++ take (most_numbers - count) (leading_numbers left)
  pub rest : drop count numbers ≡ drop count before
  pub long : length numbers ≡ most_numbers
  pub kept : length numbers ≡ length before

pub reading-start : (all : List (List ℕ)) (numbers : List ℤ) → length numbers ≡ most_numbers → ReadingNumbers all all numbers numbers 0
reading-start all numbers long = record { yields = before-all (numbers_of all); stands = refl; rest = refl; long = long; kept = refl }

module _ {all left : List (List ℕ)} {before numbers : List ℤ} {count : ℕ} (r : ReadingNumbers all left before numbers count) (most : count ≤ most_numbers) where
  -- where none of the leading numbers is to come
  stored : take (most_numbers - count) (leading_numbers left) ≡ [] → Stored (leading_numbers all) before numbers
  stored nothing =
      let first : take most_numbers (leading_numbers all) ≡ take count numbers = r.stands ∙ rw nothing (append-nil (take count numbers)) in record {
        stand = rw (first, length-take-le count numbers (omega (arith, r.long)), ← r.rest) (sym (take-append-drop count numbers));
        kept = r.kept;
      }

  pub reading-end : left ≡ [] → (numbers_of all ≡ some (take count numbers)) × Stored (leading_numbers all) before numbers
  unfolding numbers_of after_numbers leading_numbers
  reading-end q = (r.yields ∙ rw q (ap some (append-nil (take count numbers))), stored (rw q (take-nil (most_numbers - count))))

  module _ {f : List ℕ} {fs : List (List ℕ)} (q : left ≡ f ∷ fs) where
    pub reading-none : number f ≡ none → ((w : MeantWord) → assemble (some w) (numbers_of all) ≡ none) × Stored (leading_numbers all) before numbers
    unfolding numbers_of cons_number after_numbers assemble leading_numbers if_some
    reading-none no_number = (λ w. rw (r.yields, q, no_number), stored (rw (q, no_number) (take-nil (most_numbers - count))))

    pub reading-full : most_numbers ≤ count → ((w : MeantWord) → assemble (some w) (numbers_of all) ≡ none) × Stored (leading_numbers all) before numbers
    unfolding numbers_of
    reading-full full =
        let places : most_numbers - count ≡ 0 = omega arith in (
          λ w. rw (r.yields, q) (after-full w (take count numbers) (number f) (numbers_of fs) (omega (arith, length-take-le count numbers (omega (arith, r.long))))),
          stored (rw places),
        )

    pub reading-turn : {n : ℤ} → number f ≡ some n → count < most_numbers → ReadingNumbers all fs before (set numbers count n) (count + 1)
    unfolding numbers_of leading_numbers if_some
    reading-turn {n} is room =
        let places : most_numbers - count ≡ suc (most_numbers - (count + 1)) = omega arith in
        let more : take (count + 1) (set numbers count n) ≡ take count numbers ++ (n ∷ []) = rw add-one (take-suc-set numbers count n (omega (arith, r.long))) in
        let later = take (most_numbers - (count + 1)) (leading_numbers fs) in
        let one : take (most_numbers - count) (leading_numbers left) ≡ n ∷ later = rw (q, is, places) in
        record {
          yields = r.yields ∙ rw (q, is, more) (after_next (take count numbers) n (numbers_of fs));
          stands = r.stands ∙ rw (one, more) (sym (append_assoc (take count numbers) (n ∷ []) later));
          rest =
              drop-set-lt (count + 1) numbers count n (omega arith) ∙ sym (drop-drop 1 count numbers) ∙ ap (drop 1) r.rest
              ∙ drop-drop 1 count before;
          long = length-set numbers count n ∙ r.long;
          kept = length-set numbers count n ∙ r.kept;
        }

-- ---- the word: the line's first field

module _ (line : List ℕ) {f : List ℕ} {fs : List (List ℕ)} (q : fields_of line ≡ f ∷ fs) where
  module _ {w : MeantWord} (is : word_among words f ≡ some w) where
    pub line_word : line_of line ≡ assemble (some w) (numbers_of fs)
    unfolding line_of line_of_fields
    line_word = rw (q, is)

    pub leading-word : leading line ≡ leading_numbers fs
    unfolding leading after_word if_some
    leading-word = rw (q, is)

  module _ (no_word : word_among words f ≡ none) where
    pub line-no-word : line_of line ≡ none
    unfolding line_of line_of_fields assemble
    line-no-word = rw (q, no_word)

    pub leading-no-word : leading line ≡ leading_numbers (fields_of line)
    unfolding leading after_word if_some
    leading-no-word = rw (q, no_word)

-- ---- a line that is one number

-- the number, where there is one alone
unfoldable pub only_one : Option (List ℤ) → Option ℤ
only_one none = none
only_one (some []) = none
only_one (some (z ∷ [])) = some z
only_one (some (z ∷ (y ∷ zs))) = none

two-numbers : (first second : Option ℤ) (rest : Option (List ℤ)) → only_one (cons_number first (cons_number second rest)) ≡ none
unfolding only_one cons_number
two-numbers none second rest = refl
two-numbers (some z) none rest = refl
two-numbers (some z) (some y) none = refl
two-numbers (some z) (some y) (some zs) = refl

one_number : (first : Option ℤ) → only_one (cons_number first (some [])) ≡ first
unfolding only_one cons_number
one_number none = refl
one_number (some z) = refl

alone_at : (has-tab : Bool) (xs : List ℕ) → ltb (index_of 9 xs) (length xs) ≡ has-tab → number xs ≡ only_one (numbers_of (fields_of xs))
unfolding numbers_of fields_of
alone_at true xs p =
    let two = fields-two xs (ltb-true _ _ p) in
    tab-number xs (ltb-true _ _ p) ∙ sym (rw two.2 (two-numbers (number (field_at xs 0)) (number two.0) (numbers_of two.1)))
alone_at false xs p =
    let one = fields-one xs (ltb-false _ _ p) in
    sym (rw one (one_number (number xs)))

pub number-alone : (xs : List ℕ) → number xs ≡ only_one (numbers_of (fields_of xs))
number-alone xs = alone_at _ xs refl

-- no word has such numbers, so that they are not one
pub none-alone : (ns : Option (List ℤ)) → assemble (some sum) ns ≡ none → only_one ns ≡ none
unfolding only_one assemble kind_of
none-alone none q = refl
none-alone (some []) q = refl
none-alone (some (z ∷ [])) q = absurd (none-ne-some _ (sym q))
none-alone (some (z ∷ (y ∷ zs))) q = refl

pub many-alone : (ns : List ℤ) → (length ns ≡ 1 → ⊥) → only_one (some ns) ≡ none
unfolding only_one
many-alone [] q = refl
many-alone (z ∷ []) q = absurd (q refl)
many-alone (z ∷ (y ∷ zs)) q = refl

-- a word is no number
spelling-no-number : (w : MeantWord) → number (kind_of w).spelling ≡ none
unfolding kind_of bytes number same_bytes sized is_plain all_digits is_digit
spelling-no-number field = refl
spelling-no-number input = refl
spelling-no-number span = refl
spelling-no-number sum = refl
spelling-no-number relu = refl
spelling-no-number which = refl
spelling-no-number max = refl
spelling-no-number root = refl

-- ---- a line at a place: what its fields yield

pub word-no-number : (line : List ℕ) {f : List ℕ} {fs : List (List ℕ)} {w : MeantWord} → fields_of line ≡ f ∷ fs → word_among words f ≡ some w → number line ≡ none
unfolding numbers_of cons_number only_one
word-no-number line {f} {fs} {w} q is = number-alone line ∙ rw (q, word-spelled words f w is, spelling-no-number w)
