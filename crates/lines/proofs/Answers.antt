-- What an answer of `line_of` says to its caller: the line, that it has the right count of numbers, and that they are small.
use mathlib.Core.Path.{◌≡◌, refl, sym, ◌∙◌}
use mathlib.Core.Bool.{Bool, true, false, cond}
use mathlib.Core.List.{List, [], ◌∷◌}
use mathlib.Core.Option.{Option, none, some, none-ne-some}
use Prim.Native.Nat.{ℕ, zero, suc, ◌+◌, ◌≤◌, ◌<◌}
use native.Mathlib.Omega.{arith}
use lib.IntN.{ℤ, pos, nat_abs}
use lib.ListN.{get_or, take}
use lib.Seq.{get_or-take}
use Rattle.meaning.specs.Text.{fields_of, number, largest}
use Rattle.meaning.specs.Word.{words, kind_of, most_numbers}
use Rattle.meaning.specs.Line.{word_among, cons_number, numbers_of, assemble, line_of_fields, line_of}
use Rattle.meaning.specs.Word.{Word as MeantWord}
use Rattle.meaning.specs.Line.{Line as MeantLine}
use Rattle.meaning.proofs.Results.{refused_none, value-some}
use Rattle.std.specs.Prelude.{Option as Answer, Some, None}
use Rattle.lines.specs.declared.Line.{Line}
use Rattle.text.specs.Word.{word_of}
use Rattle.lines.specs.Parsed.{parsed_meaning, count_meaning, LineRead, NextAfter}
use Rattle.text.specs.Place.{end_of}
use Rattle.text.proofs.Numbers.{number_small}

-- ---- every line that the definition reads is good

abbrev pub AtMostLargest : List ℤ → Type 0
AtMostLargest ns = (i : ℕ) → nat_abs (get_or ns i (pos 0)) ≤ largest

pub record GoodLine (l : MeantLine) : Type 0 where
  pub counted : (kind_of l.word).is_counted l.numbers ≡ true
  pub small : AtMostLargest l.numbers

cons-small : (first : Option ℤ) (rest : Option (List ℤ)) (ns : List ℤ) → ((z : ℤ) → first ≡ some z → nat_abs z ≤ largest)
    → ((ms : List ℤ) → rest ≡ some ms → AtMostLargest ms) → cons_number first rest ≡ some ns → AtMostLargest ns
unfolding cons_number
cons-small none rest ns small later q i = absurd (none-ne-some _ q)
cons-small (some n) none ns small later q i = absurd (none-ne-some _ q)
cons-small (some n) (some ms) ns small later q zero = let e : n ∷ ms ≡ ns = cc in rw (← e) (small n refl)
cons-small (some n) (some ms) ns small later q (suc i) = let e : n ∷ ms ≡ ns = cc in rw (← e) (later ms refl i)

numbers-small : (fields : List (List ℕ)) (ns : List ℤ) → numbers_of fields ≡ some ns → AtMostLargest ns
unfolding numbers_of
numbers-small [] ns q i = let e : [] ≡ ns = cc in rw (← e) (omega arith)
numbers-small (f ∷ fs) ns q i = cons-small (number f) (numbers_of fs) ns (λ z. number_small f) (numbers-small fs) q i

good-at : (t : Bool) (l m : MeantLine) → (kind_of l.word).is_counted l.numbers ≡ t → AtMostLargest l.numbers → cond t (some l) none ≡ some m → GoodLine m
good-at true l m p small q = let e : l ≡ m = cc in rw (← e) (record { counted = p; small = small })
good-at false l m p small q = absurd (none-ne-some _ q)

good-assembled : (w : Option MeantWord) (ns : Option (List ℤ)) (l : MeantLine) → ((ms : List ℤ) → ns ≡ some ms → AtMostLargest ms) → assemble w ns ≡ some l → GoodLine l
unfolding assemble
good-assembled none ns l small q = absurd (none-ne-some _ q)
good-assembled (some w) none l small q = absurd (none-ne-some _ q)
good-assembled (some w) (some ns) l small q = good-at _ (record { word = w; numbers = ns }) l refl (small ns refl) q

good-fields : (fields : List (List ℕ)) (l : MeantLine) → line_of_fields fields ≡ some l → GoodLine l
unfolding line_of_fields
good-fields [] l q = absurd (none-ne-some _ q)
good-fields (f ∷ fs) l q = good-assembled (word_among words f) (numbers_of fs) l (numbers-small fs) q

pub good-line : (line : List ℕ) {l : MeantLine} → line_of line ≡ some l → GoodLine l
unfolding line_of
good-line line {l} q = good-fields (fields_of line) l q

-- ---- what an answer says

module _ {line : List ℕ} {before after : List ℤ} {r : Answer Line} (read : LineRead line before after r) where
  pub no-line-meaning : r ≡ None → line_of line ≡ none
  unfolding parsed_meaning
  no-line-meaning q = refused_none 3 _ (sym read.meaning ∙ rw q)

  module _ {l : Line} (q : r ≡ Some l) where
    pub line-meaning : line_of line ≡ some (record { word = word_of l.word; numbers = take l.count after })
    unfolding parsed_meaning
    line-meaning = value-some 3 _ (sym read.meaning ∙ rw q)

    pub line-most : l.count ≤ most_numbers
    unfolding count_meaning
    line-most = rw q at read.most

    pub line-counted : (kind_of (word_of l.word)).is_counted (take l.count after) ≡ true
    line-counted = (good-line line line-meaning).counted

    pub line_small : (i : ℕ) → i < l.count → nat_abs (get_or after i (pos 0)) ≤ largest
    line_small i h = rw (get_or-take l.count after i (pos 0) h) at ((good-line line line-meaning).small i)

pub line-next : (text : List ℕ) (at : ℕ) {r : Answer Line} → NextAfter text at r → {l : Line} → r ≡ Some l → l.next ≡ end_of text at + 1
unfolding NextAfter
line-next text at after q = rw q at after
