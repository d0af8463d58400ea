-- Each kind of line, stepped over: what its reader answers, and how many cells and rows it has, make what the definitions say of it.
use mathlib.Core.Path.{◌≡◌, refl, sym, ap, ◌∙◌}
use mathlib.Core.Logic.{◌⊎◌, inl, inr, ⊎_elim}
use mathlib.Core.Bool.{true, ◌&&◌}
use mathlib.Core.List.{List, [], ◌∷◌}
use mathlib.Core.Option.{Option, none, some}
use Prim.Native.Nat.{ℕ, ◌*◌, ◌%◌, ◌≤◌, ◌<◌}
use native.Mathlib.Omega.{arith}
use lib.Dec.{T, ltb}
use lib.ListN.{length, get_or, take, length-set}
use lib.Seq.{get_or-take, length-take-le}
use Rattle.std.proofs.lemmas.List.{take_all}
use lib.IntN.{ℤ, pos, nat_abs}
use lib.Signed.{◌≤ℤ◌, non_neg}
use Rattle.algebra.proofs.Test.{left}
use Rattle.meaning.specs.Word.{field, input, span, sum, relu, which, max, root, number_at, size_at, kind_of, most_numbers}
use Rattle.meaning.specs.Line.{Line}
use Rattle.meaning.specs.Word.{Word as Meant}
use Rattle.meaning.specs.Known.{Known}
use Rattle.meaning.specs.Gadget.Interface.{Gadget}
use Rattle.meaning.specs.Gadget.Field.{field_line}
use Rattle.meaning.specs.Gadget.Input.{input_line}
use Rattle.meaning.specs.Gadget.Span.{span_line}
use Rattle.meaning.specs.Gadget.Sum.{sum_line}
use Rattle.meaning.specs.Gadget.Relu.{relu_line}
use Rattle.meaning.specs.Gadget.Which.{which_line}
use Rattle.meaning.specs.Gadget.Max.{max_line}
use Rattle.meaning.specs.Gadget.Root.{root_line}
use Rattle.meaning.specs.Meaning.{gadget, prime_after, after}
use Rattle.meaning.specs.Refusal.{all, on_some, is_made, is_placed, rules_with, rules_within, rules, first_broken}
use Rattle.meaning.specs.Kept.{Keeps}
use Rattle.meaning.proofs.RowCounts.{length-group_rows, length-sign_rows, two-groups, four-groups}
use Rattle.meaning.proofs.Lines.{not-below, digits-ranged, sum-odd}
use Rattle.text.specs.Word.{word_of}
use Rattle.text.specs.declared.Word.{Word}
use Rattle.text.specs.declared.Word.TheVariants.{Field, In, Span, Sum, Relu, Which, Max, Root}
use Rattle.lines.specs.Parsed.{LineRead}
use Rattle.std.specs.Prelude.{Option as Answer, Some}
use Rattle.lines.specs.declared.Line.{Line as Spelled}
use Rattle.lines.proofs.Answers.{line-most, line-counted, line_small}
use Rattle.rules.specs.Ready.{Represented}
use Rattle.reader.specs.declared.state.State.{State}
use Rattle.reader.specs.Line.{ParsedLine, NotSpan, yield_by, line_yield}
use Rattle.rules.specs.Yield.{Yield, refuses, yield_of, span_yield, line_with}
use Rattle.reader.specs.Size.{Adds}
use Rattle.reader.specs.Step.{Step, stops, step_of, step_option}
use Rattle.reader.specs.declared.counts.Counts.{Counts}
use Rattle.reader.proofs.Growth.{Held, Grows, refused-step}
use Rattle.reader.proofs.Sizes.{HasCount, count-is}

-- ---- the arguments of a line's reader

pub meaning-state : {s : Known} {st : State} {places : List ℕ} → Held s st places → Represented s st.p st.counts.cells.0 (take st.counts.values st.ends)
meaning-state held = record {
  prime = ap (λ (q : Known). q.p) held.is;
  known = ap (λ (q : Known). q.known) held.is;
  cells_are = ap (λ (q : Known). q.cells) held.is;
}

-- a line with a word that is followed by n numbers and no other count
module _ {v w : Word} {numbers : List ℤ} (n : ℕ) (parsed : ParsedLine v numbers) (q : v ≡ w) (only : HasCount w n) where
  counted-so : length numbers ≡ n
  counted-so = count-is numbers n q only parsed.counted

  -- its reader asks for its numbers
  pub with_count : n ≤ length numbers
  with_count = omega (arith, counted-so)

-- what a line yields is what the line of its kind yields
pub by_word : {v w : Word} (numbers : List ℤ) (s : Known) (x : Yield) → v ≡ w → x ≡ line_yield s (line_with (word_of w) numbers)
    → x ≡ line_yield s (line_with (word_of v) numbers)
by_word numbers s x q h = h ∙ ap (λ (u : Word). line_yield s (line_with (word_of u) numbers)) (sym q)

-- a line with a word that no number follows has none
pub no-numbers : {v w : Word} {numbers : List ℤ} → ParsedLine v numbers → v ≡ w → HasCount w 0 → numbers ≡ []
no-numbers {numbers = numbers} parsed q only = none_left numbers (count-is numbers 0 q only parsed.counted)
  where
    none_left : (ns : List ℤ) → length ns ≡ 0 → ns ≡ []
    none_left [] e = refl
    none_left (n ∷ ns) e = absurd (omega arith)

-- ---- a field line that comes later

pub field_later : {v : Word} (s : Known) (ns : List ℤ) → v ≡ Field → refuses 4 ≡ line_yield s (line_with (word_of v) ns)
unfolding line_yield yield_by yield_of rules rules_with rules_within first_broken on_some is_placed kind_of word_of
field_later s ns q = rw q refl

-- ---- the lines that narrow no ends

-- each word is that of a span line, or another
pub span_or_other : (v : Word) → (v ≡ Span) ⊎ NotSpan (word_of v)
unfolding word_of
span_or_other Field = inr tt
span_or_other In = inr tt
span_or_other Span = inl refl
span_or_other Sum = inr tt
span_or_other Relu = inr tt
span_or_other Which = inr tt
span_or_other Max = inr tt
span_or_other Root = inr tt

-- a word that is told apart from `span` by an equation
pub other_than_span : (v : Word) → (v ≡ Span → ⊥) → NotSpan (word_of v)
other_than_span v h = ⊎_elim (λ e. absurd (h e)) (λ o. o) (span_or_other v)

-- a span line is no other
pub no_other : {v : Word} → v ≡ Span → NotSpan (word_of v) → (m n : ℕ) → m ≡ n
unfolding word_of
no_other q o m n = absurd (rw q at o)

pub yield-by-word : (s : Known) (w : Meant) (ns : List ℤ) → NotSpan w → line_yield s (line_with w ns) ≡ yield_of s (line_with w ns)
unfolding line_yield yield_by
yield-by-word s field ns h = refl
yield-by-word s input ns h = refl
yield-by-word s span ns h = absurd h
yield-by-word s sum ns h = refl
yield-by-word s relu ns h = refl
yield-by-word s which ns h = refl
yield-by-word s max ns h = refl
yield-by-word s root ns h = refl

pub grows-by-word : (s : Known) (size : Counts) (w : Meant) (ns : List ℤ) → NotSpan w → Keeps 1 s (line_with w ns) → Adds s (line_with w ns) size
    → Grows s (line_with w ns) size
unfolding gadget kind_of input_line sum_line relu_line which_line max_line root_line after prime_after is_placed
grows-by-word s size field ns h k a = absurd k.placed
grows-by-word s size input ns h k a = record { adds = a; narrowed-is = refl; prime-is = refl }
grows-by-word s size span ns h k a = absurd h
grows-by-word s size sum ns h k a = record { adds = a; narrowed-is = refl; prime-is = refl }
grows-by-word s size relu ns h k a = record { adds = a; narrowed-is = refl; prime-is = refl }
grows-by-word s size which ns h k a = record { adds = a; narrowed-is = refl; prime-is = refl }
grows-by-word s size max ns h k a = record { adds = a; narrowed-is = refl; prime-is = refl }
grows-by-word s size root ns h k a = record { adds = a; narrowed-is = refl; prime-is = refl }

-- a line that is refused, of whatever kind
pub refused-line : (s : Known) (w : Meant) (ns : List ℤ) (n : ℕ) → refuses n ≡ line_yield s (line_with w ns) → stops n ≡ step_of 1 s (line_with w ns)
unfolding line_yield yield_by yield_of span_yield
refused-line s field ns n e = refused-step s _ _ n e
refused-line s input ns n e = refused-step s _ _ n e
refused-line s span ns n e = refused-step s _ _ n e
refused-line s sum ns n e = refused-step s _ _ n e
refused-line s relu ns n e = refused-step s _ _ n e
refused-line s which ns n e = refused-step s _ _ n e
refused-line s max ns n e = refused-step s _ _ n e
refused-line s root ns n e = refused-step s _ _ n e

-- ---- a sum, whose count is odd; a span, which names a value

pub sum-count : {v : Word} → v ≡ Sum → (numbers : List ℤ) → (kind_of (word_of v)).is_counted numbers ≡ true → length numbers % 2 ≡ 1
unfolding word_of
sum-count q numbers e =
    sum-odd numbers (length numbers) (omega arith)
    (rw (take_all (length numbers) numbers (omega arith)) (ap (λ (u : Word). (kind_of (word_of u)).is_counted numbers) (sym q) ∙ e))

pub span-word : {v : Word} → v ≡ Span → word_of v ≡ span
unfolding word_of
span-word q = rw q refl

pub name-counted : {m : ℕ} (s : Known) (numbers : List ℤ) (r : ℕ) → (pos 0 ≤ℤ get_or numbers 0 (pos 0) → r ≡ nat_abs (get_or numbers 0 (pos 0)))
    → Keeps m s (line_with span numbers) → size_at numbers 0 ≡ r
unfolding size_at number_at kind_of all is_made
name-counted s numbers r yields kept =
    let m : ℕ = length s.known in
    let z : ℤ = get_or numbers 0 (pos 0) in
    let made : T (non_neg z && ltb (nat_abs z) m) = left (non_neg z && ltb (nat_abs z) m) true kept.names-made in
    sym (yields (not-below z (left (non_neg z) (ltb (nat_abs z) m) made)))

-- ---- bytes that spell a line or none

pub no-line-step : (n : ℕ) (s : Known) {o : Option Line} → o ≡ none → stops 3 ≡ step_option n s o
unfolding step_option
no-line-step n s e = rw e refl

pub line_step : (n : ℕ) (s : Known) {o : Option Line} {l : Line} {x : Step} → o ≡ some l → x ≡ step_of n s l → x ≡ step_option n s o
unfolding step_option
line_step n s e h = rw e h

-- the line reader's answer, as a step asks for it
module _ {line : List ℕ} {before after : List ℤ} {r : Answer Spelled} {l : Spelled} (read : LineRead line before after r) (long : length after ≡ most_numbers) (q : r ≡ Some l) where
  pub numbers-fit : l.count ≤ length after
  numbers-fit = omega (arith, line-most read q, long)

  pub line-parsed : ParsedLine l.word (take l.count after)
  line-parsed =
      let count = length-take-le l.count after numbers-fit in
      record {
        counted = line-counted read q;
        most = omega (arith, count, line-most read q);
        small = λ i h. let inside : i < l.count = omega (arith, count) in rw (get_or-take l.count after i (pos 0) inside) (line_small read q i inside);
      }

-- ---- no more inputs than values, at most two rows a cell, and no value lost

at_most : {a b c : ℕ} → a ≡ b → b ≤ c → a ≤ c
at_most e h = omega (arith, e)

abbrev pub GadgetCounts : Known → Gadget → Type 0
GadgetCounts s g = (g.inputs ≤ length g.made) × (length g.rows ≤ 2 * g.width) × (length g.narrowed ≡ length s.known)

module _ (n : ℕ) (s : Known) where
  few-by-word : (w : Meant) (ns : List ℤ) → Keeps n s (line_with w ns) → GadgetCounts s ((kind_of w).gadget s ns)
  unfolding kind_of field_line input_line span_line sum_line relu_line which_line max_line root_line size_at
  few-by-word field ns k = (omega arith, omega arith, refl)
  few-by-word input ns k = (omega arith, omega arith, refl)
  few-by-word span ns k =
      let h = (digits-ranged s.p 1 span ns refl k.ranged).1 in
      (omega arith, at_most (length-group_rows _ _ _ _ (nat_abs (number_at ns 2))) (omega arith), length-set s.known (nat_abs (number_at ns 0)) _)
  few-by-word sum ns k = (omega arith, omega arith, refl)
  few-by-word relu ns k = (omega arith, at_most (length-sign_rows _ _ _ (nat_abs (number_at ns 2)) _) (omega arith), refl)
  few-by-word which ns k = (omega arith, at_most (length-sign_rows _ _ _ (nat_abs (number_at ns 3)) _) (omega arith), refl)
  few-by-word max ns k =
      let h = (digits-ranged s.p 2 max ns refl k.ranged).1 in
      (omega arith, at_most (two-groups _ _ (pos 0) _ _ _ (nat_abs (number_at ns 3))) (omega arith), refl)
  few-by-word root ns k =
      let h = (digits-ranged s.p 1 root ns refl k.ranged).1 in
      (omega arith, at_most (four-groups _ _ _ _ (pos 0) _ _ _ _ _ (nat_abs (number_at ns 2))) (omega arith), refl)

pub few : (n : ℕ) (s : Known) (l : Line) → Keeps n s l → GadgetCounts s (gadget s l)
unfolding gadget
few n s l k = few-by-word n s l.word l.numbers k
