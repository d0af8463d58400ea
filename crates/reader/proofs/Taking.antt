-- A line taken in: what it does to what is known, of whatever kind it is.
use mathlib.Core.Path.{◌≡◌, refl, ◌∙◌}
use mathlib.Core.Logic.{⊎_elim}
use mathlib.Core.List.{List, [], ◌∷◌}
use Prim.Native.Nat.{ℕ, ◌<◌}
use native.Mathlib.Omega.{arith}
use lib.ListN.{length, get_or, replicate}
use lib.IntN.{ℤ, pos, nat_abs}
use lib.Signed.{◌≤ℤ◌}
use Rattle.std.specs.Prelude.{Result, Ok, Err}
use Rattle.std.specs.Result.{IsErrAnd}
use Rattle.refusal.specs.Refusal.{number_of}
use Rattle.refusal.specs.declared.refused.Refusal.{Refusal}
use Rattle.meaning.specs.Word.{span, size_at}
use Rattle.meaning.specs.Line.{Line}
use Rattle.meaning.specs.Known.{Known}
use Rattle.meaning.specs.Refusal.{value_limit}
use Rattle.meaning.specs.Kept.{Keeps}
use Rattle.text.specs.Word.{word_of}
use Rattle.text.specs.declared.Word.{Word}
use Rattle.text.specs.declared.Word.TheVariants.{Span}
use Rattle.rules.specs.Ready.{BoundedEnds, greatest}
use Rattle.rules.specs.Yield.{makes, yield_of, span_yield, line_with, ends_meaning}
use Rattle.rules.specs.declared.ends.Ends.{Ends}
use Rattle.reader.specs.State.{known_of, state_of, WithinLimits, Ordered}
use Rattle.reader.specs.Size.{Adds}
use Rattle.reader.specs.Line.{NotSpan, yield_by, line_yield}
use Rattle.reader.specs.Step.{stops, goes, step_of, step_meaning, placed_at, Stepped}
use Rattle.reader.specs.declared.counts.Counts.{Counts}
use Rattle.reader.specs.declared.state.State.{State}
use Rattle.reader.proofs.Growth.{Held, Grows, entered, room, grown, grown-left}
use Rattle.reader.proofs.Ordered.{ordered-step}
use Rattle.reader.proofs.Narrowing.{named, narrowed, narrowed-left}
use Rattle.reader.proofs.Steps.{span_or_other, yield-by-word, grows-by-word, span-word, name-counted}

-- a refusal that is passed on
pub passed-on : (st : State) (places : List ℕ) (r : Result Unit Refusal) (broken : Refusal) → IsErrAnd r (λ x. x ≡ broken) → step_meaning st r places ≡ stops (number_of broken)
passed-on st places (Ok done) broken h = absurd h
passed-on st places (Err x) broken h = rw h refl

module _ (w : Word) (numbers : List ℤ) {st : State} {at : ℕ} {e : Ends} (sized : WithinLimits st)
    (yields : (s : Known) (places : List ℕ) → s ≡ state_of st places → makes (ends_meaning e ∷ []) ≡ line_yield s (line_with (word_of w) numbers))
    (span-at : w ≡ Span → pos 0 ≤ℤ get_or numbers 0 (pos 0) → at ≡ nat_abs (get_or numbers 0 (pos 0)))
    (other-at : NotSpan (word_of w) → at ≡ st.counts.values) where
  abbrev line : Line
  line = line_with (word_of w) numbers

  held : (s : Known) (places : List ℕ) → s ≡ state_of st places → Held s st places
  held s places is = record { is = is; sized = sized }

  -- a line that makes a value
  module _ (other : NotSpan (word_of w)) where
    makes-it : (s : Known) (places : List ℕ) → s ≡ state_of st places → makes (ends_meaning e ∷ []) ≡ yield_of s line
    makes-it s places is = yields s places is ∙ yield-by-word s (word_of w) numbers other

  -- a span line, and the value that it names
  module _ (is-span : w ≡ Span) where
    narrows-it : (s : Known) (places : List ℕ) → s ≡ state_of st places → makes (ends_meaning e ∷ []) ≡ span_yield s (line_with span numbers)
    unfolding yield_by line_yield
    narrows-it s places is = rw (span-word is-span) at (yields s places is)

    names-it : (s : Known) → Keeps 1 s (line_with span numbers) → size_at numbers 0 ≡ at
    names-it s kept = name-counted s numbers at (span-at is-span) kept

  pub inside : at < value_limit
  inside = ⊎_elim
      (λ q. omega (arith, named (held _ [] refl) numbers at (names-it q _) (narrows-it q _ [] refl), sized.few.values-most))
      (λ o. omega (arith, room (held _ [] refl) line (makes-it o _ [] refl), other-at o))
      (span_or_other w)

  module _ {size : Counts} (adds : (s : Known) → Keeps 1 s line → Adds s line size) where
    grows : (o : NotSpan (word_of w)) (s : Known) → Keeps 1 s line → Grows s line size
    grows o s kept = grows-by-word s size (word_of w) numbers o kept (adds s kept)

    span-adds : (q : w ≡ Span) (s : Known) → Keeps 1 s (line_with span numbers) → Adds s (line_with span numbers) size
    span-adds q s = rw (span-word q) at (adds s)

    pub taken : (s : Known) (places : List ℕ) → length places ≡ value_limit → s ≡ state_of st places
        → goes (state_of (entered st at e size) (placed_at st.counts places)) ≡ step_of 1 s line
    taken s places long is = ⊎_elim
        (λ q. rw (span-word q) (narrowed (held s places is) numbers at (names-it q s) (narrows-it q s places is) size (span-adds q s)))
        (λ o. rw (other-at o) (grown (held s places is) line (makes-it o s places is) size (grows o s) long))
        (span_or_other w)

    stays-ordered : Ordered (known_of st) → Ordered (known_of (entered st at e size))
    stays-ordered = ordered-step _ _ line (taken _ (replicate value_limit 0) refl refl)

    pub taken-left : BoundedEnds greatest e → Stepped (Ok tt) st (entered st at e size)
    taken-left small = ⊎_elim
        (λ q. narrowed-left (held _ [] refl) numbers at (names-it q _) (narrows-it q _ [] refl) size (span-adds q _) small stays-ordered)
        (λ o. rw (other-at o) (grown-left (held _ [] refl) line (makes-it o _ [] refl) size (grows o _) small (rw (other-at o) at stays-ordered)))
        (span_or_other w)
