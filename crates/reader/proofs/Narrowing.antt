-- A span line's answer taken into the state: the value that it names has the answer's ends in the state after the line.
use mathlib.Core.Path.{◌≡◌, refl, sym, ap, ap₂, ◌∙◌}
use mathlib.Core.List.{List, [], ◌∷◌, append-nil, map}
use mathlib.Core.Option.{none}
use Prim.Native.Nat.{ℕ, ◌+◌, ◌<◌}
use native.Mathlib.Omega.{arith}
use lib.ListN.{length, get_or, take, set, length-set}
use lib.Seq.{take-set-le, take-set-lt, drop-set-lt}
use Rattle.std.proofs.lemmas.List.{map-set}
use lib.IntN.{ℤ}
use Rattle.std.specs.Prelude.{Ok}
use Rattle.meaning.specs.Word.{span, size_at, number_at, kind_of}
use Rattle.meaning.specs.Line.{Line}
use Rattle.meaning.specs.Known.{Ends, Known, ends_of}
use Rattle.meaning.specs.Gadget.Span.{shared, span_line}
use Rattle.meaning.specs.Meaning.{gadget, places_from, prime_after, after}
use Rattle.meaning.specs.Refusal.{rules, first_broken}
use Rattle.meaning.specs.Kept.{Keeps}
use Rattle.meaning.proofs.Kept.{keeps-all}
use Rattle.meaning.proofs.Lines.{first-named}
use Rattle.rules.specs.Ready.{BoundedEnds, greatest}
use Rattle.rules.specs.Yield.{makes, span_yield, line_with, ends_meaning}
use Rattle.rules.specs.declared.ends.Ends.{Ends as ReadEnds}
use Rattle.reader.specs.State.{known_of, state_of, Ordered}
use Rattle.reader.specs.Size.{Adds}
use Rattle.reader.specs.Step.{goes, step_of, placed_at, Stepped}
use Rattle.reader.specs.declared.counts.Counts.{Counts}
use Rattle.reader.specs.declared.state.State.{State}
use Rattle.reader.proofs.Growth.{Held, entered, kept-ends, values-are, stepped, few-values, sized-entered}

module _ {s : Known} {st : State} {places : List ℕ} (held : Held s st places) (ns : List ℤ)
    (at : ℕ) (at-is : Keeps 1 s (line_with span ns) → size_at ns 0 ≡ at) {e : ReadEnds} (yields : makes (ends_meaning e ∷ []) ≡ span_yield s (line_with span ns)) where
  abbrev line : Line
  line = line_with span ns

  abbrev new : Ends
  new = shared (size_at ns 1) (size_at ns 2) (number_at ns 3) (ends_of s (size_at ns 0))

  parts : (first_broken rules 1 s line ≡ none) × (new ∷ [] ≡ ends_meaning e ∷ [])
  unfolding span_yield
  parts = kept-ends s line (new ∷ []) yields

  kept : Keeps 1 s line
  kept = keeps-all 1 s line parts.0

  -- a value that is not made is refused by the line's own rules
  pub named : at < st.counts.values
  unfolding kind_of
  named = omega (arith, first-named (length s.known) 0 ns [] kept.names-made, values-are held line, at-is kept)

  known-narrowed : map ends_meaning (take st.counts.values (set st.ends at e)) ≡ set s.known (size_at ns 0) new
  known-narrowed =
      let new_is : ends_meaning e ≡ new = ap (λ (es : List Ends). get_or es 0 new) (sym parts.1) in
      rw (take-set-lt st.counts.values st.ends at e named, map-set)
      (ap (λ (es : List Ends). set es at (ends_meaning e)) (ap (λ (z : Known). z.known) (sym held.is))
      ∙ ap₂ (λ (i : ℕ) (f : Ends). set s.known i f) (sym (at-is kept)) new_is)

  module _ (size : Counts) (adds-so : Keeps 1 s line → Adds s line size) where
    adds : Adds s line size
    adds = adds-so kept

    none_made : size.values ≡ 0
    unfolding gadget kind_of span_line
    none_made = sym adds.values-are

    pub narrowed : goes (state_of (entered st at e size) (placed_at st.counts places)) ≡ step_of 1 s line
    unfolding placed_at after gadget kind_of span_line prime_after places_from
    narrowed =
        let same : st.counts.values + size.values ≡ st.counts.values = omega (arith, none_made) in
        stepped held line size adds refl parts.0 (set st.ends at e)
        (rw same (known-narrowed ∙ sym (append-nil (set s.known (size_at ns 0) new))))
        (rw same (take-set-le st.counts.values places st.counts.values st.counts.cells.0 (omega arith) ∙ ap (λ (z : Known). z.places) (sym held.is) ∙ sym (append-nil s.places)))

    pub narrowed-left : BoundedEnds greatest e → (Ordered (known_of st) → Ordered (known_of (entered st at e size))) → Stepped (Ok tt) st (entered st at e size)
    unfolding span_yield
    narrowed-left small ordered =
        let same : st.counts.values + size.values ≡ st.counts.values = omega (arith, none_made) in
        record {
          prime = refl;
          long = length-set st.ends at e;
          left = (few-values held line size adds-so (new ∷ []) yields, drop-set-lt (st.counts.values + size.values) st.ends at e (omega (arith, named)));
          sized = sized-entered st at (st.counts.values + size.values) e held.sized.sized small (omega (arith, named, held.sized.few.values-most, held.sized.long)) (λ i h o. omega (arith, none_made));
          ordered = ordered;
        }
