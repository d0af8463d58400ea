-- The lowest known end of a value is never above its highest. With the signed range, which bounds the one from below and the other from
-- above, this bounds both.
use mathlib.Core.Path.{◌≡◌, refl, sym, subst}
use mathlib.Core.List.{List, [], ◌∷◌, ◌++◌}
use Prim.Native.Nat.{ℕ, zero, suc}
use lib.ListN.{get_or, set}
use lib.IntN.{ℤ, pos}
use lib.Signed.{◌≤ℤ◌, ≤ℤ_refl}
use Rattle.algebra.proofs.Integer.Linear.{linear}
use Rattle.meaning.specs.Number.{lowest, highest}
use Rattle.meaning.specs.Word.{Word, field, input, span, sum, relu, which, max, root, number_at, size_at, without_first, kind_of}
use Rattle.meaning.specs.Line.{Line}
use Rattle.meaning.specs.Known.{Ends, ends, Known, ends_of}
use Rattle.meaning.specs.Gadget.Sum.{Term, terms_of, scaled, added, sum_ends, sum_line}
use Rattle.meaning.specs.Gadget.Field.{field_line}
use Rattle.meaning.specs.Gadget.Input.{input_line}
use Rattle.meaning.specs.Gadget.Span.{span_line}
use Rattle.meaning.specs.Gadget.Relu.{relu_line}
use Rattle.meaning.specs.Gadget.Which.{which_line}
use Rattle.meaning.specs.Gadget.Max.{max_line}
use Rattle.meaning.specs.Gadget.Root.{root_line}
use Rattle.meaning.specs.Meaning.{gadget, after}
use Rattle.meaning.proofs.Order.{larger-left, larger-keeps, smaller-left}
use Rattle.meaning.specs.Refusal.{read}
use Rattle.meaning.specs.Kept.{Keeps}
use Rattle.meaning.proofs.Kept.{keeps-all}
use Rattle.reader.specs.State.{Ordered}
use Rattle.reader.specs.Step.{goes, step_of}
use Rattle.reader.proofs.Steps.{line_step}
use Rattle.reader.proofs.Stopping.{gone_at}

ordered-append : (es fs : List Ends) → Ordered es → Ordered fs → Ordered (es ++ fs)
ordered-append [] fs h k = k
ordered-append (e ∷ es) fs h k = (h.0, ordered-append es fs h.1 k)

ordered-set : (es : List Ends) (v : ℕ) (e : Ends) → Ordered es → e.E ≤ℤ e.F → Ordered (set es v e)
ordered-set [] v e h k = tt
ordered-set (d ∷ es) zero e h k = (k, h.1)
ordered-set (d ∷ es) (suc v) e h k = (h.0, ordered-set es v e h.1 k)

ordered_at : (es : List Ends) (v : ℕ) → Ordered es → (get_or es v (ends (pos 0) (pos 0))).E ≤ℤ (get_or es v (ends (pos 0) (pos 0))).F
ordered_at [] v h = ≤ℤ_refl (pos 0)
ordered_at (e ∷ es) zero h = h.0
ordered_at (e ∷ es) (suc v) h = ordered_at es v h.1

ends-ordered : (s : Known) (v : ℕ) → Ordered s.known → (ends_of s v).E ≤ℤ (ends_of s v).F
unfolding ends_of
ends-ordered s v h = ordered_at s.known v h

scaled-ordered : (c : ℤ) (es : Ends) → (scaled c es).E ≤ℤ (scaled c es).F
unfolding scaled
scaled-ordered c es =
    let a = smaller-left _ _ in
    let b = larger-left _ _ in
    below a b
  where
    below : {x y z : ℤ} → x ≤ℤ y → y ≤ℤ z → x ≤ℤ z
    below h k = omega linear

sum-ordered : (s : Known) (es : Ends) (ts : List Term) → es.E ≤ℤ es.F → (sum_ends s es ts).E ≤ℤ (sum_ends s es ts).F
unfolding sum_ends added
sum-ordered s es [] h = h
sum-ordered s es (t ∷ ts) h =
    let k = scaled-ordered t.coefficient (ends_of s t.value) in
    sum-ordered s (added es (scaled t.coefficient (ends_of s t.value))) ts (omega linear)

range-ordered : (p : ℕ) → lowest p ≤ℤ highest p
unfolding lowest highest
range-ordered p = omega linear

module _ (n : ℕ) (s : Known) (h : Ordered s.known) where
  after-word : (w : Word) (ns : List ℤ) → Keeps n s (record { word = w; numbers = ns }) → Ordered (((kind_of w).gadget s ns).narrowed ++ ((kind_of w).gadget s ns).made)
  unfolding kind_of gadget field_line input_line span_line sum_line relu_line which_line max_line root_line
  after-word field ns k = ordered-append s.known [] h tt
  after-word input ns k = ordered-append s.known _ h (range-ordered s.p, tt)
  after-word span ns k = ordered-append (set s.known (size_at ns 0) _) [] (ordered-set s.known (size_at ns 0) _ h (record { le = k.overlaps })) tt
  after-word sum ns k = ordered-append s.known _ h (sum-ordered s _ (terms_of (without_first ns)) (≤ℤ_refl (number_at ns 0)), tt)
  after-word relu ns k = ordered-append s.known _ h (larger-keeps (≤ℤ_refl (pos 0)) (ends-ordered s (size_at ns 0) h), tt)
  after-word which ns k = ordered-append s.known _ h (omega linear, tt)
  after-word max ns k = ordered-append s.known _ h (larger-keeps (ends-ordered s (size_at ns 0) h) (ends-ordered s (size_at ns 1) h), tt)
  after-word root ns k = ordered-append s.known _ h (omega linear, tt)

pub ordered-after : (n : ℕ) (s : Known) (l : Line) → Keeps n s l → Ordered s.known → Ordered (after s l).known
unfolding after gadget
ordered-after n s l k h = after-word n s h l.word l.numbers k

-- and so after a line that reading goes past
pub ordered-step : (s t : Known) (l : Line) → goes t ≡ step_of 1 s l → Ordered s.known → Ordered t.known
ordered-step s t l e h =
    let (line, kept, is, _) = gone_at 1 s (λ z. read [] z) _ t (line_step 1 s {l = l} refl e) in
    subst (λ (z : Known). Ordered z.known) (sym is) (ordered-after 1 s line (keeps-all 1 s line kept) h)
