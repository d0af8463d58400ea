-- The law of a span line: its group tells v and its digits, and v's ends may then be narrowed to what they share with L..L+c-1.
use mathlib.Core.Path.{refl}
use mathlib.Core.List.{List, [], ◌∷◌}
use Prim.Native.Nat.{ℕ, zero, suc, ◌<◌}
use native.Mathlib.Omega.{arith}
use lib.Dec.{T}
use lib.ListN.{length, get_or, set}
use lib.IntN.{ℤ, pos}
use lib.Signed.{◌≤ℤ◌}
use Rattle.meaning.specs.Number.{lowest, highest, OddPrime}
use Rattle.meaning.specs.Known.{Known, Ends, ends_of, place_of, Within, Ranged}
use Rattle.meaning.specs.Row.{cell}
use Rattle.meaning.specs.Gadget.Digits.{value_at}
use Rattle.meaning.specs.Gadget.Span.{span_top, shared, span_line}
use Rattle.meaning.proofs.Number.{positive}
use Rattle.algebra.proofs.Integer.Linear.{linear}
use Rattle.meaning.proofs.Order.{between-iff, larger-left, larger-least, smaller-left, smaller-greatest}
use Rattle.meaning.proofs.Group.{group-holds, rule-kept, rule-power, length-group, group-below}
use Rattle.meaning.proofs.Law.{within-append, ranged-append, low_end, high_end, low-ranged, high-ranged, value-congruent, Law}

-- narrowing the ends of one value
set-within : (es : List Ends) (vs : List ℤ) (v : ℕ) (e : Ends) → Within es vs → e.E ≤ℤ get_or vs v (pos 0) → get_or vs v (pos 0) ≤ℤ e.F
    → Within (set es v e) vs
set-within [] [] v e w l h = tt
set-within [] (x ∷ vs) v e w l h = absurd w
set-within (d ∷ es) [] v e w l h = absurd w
set-within (d ∷ es) (x ∷ vs) zero e w l h = (l, h, w.2)
set-within (d ∷ es) (x ∷ vs) (suc v) e w l h = (w.0, w.1, set-within es vs v e w.2 l h)

set-ranged : (p : ℕ) (es : List Ends) (v : ℕ) (e : Ends) → Ranged p es → lowest p ≤ℤ e.E → e.F ≤ℤ highest p → Ranged p (set es v e)
set-ranged p [] v e r l h = tt
set-ranged p (d ∷ es) zero e r l h = (l, h, r.2)
set-ranged p (d ∷ es) (suc v) e r l h = (r.0, r.1, set-ranged p es v e r.2 l h)

module _ (s : Known) (P : OddPrime s.p) (r : Ranged s.p s.known) (v b k : ℕ) (L : ℤ) (named : v < length s.known)
    (base : zero < b) where
  -- v lies in L..L+c-1 and between its old ends, so between the ends that these share
  low-shared : (vs : List ℤ) → Within s.known vs → L ≤ℤ value_at vs v → (shared b k L (ends_of s v)).E ≤ℤ value_at vs v
  unfolding shared
  low-shared vs w h = larger-least (ends_of s v).E L (value_at vs v) (low_end s vs v named w) h

  high-shared : (vs : List ℤ) → Within s.known vs → value_at vs v ≤ℤ span_top b k L → value_at vs v ≤ℤ (shared b k L (ends_of s v)).F
  unfolding shared
  high-shared vs w h = smaller-greatest (ends_of s v).F (span_top b k L) (value_at vs v) (high_end s vs v named w) h

  low-shared-ranged : lowest s.p ≤ℤ (shared b k L (ends_of s v)).E
  unfolding shared
  low-shared-ranged =
      let a = low-ranged s.p s v named r in
      let c = larger-left (ends_of s v).E L in
      omega linear

  high-shared-ranged : (shared b k L (ends_of s v)).F ≤ℤ highest s.p
  unfolding shared
  high-shared-ranged =
      let a = high-ranged s.p s v named r in
      let c = smaller-left (ends_of s v).F (span_top b k L) in
      omega linear

  pub span-law : T (span_line s v b k L).unambiguous → Law s.p s (span_line s v b k L)
  unfolding span_line span_top value_at
  span-law u =
      let new : Ends = shared b k L (ends_of s v) in
      record {
        ranged = ranged-append s.p (set s.known v new) [] (set-ranged s.p s.known v new r low-shared-ranged high-shared-ranged) tt;
        within = λ vs next w t i.
            let inside = (between-iff L (value_at vs v) (span_top b k L)).0 t in
            within-append (set s.known v new) [] vs []
            (set-within s.known vs v new w (low-shared vs w inside.0) (high-shared vs w inside.1)) tt;
        one_input = omega arith;
        values-count = λ vs next. refl;
        cells_count = λ vs next. length-group b k (value_at vs v) L;
        cells-below = λ vs next w t. group-below s.p b k (value_at vs v) L base (rule-power s.p b k (ends_of s v) L u);
        values-first = λ vs next. refl;
        input-first = λ vs next i. absurd (omega arith);
        rows-hold = λ t vs next c i.
            let x : ℤ = value_at vs v in
            let inside = between-iff L x (span_top b k L) in
            let rows = group-holds s.p t (cell (place_of s v)) s.cells (positive P) c.room
            (value-congruent s vs v named s.p t (positive P) c.within c.in_cells)
            (rule-kept s.p b k (ends_of s v) L x base u (low_end s vs v named c.within) (high_end s vs v named c.within)) in (
              λ h. let g = rows.0 h in (inside.1 (g.0, g.1), g.2),
              λ h. let g = inside.0 h.0 in rows.1 (g.0, g.1, h.1),
            );
      }
