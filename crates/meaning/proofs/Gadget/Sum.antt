-- The law of a sum line: the sum over cells is congruent to the sum over whole numbers, which lies between the sum's known ends; as
-- those lie in -M..M, the row determines the value's cell.
use mathlib.Core.Path.{refl}
use mathlib.Core.Bool.{true}
use mathlib.Core.List.{List, [], ◌∷◌}
use Prim.Native.Nat.{ℕ, zero, suc, ◌<◌}
use native.Mathlib.Omega.{arith}
use lib.Dec.{T}
use lib.ListN.{length, get_or}
use lib.IntN.{ℤ, pos, negsuc, ◌+ℤ◌, ◌*ℤ◌}
use lib.Signed.{◌≤ℤ◌, ≤ℤ_refl}
use Rattle.algebra.specs.Congruence.{Congruent}
use Rattle.algebra.proofs.Test.{left, right}
use Rattle.algebra.proofs.Integer.Order.{product-keeps, product-turns}
use Rattle.algebra.proofs.Integer.Linear.{linear}
use Rattle.algebra.proofs.Congruence.{congruent-refl, congruent-sym, congruent-trans, congruent-+, congruent-*}
use Rattle.algebra.proofs.Congruence.{residue-iff}
use Rattle.meaning.specs.Number.{lowest, highest, in_range, OddPrime}
use Rattle.meaning.specs.Known.{Known, Ends, ends, ends_of, place_of, Within, Ranged}
use Rattle.meaning.specs.Row.{Form, cell, constant, ◌⊕◌, ◌⊗◌, eval, ◌≅◌}
use Rattle.meaning.specs.Gadget.Digits.{value_at}
use Rattle.meaning.specs.Gadget.Sum.{Term, scaled, added, sum_ends, ends_in_range, sum_fits, sum_form, sum_value, sum_line}
use Rattle.meaning.proofs.Number.{positive, range-low, range-high}
use Rattle.meaning.proofs.Order.{larger-left, larger-right, smaller-left, smaller-right}
use Rattle.meaning.proofs.Cells.{cells_at-zero}
use Rattle.meaning.proofs.Hold.{row-holds}
use Rattle.meaning.proofs.Law.{InCells, low_end, high_end, value-congruent, below_at, Law}
use Rattle.meaning.proofs.Gadget.Made.{made-law}

-- the values that the terms name are made
abbrev pub Named : Known → List Term → Type 0
Named s [] = Unit {0}
Named s (t ∷ ts) = (t.value < length s.known) × Named s ts

-- ---- the value lies between the ends

abbrev pub Between : Ends → ℤ → Type 0
Between es x = (es.E ≤ℤ x) × (x ≤ℤ es.F)

-- a coefficient that is not negative keeps the order of the ends, and a negative one turns it round
pub scaled-between : (c x : ℤ) (es : Ends) → Between es x → Between (scaled c es) (c *ℤ x)
unfolding scaled
scaled-between (pos c) x es h =
    let a = smaller-left (pos c *ℤ es.E) (pos c *ℤ es.F) in
    let b = larger-right (pos c *ℤ es.E) (pos c *ℤ es.F) in
    let low = product-keeps c es.E x h.0 in
    let high = product-keeps c x es.F h.1 in
    (omega linear, omega linear)
scaled-between (negsuc c) x es h =
    let a = smaller-right (negsuc c *ℤ es.E) (negsuc c *ℤ es.F) in
    let b = larger-left (negsuc c *ℤ es.E) (negsuc c *ℤ es.F) in
    let low = product-turns c x es.F h.1 in
    let high = product-turns c es.E x h.0 in
    (omega linear, omega linear)

pub added-between : (a b : Ends) (x y : ℤ) → Between a x → Between b y → Between (added a b) (x +ℤ y)
unfolding added
added-between a b x y h k = (omega (linear, h.0, k.0), omega (linear, h.1, k.1))

module _ (s : Known) (vs : List ℤ) (w : Within s.known vs) where
  sum-between : (es : Ends) (x : ℤ) (ts : List Term) → Named s ts → Between es x → Between (sum_ends s es ts) (sum_value vs x ts)
  unfolding sum_ends sum_value
  sum-between es x [] n h = h
  sum-between es x (t ∷ ts) n h =
      let own : Between (ends_of s t.value) (value_at vs t.value) = (low_end s vs t.value n.0 w, high_end s vs t.value n.0 w) in
      let term = scaled-between t.coefficient (value_at vs t.value) (ends_of s t.value) own in
      sum-between (added es (scaled t.coefficient (ends_of s t.value))) _ ts n.1 (added-between es (scaled t.coefficient (ends_of s t.value)) x _ h term)

  -- ---- the sum over cells is congruent to it

  sum-congruent : (p : ℕ) (t : List ℕ) → zero < p → InCells p t s.places vs → (f : Form) (x : ℤ) (ts : List Term) → Named s ts
      → Congruent p (eval t f) x → Congruent p (eval t (sum_form s f ts)) (sum_value vs x ts)
  unfolding sum_form sum_value eval
  sum-congruent p t h c f x [] n e = e
  sum-congruent p t h c f x (u ∷ ts) n e =
      let term = congruent-* (congruent-refl u.coefficient) (value-congruent s vs u.value n.0 p t h w c) in
      sum-congruent p t h c (f ⊕ constant u.coefficient ⊗ cell (place_of s u.value)) _ ts n.1 (congruent-+ e term)

-- the last ends, as every step's, lie in the range
sum-in-range : (s : Known) (es : Ends) (ts : List Term) → T (sum_fits s es ts) → T (ends_in_range s.p (sum_ends s es ts))
unfolding sum_fits sum_ends
sum-in-range s es [] f = f
sum-in-range s es (t ∷ ts) f =
    let next : Ends = added es (scaled t.coefficient (ends_of s t.value)) in
    sum-in-range s next ts (right (ends_in_range s.p es) (sum_fits s next ts) f)

-- ---- the law

module _ (s : Known) (P : OddPrime s.p) (r : Ranged s.p s.known) (c0 : ℤ) (ts : List Term) (named : Named s ts) where
  abbrev start : Ends
  start = ends c0 c0

  ends-range : T (sum_fits s start ts) → (lowest s.p ≤ℤ (sum_ends s start ts).E) × ((sum_ends s start ts).F ≤ℤ highest s.p)
  unfolding ends_in_range
  ends-range f =
      let e : Ends = sum_ends s start ts in
      let both_ends = sum-in-range s start ts f in (
        range-low P e.E (left (in_range s.p e.E) (in_range s.p e.F) both_ends),
        range-high P e.F (right (in_range s.p e.E) (in_range s.p e.F) both_ends),
      )

  pub sum-law : T (sum_line s c0 ts).fits → Law s.p s (sum_line s c0 ts)
  unfolding sum_line eval
  sum-law f =
      let p : ℕ = s.p in
      let from : Between start c0 = (≤ℤ_refl c0, ≤ℤ_refl c0) in
      made-law s true (sum_fits s start ts) true (sum_ends s start ts) 1 0 (cell s.cells ≅ sum_form s (constant c0) ts ∷ []) (λ vs. true)
      (λ vs. sum_value vs c0 ts) (λ vs. []) p r (record {
        positive = positive P;
        width_is = refl;
        low-range = (ends-range f).0;
        high-range = (ends-range f).1;
        low = λ vs w u. (sum-between s vs w start c0 ts named from).0;
        high = λ vs w u. (sum-between s vs w start c0 ts named from).1;
        others-count = λ vs. refl;
        others_below = λ vs w u. tt;
        hold = λ t vs room b.
            let x : ℤ = sum_value vs c0 ts in
            let row = row-holds p t (cell s.cells) (sum_form s (constant c0) ts) (positive P) in
            let sum = sum-congruent s vs b.within p t (positive P) b.in_cells (constant c0) c0 ts named (congruent-refl c0) in
            let is = residue-iff p (get_or t s.cells 0) x (below_at p t s.cells b.below (omega arith)) in (
              λ h. (tt, is.0 (congruent-trans (row.0 h.0) sum), cells_at-zero t (suc s.cells)),
              λ h. (row.1 (congruent-trans (is.1 h.1) (congruent-sym sum)), tt),
            );
      })
