-- The law of a max line: the row (y-u)·(y-v) ≡ 0 says that y is u or v, p being prime, and then the groups over y-u and y-v say that
-- neither is negative, so that y is the larger, and that the other is less than c below it.
use mathlib.Core.Path.{◌≡◌, refl, sym, ◌∙◌}
use mathlib.Core.Bool.{Bool, true, ◌&&◌}
use mathlib.Core.List.{List, ◌∷◌, ◌++◌}
use mathlib.Core.Logic.{◌⊎◌, inl, inr, ⊎_elim, ⊎_map, ⊎_swap, ◌↔◌}
use Prim.Native.Nat.{ℕ, zero, suc, ◌+◌, ◌-◌, ◌*◌, ◌^◌, ◌≤◌, ◌<◌}
use native.Mathlib.Omega.{arith}
use lib.Dec.{T, ltb}
use lib.ListN.{length, get_or}
use lib.IntN.{ℤ, pos, negsuc, neg_ℤ, nat_abs, ◌-ℤ◌, ◌*ℤ◌, zero-*ℤ, *ℤ-zero}
use lib.Signed.{◌≤ℤ◌}
use Rattle.algebra.specs.Congruence.{Congruent}
use Rattle.algebra.specs.Prime.{Prime}
use Rattle.algebra.specs.Digits.{Below}
use Rattle.algebra.proofs.Test.{left, right, ltb_iff}
use Rattle.algebra.proofs.Integer.Order.{nat_abs-parts, minus, integer}
use Rattle.algebra.proofs.Integer.Linear.{linear}
use Rattle.algebra.proofs.Congruence.{congruent-≡, congruent-refl, congruent-sym, congruent-trans, congruent--, congruent-*}
use Rattle.algebra.proofs.Congruence.{congruent-of-difference, difference-congruent}
use Rattle.algebra.proofs.Prime.{euclid-integers}
use Rattle.algebra.proofs.Digits.{power-positive, DigitRule}
use Rattle.meaning.specs.Number.{lowest, highest, OddPrime}
use Rattle.meaning.specs.Known.{Known, Ends, ends, ends_of, place_of, larger, above, digit_rule, Within, Ranged}
use Rattle.meaning.specs.Row.{Form, cell, constant, ◌⊖◌, ◌⊗◌, eval, Row, ◌≅◌, holds, group}
use Rattle.meaning.specs.Gadget.Digits.{value_at, group_cells}
use Rattle.meaning.specs.Gadget.Max.{max_line}
use Rattle.meaning.proofs.Number.{positive, exact-by-number}
use Rattle.meaning.proofs.Order.{
  larger-left,
  larger-right,
  larger-either,
  larger-least,
  larger-keeps,
  larger-is-left,
  larger-is-right,
  smaller-left,
  smaller-right,
}
use Rattle.meaning.proofs.Cells.{cells_at}
use Rattle.meaning.proofs.Hold.{Hold, row-holds}
use Rattle.meaning.proofs.Group.{rule-kept, rule-power, length-group, length_more, group-below, below_more}
use Rattle.meaning.proofs.Group.{Spanned, Tells, tells-group, tells_more}
use Rattle.meaning.proofs.Law.{InCells, low_end, high_end, low-ranged, high-ranged, value-congruent, below_at, Law}
use Rattle.meaning.proofs.Gadget.Made.{made-law}

-- ---- over whole numbers

abbrev Either : (y u v : ℤ) → Type 0
Either y u v = (y ≡ u) ⊎ (y ≡ v)

-- a product of differences is 0 exactly where one of them is
product-zero : {p : ℕ} → Prime p → (y u v : ℤ) → Congruent p ((y -ℤ u) *ℤ (y -ℤ v)) (pos 0) ↔ (Congruent p y u ⊎ Congruent p y v)
product-zero P y u v = (
  λ c. ⊎_map (congruent-of-difference y u) (congruent-of-difference y v) (euclid-integers (y -ℤ u) (y -ℤ v) P c),
  ⊎_elim
      (λ c. congruent-trans (congruent-* (difference-congruent c) (congruent-refl (y -ℤ v))) (congruent-≡ (zero-*ℤ (y -ℤ v))))
      (λ c. congruent-trans (congruent-* (congruent-refl (y -ℤ u)) (difference-congruent c)) (congruent-≡ (*ℤ-zero (y -ℤ u)))),
)

-- y - u is 0 or v - u, between the ends that `above` gives
above_low : (eu ev : Ends) (u v y : ℤ) → Either y u v → u ≤ℤ eu.F → ev.E ≤ℤ v → (above eu ev).E ≤ℤ (y -ℤ u)
unfolding above
above_low eu ev u v y e h k =
    let a = smaller-left (pos 0) (ev.E -ℤ eu.F) in
    let b = smaller-right (pos 0) (ev.E -ℤ eu.F) in
    ⊎_elim (λ q. omega linear) (λ q. omega linear) e

above-high : (eu ev : Ends) (u v y : ℤ) → Either y u v → eu.E ≤ℤ u → v ≤ℤ ev.F → (y -ℤ u) ≤ℤ (above eu ev).F
unfolding above
above-high eu ev u v y e h k =
    let a = larger-left (pos 0) (ev.F -ℤ eu.E) in
    let b = larger-right (pos 0) (ev.F -ℤ eu.E) in
    ⊎_elim (λ q. omega linear) (λ q. omega linear) e

-- an absolute value is bounded by what bounds the number on both sides
abs-bound : (z : ℤ) (n : ℕ) → z ≤ℤ pos n → neg_ℤ z ≤ℤ pos n → nat_abs z ≤ n
abs-bound (pos z) n h k = omega integer
abs-bound (negsuc z) n h k = omega integer

-- with c = b^k: the two groups' spans say that y is the larger, and the other less than c below it
spans-larger : (b k : ℕ) → zero < b → (u v y : ℤ) → Either y u v
    → (Spanned b k (pos 0) (y -ℤ u) × Spanned b k (pos 0) (y -ℤ v)) ↔ ((nat_abs (u -ℤ v) < b ^ k) × (y ≡ larger u v))
spans-larger b k h u v y e = (
  λ s. (near s.0 s.1, is-larger s.0.0 s.1.0),
  λ s. back s.0 s.1,
)
  where
    is-larger : pos 0 ≤ℤ (y -ℤ u) → pos 0 ≤ℤ (y -ℤ v) → y ≡ larger u v
    is-larger l r = ⊎_elim (λ q. q ∙ sym (larger-is-left u v (omega linear))) (λ q. q ∙ sym (larger-is-right u v (omega linear))) e

    near : Spanned b k (pos 0) (y -ℤ u) → Spanned b k (pos 0) (y -ℤ v) → nat_abs (u -ℤ v) < b ^ k
    near s r =
        let bound = abs-bound (u -ℤ v) (b ^ k - 1) (omega (linear, s.0, r.1)) (omega (linear, s.1, r.0, minus u v)) in
        omega (arith, power-positive b k h)

    back : nat_abs (u -ℤ v) < b ^ k → y ≡ larger u v → Spanned b k (pos 0) (y -ℤ u) × Spanned b k (pos 0) (y -ℤ v)
    back n q =
        let l = larger-left u v in
        let r = larger-right u v in
        let a = nat_abs-parts (u -ℤ v) in
        let m = minus u v in
        ⊎_elim (λ i. ((omega linear, omega linear), (omega linear, omega linear)))
        (λ i. ((omega linear, omega linear), (omega linear, omega linear))) e

-- ---- the law

module _ (s : Known) (P : OddPrime s.p) (r : Ranged s.p s.known) (u v b k : ℕ) (u-named : u < length s.known)
    (v-named : v < length s.known) (base : 2 ≤ b) where
  -- the digit rule that reading tested for the group over y - u
  abbrev Rule : (u v : ℕ) → Type 0
  Rule u v = T (digit_rule s.p b k (above (ends_of s u) (ends_of s v)) (pos 0))

  abbrev y-u : Form
  y-u = cell s.cells ⊖ cell (place_of s u)

  abbrev y-v : Form
  y-v = cell s.cells ⊖ cell (place_of s v)

  abbrev product : Row
  product = y-u ⊗ y-v ≅ constant (pos 0)

  abbrev groups : List Row
  groups = group y-u (pos 0) (suc s.cells) b k ++ group y-v (pos 0) (suc s.cells + k) b k

  abbrev statement : List ℤ → Bool
  statement vs = ltb (nat_abs (value_at vs u -ℤ value_at vs v)) (b ^ k)

  abbrev value : List ℤ → ℤ
  value vs = larger (value_at vs u) (value_at vs v)

  -- the groups' cells, for a number y in the value's place
  abbrev others : List ℤ → ℤ → List ℕ
  others vs y = group_cells b k (y -ℤ value_at vs u) (pos 0) ++ group_cells b k (y -ℤ value_at vs v) (pos 0)

  others-count : (vs : List ℤ) (y : ℤ) → length (others vs y) ≡ 2 * k
  others-count vs y =
      let first : List ℕ = group_cells b k (y -ℤ value_at vs u) (pos 0) in
      omega (arith, length_more first b k (y -ℤ value_at vs v) (pos 0), length-group b k (y -ℤ value_at vs u) (pos 0))

  others_below : Rule u v → (vs : List ℤ) (y : ℤ) → Below s.p (others vs y)
  others_below rule vs y =
      let fits = rule-power s.p b k (above (ends_of s u) (ends_of s v)) (pos 0) rule in
      below_more s.p b k (group_cells b k (y -ℤ value_at vs u) (pos 0)) (y -ℤ value_at vs v) (pos 0)
      (group-below s.p b k (y -ℤ value_at vs u) (pos 0) (omega arith) fits) (omega arith) fits

  low-in-range : lowest s.p ≤ℤ larger (ends_of s u).E (ends_of s v).E
  low-in-range =
      let a = low-ranged s.p s u u-named r in
      let l = larger-left (ends_of s u).E (ends_of s v).E in
      omega linear

  high-in-range : larger (ends_of s u).F (ends_of s v).F ≤ℤ highest s.p
  high-in-range =
      larger-least (ends_of s u).F (ends_of s v).F (highest s.p) (high-ranged s.p s u u-named r) (high-ranged s.p s v v-named r)

  module _ (t : List ℕ) (vs : List ℤ) (room : suc s.cells + 2 * k ≤ length t) (w : Within s.known vs)
      (c : InCells s.p t s.places vs) where
    -- y's cell is congruent to y
    abbrev Stands : ℤ → Type 0
    Stands y = Congruent s.p (pos (get_or t s.cells 0)) y

    value-is : (i : ℕ) → i < length s.known → Congruent s.p (eval t (cell (place_of s i))) (value_at vs i)
    value-is i named = value-congruent s vs i named s.p t (positive P) w c

    product-holds : T (holds s.p t product) ↔ (Stands (value_at vs u) ⊎ Stands (value_at vs v))
    unfolding eval
    product-holds =
        let row = row-holds s.p t (y-u ⊗ y-v) (constant (pos 0)) (positive P) in
        let zero-iff = product-zero P.prime (eval t (cell s.cells)) (eval t (cell (place_of s u))) (eval t (cell (place_of s v))) in
        let u-is = value-is u u-named in
        let v-is = value-is v v-named in (
          λ h. ⊎_map (λ d. congruent-trans d u-is) (λ d. congruent-trans d v-is) (zero-iff.0 (row.0 h)),
          λ h. row.1 (zero-iff.1 (⊎_map (λ d. congruent-trans d (congruent-sym u-is)) (λ d. congruent-trans d (congruent-sym v-is)) h)),
        )

    difference-rule : (i j : ℕ) → i < length s.known → j < length s.known → Rule i j
        → (y : ℤ) → Either y (value_at vs i) (value_at vs j)
        → DigitRule s.p b k (above (ends_of s i) (ends_of s j)).E (above (ends_of s i) (ends_of s j)).F (pos 0) (y -ℤ value_at vs i)
    difference-rule i j i-named j-named rule y e =
        let ei : Ends = ends_of s i in
        let ej : Ends = ends_of s j in
        rule-kept s.p b k (above ei ej) (pos 0) (y -ℤ value_at vs i) (omega arith) rule
        (above_low ei ej (value_at vs i) (value_at vs j) y e (high_end s vs i i-named w) (low_end s vs j j-named w))
        (above-high ei ej (value_at vs i) (value_at vs j) y e (low_end s vs i i-named w) (high_end s vs j j-named w))

    groups-tell : Rule u v → Rule v u → (y : ℤ) → Either y (value_at vs u) (value_at vs v) → Stands y
        → Tells s.p t groups (suc s.cells) (2 * k)
        (Spanned b k (pos 0) (y -ℤ value_at vs u) × Spanned b k (pos 0) (y -ℤ value_at vs v)) (others vs y)
    unfolding eval
    groups-tell rule-u rule-v y e d =
        let first = tells-group s.p t y-u (suc s.cells) (positive P) (omega arith) (congruent-- d (value-is u u-named))
        (difference-rule u v u-named v-named rule-u y e) in
        tells_more s.p t first y-v (suc s.cells + k) (2 * k) (omega arith) (omega arith) (positive P) room
        (congruent-- d (value-is v v-named)) (λ _. difference-rule v u v-named u-named rule-v y (⊎_swap e))

    -- at a y that is u or v and stands in the cell
    rows_tell : Rule u v → Rule v u → (y : ℤ) → Either y (value_at vs u) (value_at vs v) → Stands y
        → Hold s.p t (product ∷ groups)
        ↔ (T (statement vs) × (y ≡ value vs) × (cells_at t (suc s.cells) (2 * k) ≡ others vs y))
    rows_tell rule-u rule-v y e d =
        let tell = (groups-tell rule-u rule-v y e d).yields in
        let spans = spans-larger b k (omega arith) (value_at vs u) (value_at vs v) y e in
        let test = ltb_iff (nat_abs (value_at vs u -ℤ value_at vs v)) (b ^ k) in
        let is : (x : ℤ) → y ≡ x → Stands x = λ x q. congruent-trans d (congruent-≡ q) in (
          λ h. let g = tell.0 h.1 in let l = spans.0 g.0 in (test.1 l.0, l.1, g.1),
          λ h. (product-holds.1 (⊎_map (is (value_at vs u)) (is (value_at vs v)) e), tell.1 (spans.1 (test.0 h.0, h.1), h.2)),
        )

    -- and the rows hold only where there is such a y
    find : Hold s.p t (product ∷ groups) → (y : ℤ) × Either y (value_at vs u) (value_at vs v) × Stands y
    find h = ⊎_elim (λ d. (value_at vs u, inl refl, d)) (λ d. (value_at vs v, inr refl, d)) (product-holds.0 h.0)

  pub max-law : T (max_line s u v b k).unambiguous → Law s.p s (max_line s u v b k)
  unfolding max_line
  max-law rules =
      let eu : Ends = ends_of s u in
      let ev : Ends = ends_of s v in
      let rule : Ends → Ends → Bool = λ eu ev. digit_rule s.p b k (above eu ev) (pos 0) in
      let rule-u : Rule u v = left (rule eu ev) (rule ev eu) rules in
      let rule-v : Rule v u = right (rule eu ev) (rule ev eu) rules in
      made-law s (rule eu ev && rule ev eu) true true (ends (larger eu.E ev.E) (larger eu.F ev.F)) (suc (2 * k)) (2 * k)
      (product ∷ groups) statement value (λ vs. others vs (value vs)) s.p r (record {
        positive = positive P;
        width_is = refl;
        low-range = low-in-range;
        high-range = high-in-range;
        low = λ vs w h. larger-keeps (low_end s vs u u-named w) (low_end s vs v v-named w);
        high = λ vs w h. larger-keeps (high_end s vs u u-named w) (high_end s vs v v-named w);
        others-count = λ vs. others-count vs (value vs);
        others_below = λ vs w h. others_below rule-u vs (value vs);
        hold = λ t vs room c. exact-by-number (get_or t s.cells 0) (Hold s.p t (product ∷ groups)) (T (statement vs)) (value vs)
            (λ y. Either y (value_at vs u) (value_at vs v)) (λ y. cells_at t (suc s.cells) (2 * k) ≡ others vs y)
            (below_at s.p t s.cells c.below (omega arith)) (find t vs room c.within c.in_cells)
            (λ _. larger-either (value_at vs u) (value_at vs v)) (rows_tell t vs room c.within c.in_cells rule-u rule-v);
      })
