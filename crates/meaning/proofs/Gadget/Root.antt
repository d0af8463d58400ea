-- The law of a root line: the groups over v and y say that both lie in 0..c-1; q is then y·y itself, and the groups over v-q and
-- q+2y-v say y·y ≤ v < (y+1)·(y+1). As c·c is at most M+1, all four numbers lie in -M..M, where the digit rule holds.
use mathlib.Core.Path.{◌≡◌, ap}
use mathlib.Core.Bool.{Bool, true, ◌&&◌}
use mathlib.Core.List.{List, ◌∷◌, ◌++◌}
use mathlib.Core.Logic.{◌↔◌}
use Prim.Native.Nat.{ℕ, zero, suc, ◌+◌, ◌-◌, ◌*◌, ◌^◌, ◌≤◌, ◌<◌}
use native.Mathlib.Omega.{arith}
use native.Mathlib.Nat.{mul-le-mul, mul-le-mul_right}
use lib.Dec.{T, leb, leb→le}
use lib.ListN.{length, get_or}
use lib.IntN.{ℤ, pos, negsuc, ◌+ℤ◌, ◌-ℤ◌, ◌*ℤ◌}
use Rattle.algebra.specs.Congruence.{Congruent, remainder}
use Rattle.algebra.specs.Digits.{Below}
use Rattle.algebra.specs.Root.{square_root}
use Rattle.algebra.proofs.Test.{left, right}
use Rattle.algebra.proofs.Integer.Order.{minus, subℕ-parts, positive_part-negation, negative_part-negation}
use Rattle.algebra.proofs.Integer.Linear.{linear}
use Rattle.algebra.proofs.Congruence.{congruent-refl, congruent-sym, congruent-trans, congruent-+, congruent--, congruent-*}
use Rattle.algebra.proofs.Congruence.{remainder-below, residue-iff}
use Rattle.algebra.proofs.Digits.{DigitRule}
use Rattle.algebra.proofs.Root.{root-square, root-next, root_below, root-unique}
use Rattle.meaning.specs.Number.{half, lowest, highest, in_range, between, signed, OddPrime}
use Rattle.meaning.specs.Known.{Known, ends, place_of, Within, Ranged}
use Rattle.meaning.specs.Row.{Form, cell, constant, ◌⊕◌, ◌⊖◌, ◌⊗◌, eval, Row, ◌≅◌, holds, group}
use Rattle.meaning.specs.Gadget.Digits.{value_at, group_cells}
use Rattle.meaning.specs.Gadget.Root.{root_value, root_line}
use Rattle.meaning.proofs.Number.{positive, range-test, range-low, range-high, signed-congruent, signed_range}
use Rattle.meaning.proofs.Number.{exact-by-number}
use Rattle.meaning.proofs.Order.{between-iff}
use Rattle.meaning.proofs.Cells.{cells_at, cons-iff}
use Rattle.meaning.proofs.Hold.{Hold, row-holds}
use Rattle.meaning.proofs.Group.{length-group, length_more, group-below, below_more, Spanned, Tells, tells-group, tells_more}
use Rattle.meaning.proofs.Law.{InCells, low_end, high_end, low-ranged, high-ranged, value-congruent, below_at, Law}
use Rattle.meaning.proofs.Gadget.Made.{made-law}

-- ---- over natural numbers

-- n·n + 2n is one less than (n+1)·(n+1), which is at most c·c
square-fits : (n c M : ℕ) → n < c → c * c ≤ M + 1 → n * n + 2 * n ≤ M
square-fits n c M h k = omega (arith, mul-le-mul h h)

-- 2n is 0, 2, or at most n·n
twice-root : (n m c : ℕ) → n * n ≤ m → m < c → 3 ≤ c → 2 * n < c
twice-root zero m c h k l = omega arith
twice-root (suc zero) m c h k l = omega arith
twice-root (suc (suc n)) m c h k l = omega arith

-- ---- over whole numbers

-- what reading tests: with c = b^k, 3 ≤ c and c·c ≤ M+1
record Allowed (p b k : ℕ) : Type 0 where
  three : 3 ≤ b ^ k
  square : b ^ k * b ^ k ≤ half p + 1

module _ {p : ℕ} (P : OddPrime p) (b k : ℕ) (base : 2 ≤ b) (A : Allowed p b k) where
  power-half : b ^ k ≤ half p
  power-half = omega (arith, mul-le-mul_right (b ^ k) A.three, A.square)

  -- every number of the signed range keeps the digit rule
  range-rule : (x : ℤ) → T (in_range p x) → DigitRule p b k (lowest p) (highest p) (pos 0) x
  unfolding lowest highest
  range-rule x t =
      let c = power-half in
      record {
        positive-base = omega arith;
        low = range-low P x t;
        high = range-high P x t;
        power-fits = omega (arith, P.odd);
        above = omega (linear, P.odd);
        below = omega (linear, P.odd, positive_part-negation (pos (half p)), negative_part-negation (pos (half p)));
      }

  -- the numbers of the four groups lie in 0..c-1
  abbrev Spans : (v y : ℤ) → Type 0
  Spans v y = ((Spanned b k (pos 0) v × Spanned b k (pos 0) y) × Spanned b k (pos 0) (v -ℤ y *ℤ y))
      × Spanned b k (pos 0) (y *ℤ y +ℤ pos 2 *ℤ y -ℤ v)

  -- where the first two do, all lie in the signed range
  span-range : (x : ℤ) → Spanned b k (pos 0) x → T (in_range p x)
  unfolding lowest highest
  span-range x s = range-test P x (omega (linear, s.0)) (omega (linear, s.1, power-half))

  below-range : (v y : ℤ) → Spanned b k (pos 0) v × Spanned b k (pos 0) y → T (in_range p (v -ℤ y *ℤ y))
  unfolding lowest highest
  below-range v (negsuc n) s = absurd (omega (linear, s.1.0))
  below-range v (pos n) s =
      let q = square-fits n (b ^ k) (half p) (omega (linear, s.1.1, A.three)) A.square in
      range-test P (v -ℤ pos (n * n)) (omega (linear, s.0.0)) (omega (linear, s.0.1, power-half))

  above-range : (v y : ℤ) → Spanned b k (pos 0) v × Spanned b k (pos 0) y → T (in_range p (y *ℤ y +ℤ pos 2 *ℤ y -ℤ v))
  unfolding lowest highest
  above-range v (negsuc n) s = absurd (omega (linear, s.1.0))
  above-range v (pos n) s =
      let q = square-fits n (b ^ k) (half p) (omega (linear, s.1.1, A.three)) A.square in
      range-test P (pos (n * n + 2 * n) -ℤ v) (omega (linear, s.0.1, power-half)) (omega (linear, s.0.0))

  -- y·y ≤ v ≤ y·y + 2y tells the root; and for the root both differences are at most 2y, which is below c
  spans-tell : (v y : ℤ) → Spans v y → y ≡ root_value v
  unfolding root_value
  spans-tell (negsuc m) y s = absurd (omega (linear, s.0.0.0.0))
  spans-tell (pos m) (negsuc n) s = absurd (omega (linear, s.0.0.1.0))
  spans-tell (pos m) (pos n) s =
      let low : n * n ≤ m = omega (linear, s.0.1.0, minus (pos m) (pos (n * n))) in
      let high : m ≤ n * n + 2 * n = omega (linear, s.1.0, minus (pos (n * n + 2 * n)) (pos m)) in
      ap pos (root-unique m n low (omega arith))

  root-spans : (v : ℤ) → Spanned b k (pos 0) v → Spans v (root_value v)
  unfolding root_value
  root-spans (negsuc m) s = absurd (omega (linear, s.0))
  root-spans (pos m) s =
      let n : ℕ = square_root m in
      let low : n * n ≤ m = root-square m in
      let high : m < suc n * suc n = root-next m in
      let below : n ≤ m = root_below m in
      let small : m < b ^ k = omega (linear, s.1) in
      let twice : 2 * n < b ^ k = twice-root n m (b ^ k) low small A.three in
      let d = minus (pos m) (pos (n * n)) in
      let e = minus (pos (n * n + 2 * n)) (pos m) in
      (((s, (omega linear, omega linear)), (omega linear, omega linear)), (omega linear, omega linear))

  spans-root : (v y : ℤ) → Spans v y ↔ (Spanned b k (pos 0) v × (y ≡ root_value v))
  spans-root v y = (λ s. (s.0.0.0, spans-tell v y s), λ s. rw s.1 (root-spans v s.0))

-- ---- the law

module _ (s : Known) (P : OddPrime s.p) (r : Ranged s.p s.known) (v b k : ℕ) (named : v < length s.known) (base : 2 ≤ b) where
  abbrev v' : Form
  v' = cell (place_of s v)

  abbrev y' : Form
  y' = cell s.cells

  abbrev q' : Form
  q' = cell (suc s.cells)

  abbrev at : ℕ
  at = s.cells + 2

  abbrev square : Row
  square = y' ⊗ y' ≅ q'

  abbrev groups : List Row
  groups = group v' (pos 0) at b k ++ group y' (pos 0) (at + k) b k
      ++ group (v' ⊖ q') (pos 0) (at + 2 * k) b k ++ group (q' ⊕ constant (pos 2) ⊗ y' ⊖ v') (pos 0) (at + 3 * k) b k

  abbrev statement : List ℤ → Bool
  statement vs = between (pos 0) (value_at vs v) (pos (b ^ k) -ℤ pos 1)

  -- the cells of the first group, of the first two, three and four, for a number y in the value's place
  abbrev one_group : List ℤ → List ℕ
  one_group vs = group_cells b k (value_at vs v) (pos 0)

  abbrev two_groups : List ℤ → ℤ → List ℕ
  two_groups vs y = one_group vs ++ group_cells b k y (pos 0)

  abbrev three_groups : List ℤ → ℤ → List ℕ
  three_groups vs y = two_groups vs y ++ group_cells b k (value_at vs v -ℤ y *ℤ y) (pos 0)

  abbrev digit_cells : List ℤ → ℤ → List ℕ
  digit_cells vs y = three_groups vs y ++ group_cells b k (y *ℤ y +ℤ pos 2 *ℤ y -ℤ value_at vs v) (pos 0)

  abbrev others : List ℤ → ℤ → List ℕ
  others vs y = remainder s.p (y *ℤ y) ∷ digit_cells vs y

  digits-count : (vs : List ℤ) (y : ℤ) → length (digit_cells vs y) ≡ 4 * k
  digits-count vs y =
      let x : ℤ = value_at vs v in
      omega (
        arith,
        length-group b k x (pos 0),
        length_more (one_group vs) b k y (pos 0),
        length_more (two_groups vs y) b k (x -ℤ y *ℤ y) (pos 0),
        length_more (three_groups vs y) b k (y *ℤ y +ℤ pos 2 *ℤ y -ℤ x) (pos 0),
      )

  module _ (A : Allowed s.p b k) where
    statement-iff : (vs : List ℤ) → T (statement vs) ↔ Spanned b k (pos 0) (value_at vs v)
    statement-iff vs =
        let top : pos (b ^ k) -ℤ pos 1 ≡ pos 0 +ℤ pos (b ^ k - 1) = omega (linear, subℕ-parts (b ^ k) 1, A.three) in
        rw top (between-iff (pos 0) (value_at vs v) (pos 0 +ℤ pos (b ^ k - 1)))

    power_below : b ^ k ≤ s.p
    power_below = omega (arith, power-half P b k base A, P.odd)

    more-below : (xs : List ℕ) (z : ℤ) → Below s.p xs → Below s.p (xs ++ group_cells b k z (pos 0))
    more-below xs z h = below_more s.p b k xs z (pos 0) h (omega arith) power_below

    digits-below : (vs : List ℤ) (y : ℤ) → Below s.p (digit_cells vs y)
    digits-below vs y =
        let x : ℤ = value_at vs v in
        let one : Below s.p (one_group vs) = group-below s.p b k x (pos 0) (omega arith) power_below in
        let two : Below s.p (two_groups vs y) = more-below (one_group vs) y one in
        let three : Below s.p (three_groups vs y) = more-below (two_groups vs y) (x -ℤ y *ℤ y) two in
        more-below (three_groups vs y) (y *ℤ y +ℤ pos 2 *ℤ y -ℤ x) three

    value-spans : (vs : List ℤ) → T (statement vs) → Spanned b k (pos 0) (root_value (value_at vs v))
    value-spans vs h = (root-spans P b k base A (value_at vs v) ((statement-iff vs).0 h)).0.0.1

    -- y is a number of the signed range that stands in the value's cell
    module _ (t : List ℕ) (vs : List ℤ) (room : suc s.cells + suc (4 * k) ≤ length t) (below : Below s.p t)
        (w : Within s.known vs) (c : InCells s.p t s.places vs) (y : ℤ) (y-ranged : T (in_range s.p y))
        (y-is : Congruent s.p (pos (get_or t s.cells 0)) y) where
      abbrev x : ℤ
      x = value_at vs v

      x-is : Congruent s.p (eval t v') x
      x-is = value-congruent s vs v named s.p t (positive P) w c

      x-ranged : T (in_range s.p x)
      x-ranged =
          let l = low-ranged s.p s v named r in
          let h = high-ranged s.p s v named r in
          range-test P x (omega (linear, low_end s vs v named w)) (omega (linear, high_end s vs v named w))

      square-holds : T (holds s.p t square) ↔ Congruent s.p (eval t q') (y *ℤ y)
      unfolding eval
      square-holds =
          let row = row-holds s.p t (y' ⊗ y') q' (positive P) in
          let is = congruent-* y-is y-is in (
            λ h. congruent-trans (congruent-sym (row.0 h)) is,
            λ d. row.1 (congruent-trans is (congruent-sym d)),
          )

      -- what the first two groups tell of v and y gives the last two their digit rule
      groups-tell : Congruent s.p (eval t q') (y *ℤ y) → Tells s.p t groups at (4 * k) (Spans P b k base A x y) (digit_cells vs y)
      unfolding eval
      groups-tell q-is =
          let rule = range-rule P b k base A in
          let first = tells-group s.p t v' at (positive P) (omega arith) x-is (rule x x-ranged) in
          let second = tells_more s.p t first y' (at + k) (2 * k) (omega arith) (omega arith) (positive P) (omega arith) y-is
          (λ _. rule y y-ranged) in
          let third = tells_more s.p t second (v' ⊖ q') (at + 2 * k) (3 * k) (omega arith) (omega arith) (positive P) (omega arith)
          (congruent-- x-is q-is) (λ h. rule (x -ℤ y *ℤ y) (below-range P b k base A x y h)) in
          tells_more s.p t third (q' ⊕ constant (pos 2) ⊗ y' ⊖ v') (at + 3 * k) (4 * k) (omega arith) (omega arith) (positive P)
          (omega arith) (congruent-- (congruent-+ q-is (congruent-* (congruent-refl (pos 2)) y-is)) x-is)
          (λ h. rule (y *ℤ y +ℤ pos 2 *ℤ y -ℤ x) (above-range P b k base A x y h.0))

      q-iff : Congruent s.p (eval t q') (y *ℤ y) ↔ (get_or t (suc s.cells) 0 ≡ remainder s.p (y *ℤ y))
      unfolding eval
      q-iff = residue-iff s.p (get_or t (suc s.cells) 0) (y *ℤ y) (below_at s.p t (suc s.cells) below (omega arith))

      cells-iff : (cells_at t (suc s.cells) (suc (4 * k)) ≡ others vs y)
          ↔ ((get_or t (suc s.cells) 0 ≡ remainder s.p (y *ℤ y)) × (cells_at t at (4 * k) ≡ digit_cells vs y))
      cells-iff =
          let place : at ≡ suc (suc s.cells) = omega arith in
          rw place (cons-iff t (suc s.cells) (4 * k) (remainder s.p (y *ℤ y)) (digit_cells vs y) (omega arith))

      rows_tell : Hold s.p t (square ∷ groups)
          ↔ (T (statement vs) × (y ≡ root_value x) × (cells_at t (suc s.cells) (suc (4 * k)) ≡ others vs y))
      rows_tell =
          let spans = spans-root P b k base A x y in (
            λ h. let q = square-holds.0 h.0 in
                let g = (groups-tell q).yields.0 h.1 in
                let z = spans.0 g.0 in
                ((statement-iff vs).1 z.0, z.1, cells-iff.1 (q-iff.0 q, g.1)),
            λ h. let d = cells-iff.0 h.2 in
                let q = q-iff.1 d.0 in
                (square-holds.1 q, (groups-tell q).yields.1 (spans.1 ((statement-iff vs).0 h.0, h.1), d.1)),
          )

  pub root-law : T (root_line s v b k).unambiguous → Law s.p s (root_line s v b k)
  unfolding root_line lowest highest
  root-law u =
      let c : ℕ = b ^ k in
      let A : Allowed s.p b k = record {
        three = leb→le 3 c (left (leb 3 c) (leb (c * c) (half s.p + 1)) u);
        square = leb→le (c * c) (half s.p + 1) (right (leb 3 c) (leb (c * c) (half s.p + 1)) u);
      } in
      let root : List ℤ → ℤ = λ vs. root_value (value_at vs v) in
      made-law s (leb 3 c && leb (c * c) (half s.p + 1)) true true (ends (pos 0) (pos (c - 1))) (2 + 4 * k) (suc (4 * k))
      (square ∷ groups) statement root (λ vs. others vs (root vs)) s.p r (record {
        positive = positive P;
        width_is = omega arith;
        low-range = omega linear;
        high-range = omega (linear, power-half P b k base A);
        low = λ vs w h. (value-spans A vs h).0;
        high = λ vs w h. omega (linear, (value-spans A vs h).1);
        others-count = λ vs. ap suc (digits-count vs (root vs));
        others_below = λ vs w h. (remainder-below s.p (root vs *ℤ root vs) (positive P), digits-below A vs (root vs));
        hold = λ t vs room b'. let y : ℕ = get_or t s.cells 0 in
            let y-below = below_at s.p t s.cells b'.below (omega arith) in
            exact-by-number y (Hold s.p t (square ∷ groups)) (T (statement vs)) (root vs)
            (λ y. T (in_range s.p y)) (λ y. cells_at t (suc s.cells) (suc (4 * k)) ≡ others vs y) y-below
            (λ h. (signed s.p y, signed_range P y y-below, congruent-sym (signed-congruent P y)))
            (λ h. span-range P b k base A (root vs) (value-spans A vs h))
            (rows_tell A t vs room b'.below b'.within b'.in_cells);
      })
