-- What the laws of relu and which share: a digit group over x with shift -B, then f and w. The group tells x and its digits; its top
-- digit is b-1 exactly where x is not negative; and the three rows about t = d(k-1)-(b-1) leave one choice of f and w, p being prime.
use mathlib.Core.Path.{◌≡◌, refl, sym, ap, ◌∙◌}
use mathlib.Core.Bool.{true, cond}
use mathlib.Core.List.{List, [], ◌∷◌, ◌++◌}
use mathlib.Core.Logic.{◌⊎◌, inl, inr, ⊎_elim, ◌↔◌}
use Prim.Native.Nat.{ℕ, zero, suc, ◌+◌, ◌-◌, ◌*◌, ◌/◌, ◌%◌, ◌^◌, ◌≤◌, ◌<◌}
use native.Mathlib.Omega.{arith}
use native.Mathlib.Nat.{mod-lt, mod-eq_of_lt, pow-succ', add-suc}
use lib.Dec.{T, eqb}
use lib.ListN.{length, get_or, take, drop, length-append}
use lib.Seq.{get_or-take, get_or-drop}
use lib.IntN.{ℤ, pos, negsuc, nat_abs, ◌+ℤ◌, ◌-ℤ◌, ◌*ℤ◌}
use lib.Signed.{◌≤ℤ◌, ◌<ℤ◌}
use Rattle.algebra.specs.Congruence.{Congruent, remainder, inverse}
use Rattle.algebra.specs.Digits.{Below}
use Rattle.algebra.proofs.Test.{cond_cases, eqb-iff, eqb-false, decide, test-≡, order}
use Rattle.algebra.proofs.Integer.Order.{positive_part, negative_part, negative_part-zero, nat_abs-parts, subℕ-parts, minus, positive_part-negation, negative_part-negation}
use Rattle.algebra.proofs.Integer.Linear.{linear}
use Rattle.algebra.proofs.Integer.Ring.{var, lit, ◌⊕◌ as ◌⊞◌, ◌⊖◌ as ◌⊟◌, ◌⊗◌ as ◌⊠◌, ring}
use Rattle.algebra.proofs.Congruence.{congruent-≡, congruent-refl, congruent-sym, congruent-trans, congruent-*, combination2, residue-unique}
use Rattle.algebra.proofs.Congruence.{congruent-of-difference, difference-congruent, congruent-remainder}
use Rattle.algebra.proofs.Congruence.{remainder-below, remainder-iff, remainder-of-residue}
use Rattle.algebra.proofs.Prime.{euclid-integers, congruent-zero-iff, inverse-below, inverse-is, inverse-unique}
use Rattle.algebra.proofs.Digits.{power-positive, base-below-power, digit_at, top_digit, top-digit-full, DigitRule}
use Rattle.meaning.specs.Number.{lowest, highest, OddPrime}
use Rattle.meaning.specs.Known.{Known, Ends, top_part, digit_rule, Within, Ranged}
use Rattle.meaning.specs.Gadget.Interface.{Gadget}
use Rattle.meaning.specs.Gadget.Sign.{sign_shift, sign_statement, flag_rows, sign_rows, sign_top, sign_cells}
use Rattle.meaning.proofs.Number.{positive}
use Rattle.meaning.specs.Row.{Form, cell, constant, ◌⊖◌, eval, Row, holds, group}
use Rattle.meaning.specs.Gadget.Digits.{group_cells}
use Rattle.meaning.proofs.Order.{between-iff}
use Rattle.meaning.proofs.Cells.{cells_at, cons-iff, append-iff, cells_at-zero}
use Rattle.meaning.proofs.Hold.{Hold, hold-append, row-holds}
use Rattle.meaning.proofs.Group.{group-holds, rule-kept, rule-power, length-group, group-below}
use Rattle.meaning.proofs.Law.{InCells, below_at, below-append, Law}
use Rattle.meaning.proofs.Gadget.Made.{maker, made-law}

-- ---- f and w

-- The three rows over an integer t: where t is 0 modulo p they say f = 1 and w = 0, and elsewhere f = 0 and w the inverse of t.
module _ {p : ℕ} (P : OddPrime p) (t : ℤ) (f w : ℕ) (f-below : f < p) (w-below : w < p) where
  abbrev Rows : Type 0
  Rows = Congruent p (t *ℤ pos w) (pos 1 -ℤ pos f) × Congruent p (t *ℤ pos f) (pos 0) × Congruent p (pos w *ℤ pos f) (pos 0)

  zero-rows : Congruent p t (pos 0) → Rows ↔ ((f ≡ 1) × (w ≡ 0))
  zero-rows z = (λ r. (flag r, witness r), λ e. back e.0 e.1)
    where
      flag : Rows → f ≡ 1
      flag r = residue-unique (combination2 (pos 1) (negsuc 0 *ℤ pos w) r.0 z (ring (t ∷ pos f ∷ pos w ∷ [])
          (var 1 ⊟ lit (pos 1))
          (lit (pos 1) ⊠ (var 0 ⊠ var 2 ⊟ (lit (pos 1) ⊟ var 1)) ⊞ lit (negsuc 0) ⊠ var 2 ⊠ (var 0 ⊟ lit (pos 0))) refl))
          f-below (omega (arith, P.three))

      witness : Rows → w ≡ 0
      witness r = (congruent-zero-iff w w-below).0 (congruent-trans (congruent-≡ (ap pos (rw (flag r) (omega arith)))) r.2)

      back : f ≡ 1 → w ≡ 0 → Rows
      back e g = rw (e, g) (
        congruent-≡ (ring (t ∷ []) (var 0 ⊠ lit (pos 0)) (lit (pos 1) ⊟ lit (pos 1)) refl),
        congruent-trans (congruent-≡ (ring (t ∷ []) (var 0 ⊠ lit (pos 1)) (var 0) refl)) z,
        congruent-≡ refl,
      )

  other-rows : ¬ Congruent p t (pos 0) → Rows ↔ ((f ≡ 0) × (w ≡ inverse p (remainder p t)))
  other-rows z = (λ r. (flag r, witness r), λ e. back e.0 e.1)
    where
      t-is : Congruent p t (pos (remainder p t))
      t-is = congruent-remainder p t (positive P)

      flag : Rows → f ≡ 0
      flag r = ⊎_elim (λ c. absurd (z c)) (congruent-zero-iff f f-below).0 (euclid-integers t (pos f) P.prime r.1)

      witness : Rows → w ≡ inverse p (remainder p t)
      witness r = inverse-unique p (remainder p t) w P.prime (remainder-below p t (positive P)) w-below
          (congruent-trans (congruent-* (congruent-sym t-is) (congruent-refl (pos w)))
          (congruent-trans r.0 (congruent-≡ (rw (flag r) refl))))

      not-zero : zero < remainder p t
      not-zero = elim (decide (eqb (remainder p t) 0)) [
        | inl q ↦ absurd (z (congruent-trans t-is (congruent-≡ (ap pos ((eqb-iff (remainder p t) 0).0 q)))))
        | inr q ↦ let n = eqb-false (remainder p t) 0 q in omega arith
      ]

      back : f ≡ 0 → w ≡ inverse p (remainder p t) → Rows
      back e g = rw (e, g) (
        congruent-trans (congruent-* t-is (congruent-refl (pos (inverse p (remainder p t)))))
            (inverse-is p (remainder p t) P.prime not-zero (remainder-below p t (positive P))),
        congruent-≡ (ring (t ∷ []) (var 0 ⊠ lit (pos 0)) (lit (pos 0)) refl),
        congruent-≡ (ring (pos (inverse p (remainder p t)) ∷ []) (var 0 ⊠ lit (pos 0)) (lit (pos 0)) refl),
      )

  -- in one statement, by the remainder of t
  pub flag-rows : Rows
      ↔ ((f ≡ cond (eqb (remainder p t) 0) 1 0) × (w ≡ cond (eqb (remainder p t) 0) 0 (inverse p (remainder p t))))
  flag-rows = elim (decide (eqb (remainder p t) 0)) [
    | inl q ↦ rw (test-≡ (eqb (remainder p t) 0) q) (zero-rows (is-zero ((eqb-iff (remainder p t) 0).0 q)))
    | inr q ↦ rw q (other-rows (λ c. eqb-false (remainder p t) 0 q (zero_is c)))
  ]
    where
      is-zero : remainder p t ≡ 0 → Congruent p t (pos 0)
      is-zero e = congruent-trans (congruent-remainder p t (positive P)) (congruent-≡ (ap pos e))

      zero_is : Congruent p t (pos 0) → remainder p t ≡ 0
      zero_is c = (remainder-iff p t (pos 0) (positive P)).0 c ∙ remainder-of-residue p 0 (positive P)

-- ---- the digits of x + B, and the sign of x

one_less : (n : ℕ) → suc n - 1 ≡ n
one_less n = omega arith

times-one-less : (b c : ℕ) → 1 ≤ b → b * c ≡ (b - 1) * c + c
times-one-less zero c h = absurd (omega arith)
times-one-less (suc b) c h = rw (one_less b) (omega arith)

-- k is j + 1
module _ (b j : ℕ) (base : 2 ≤ b) where
  abbrev k : ℕ
  k = suc j

  -- c = B + b^(k-1)
  power-parts : b ^ k ≡ top_part b k + b ^ j
  unfolding top_part
  power-parts = rw (one_less j) (omega (arith, pow-succ' b j, times-one-less b (b ^ j) (omega arith)))

  shift-positive : positive_part (sign_shift b k) ≡ 0
  unfolding sign_shift
  shift-positive = positive_part-negation (pos (top_part b k))

  shift-negative : negative_part (sign_shift b k) ≡ top_part b k
  unfolding sign_shift
  shift-negative = negative_part-negation (pos (top_part b k))

  -- b^(k-1)-1 = -B+c-1
  high_is : pos (b ^ (k - 1)) -ℤ pos 1 ≡ sign_shift b k +ℤ pos (b ^ k - 1)
  high_is = rw (one_less j)
      (omega (linear, power-parts, power-positive b j (omega arith), subℕ-parts (b ^ j) 1, shift-positive, shift-negative))

  pub statement-iff : (x : ℤ) → T (sign_statement b k x) ↔ ((sign_shift b k ≤ℤ x) × (x ≤ℤ (sign_shift b k +ℤ pos (b ^ k - 1))))
  unfolding sign_statement
  statement-iff x = rw high_is (between-iff (sign_shift b k) x (sign_shift b k +ℤ pos (b ^ k - 1)))

  module _ (x : ℤ) (true-of-x : T (sign_statement b k x)) where
    abbrev n : ℕ
    n = nat_abs (x -ℤ sign_shift b k)

    -- x + B is not negative, and is below c
    n-is : pos n ≡ x +ℤ pos (top_part b k)
    n-is =
        let s = (statement-iff x).0 true-of-x in
        let z = negative_part-zero (x -ℤ sign_shift b k) (omega (linear, s.0, minus x (sign_shift b k))) in
        omega (linear, nat_abs-parts (x -ℤ sign_shift b k), minus x (sign_shift b k), shift-positive, shift-negative)

    n-below : n < b ^ k
    n-below =
        let s = (statement-iff x).0 true-of-x in
        omega (linear, n-is, s.1, power-positive b k (omega arith), shift-positive, shift-negative)

    -- the top digit is b-1 exactly where B ≤ x + B
    top-full : (n / b ^ (k - 1) % b ≡ b - 1) ↔ (pos 0 ≤ℤ x)
    unfolding top_part
    top-full =
        let full = top-digit-full b j n n-below (omega arith) in
        let top : top_part b k ≡ (b - 1) * b ^ j = rw (one_less j) refl in
        rw (one_less j, mod-eq_of_lt (top_digit b j n n-below)) (
          λ e. let h = full.0 e in omega (linear, n-is, top),
          λ h. full.1 (omega (linear, n-is, top)),
        )

    -- t is 0 modulo p exactly where x is not negative
    pub top-zero : (p : ℕ) → b ≤ p → (sign_top p b k x ≡ 0) ↔ (pos 0 ≤ℤ x)
    unfolding sign_top
    top-zero p h =
        let d : ℕ = n / b ^ (k - 1) % b in
        let small : d < b = mod-lt (n / b ^ (k - 1)) (omega arith) in
        let zero_is = remainder-iff p (pos d -ℤ pos (b - 1)) (pos 0) (omega arith) in
        let none = remainder-of-residue p 0 (omega arith) in (
          λ e. top-full.0 (residue-unique (congruent-of-difference (pos d) (pos (b - 1)) (zero_is.1 (e ∙ sym none))) (omega arith) (omega arith)),
          λ l. zero_is.0 (difference-congruent (congruent-≡ (ap pos (top-full.1 l)))) ∙ none,
        )

-- ---- the rows and the cells

-- f says whether x is not negative
abbrev pub Flag : ℤ → ℕ → Type 0
Flag x f = ((f ≡ 1) × (pos 0 ≤ℤ x)) ⊎ ((f ≡ 0) × (x <ℤ pos 0))

module _ {p : ℕ} (P : OddPrime p) (t : List ℕ) (below : Below p t) (form : Form) (x : ℤ) (same : Congruent p (eval t form) x)
    (at b j : ℕ) (base : 2 ≤ b) (room : at + (suc j + 2) ≤ length t) (E F : ℤ) (rule : DigitRule p b (suc j) E F (sign_shift b (suc j)) x) where
  abbrev k' : ℕ
  k' = suc j

  -- the cells of the top digit, f and w
  abbrev top : ℕ
  top = get_or t (at + (k' - 1)) 0

  abbrev flag : ℕ
  flag = get_or t (at + k') 0

  abbrev witness : ℕ
  witness = get_or t (at + suc k') 0

  top-cell : cells_at t at k' ≡ group_cells b k' x (sign_shift b k') → remainder p (pos top -ℤ pos (b - 1)) ≡ sign_top p b k' x
  unfolding sign_top group_cells cells_at
  top-cell e =
      let cell-is : get_or (take k' (drop at t)) j 0 ≡ get_or t (at + j) 0 = get_or-take k' (drop at t) j 0 (omega arith) ∙ get_or-drop at t j 0 in
      let digit-is = digit_at b k' (nat_abs (x -ℤ sign_shift b k')) j (omega arith) in
      rw (one_less j) (ap (λ (d : ℕ). remainder p (pos d -ℤ pos (b - 1))) (sym cell-is ∙ ap (λ (l : List ℕ). get_or l j 0) e ∙ digit-is))

  -- the three rows about t, as congruences
  abbrev flags : List Row
  flags = flag_rows (cell (at + (k' - 1)) ⊖ constant (pos (b - 1))) (cell (at + k')) (cell (at + suc k'))

  flags-hold : Hold p t flags ↔ ((flag ≡ cond (eqb (remainder p (pos top -ℤ pos (b - 1))) 0) 1 0)
      × (witness ≡ cond (eqb (remainder p (pos top -ℤ pos (b - 1))) 0) 0 (inverse p (remainder p (pos top -ℤ pos (b - 1))))))
  unfolding eval
  flags-hold =
      let rows = flag-rows P (pos top -ℤ pos (b - 1)) flag witness
      (below_at p t (at + k') below (omega arith)) (below_at p t (at + suc k') below (omega arith)) in (
        λ h. rows.0 ((row-holds p t _ _ (positive P)).0 h.0, (row-holds p t _ _ (positive P)).0 h.1.0, (row-holds p t _ _ (positive P)).0 h.1.1.0),
        λ h.
            let r = rows.1 h in
            ((row-holds p t _ _ (positive P)).1 r.0, ((row-holds p t _ _ (positive P)).1 r.1, ((row-holds p t _ _ (positive P)).1 r.2, tt))),
      )

  -- the stretch of the group, f and w, part by part
  stretch-iff : (ds : List ℕ) (f w : ℕ) → length ds ≡ k'
      → (cells_at t at (k' + 2) ≡ ds ++ f ∷ w ∷ []) ↔ ((cells_at t at k' ≡ ds) × (flag ≡ f) × (witness ≡ w))
  stretch-iff ds f w l =
      let parts = append-iff t at k' 2 ds (f ∷ w ∷ []) (omega arith) l in
      let first = cons-iff t (at + k') 1 f (w ∷ []) (omega arith) in
      let second = cons-iff t (suc (at + k')) 0 w [] (omega arith) in
      rw (add-suc at k') (
        λ e. let a = parts.0 e in let c = first.0 a.1 in (a.0, c.0, (second.0 c.1).0),
        λ e. parts.1 (e.0, first.1 (e.1, second.1 (e.2, cells_at-zero t (suc (suc (at + k')))))),
      )

  pub sign-holds : (last : Form → Row) → Hold p t (sign_rows form at b k' last)
      ↔ (T (sign_statement b k' x) × (cells_at t at (k' + 2) ≡ sign_cells p b k' x) × T (holds p t (last (cell (at + k')))))
  unfolding sign_rows sign_cells
  sign-holds last =
      let split = hold-append p t (group form (sign_shift b k') at b k') (flags ++ last (cell (at + k')) ∷ []) in
      let tail = hold-append p t flags (last (cell (at + k')) ∷ []) in
      let digits_are = group-holds p t form at (positive P) (omega arith) same rule in
      let statement = statement-iff b j base x in
      let cells = stretch-iff (group_cells b k' x (sign_shift b k')) _ _ (length-group b k' x (sign_shift b k')) in (
        λ h.
            let a = split.0 h in
            let g = digits_are.0 a.0 in
            let c = tail.0 a.1 in
            let f = rw (top-cell g.2) at (flags-hold.0 c.0) in
            (statement.1 (g.0, g.1), cells.1 (g.2, f.0, f.1), c.1.0),
        λ h.
            let c = cells.0 h.1 in
            let s = statement.0 h.0 in
            let f = flags-hold.1 (rw (top-cell c.0) (c.1, c.2)) in
            split.1 (digits_are.1 (s.0, s.1, c.0), tail.1 (f, (h.2, tt))),
      )

  -- f is 1 where x is not negative, and 0 elsewhere
  pub sign-flag : T (sign_statement b k' x) → cells_at t at (k' + 2) ≡ sign_cells p b k' x → Flag x flag
  unfolding sign_cells
  sign-flag s e =
      let z = top-zero b j base x s p (omega (arith, base-below-power b k' (omega arith) (omega arith), rule.power-fits)) in
      let c = (stretch-iff (group_cells b k' x (sign_shift b k')) _ _ (length-group b k' x (sign_shift b k'))).0 e in
      rw c.1 (cond_cases (Flag x) (eqb (sign_top p b k' x) 0) 1 0
      (λ q. inl (refl, z.0 ((eqb-iff (sign_top p b k' x) 0).0 q)))
      (λ q. inr (refl, not-zero (λ h. eqb-false (sign_top p b k' x) 0 q (z.1 h)))))
    where
      not-zero : ¬ (pos 0 ≤ℤ x) → x <ℤ pos 0
      not-zero h = ⊎_elim (λ l. absurd (h l)) (λ l. l) (order (pos 0) x)

-- ---- the law of a line that has such a group over x and ties its value to f by the last row

pub record Signs (s : Known) (b k : ℕ) (form : Form) (x : List ℤ → ℤ) (es made : Ends) (last : Form → Row) (value : List ℤ → ℤ) : Type 0 where
  pub congruent : (t : List ℕ) (vs : List ℤ) → Within s.known vs → InCells s.p t s.places vs → Congruent s.p (eval t form) (x vs)
  pub low : (vs : List ℤ) → Within s.known vs → es.E ≤ℤ x vs
  pub high : (vs : List ℤ) → Within s.known vs → x vs ≤ℤ es.F
  pub allowed : T (digit_rule s.p b k es (sign_shift b k))
  pub made-low-range : lowest s.p ≤ℤ made.E
  pub made-high-range : made.F ≤ℤ highest s.p
  pub made-low : (vs : List ℤ) → Within s.known vs → made.E ≤ℤ value vs
  pub made-high : (vs : List ℤ) → Within s.known vs → value vs ≤ℤ made.F
  pub last_row : (t : List ℕ) (vs : List ℤ) (f : ℕ) → Within s.known vs → InCells s.p t s.places vs
      → get_or t s.cells 0 < s.p → Flag (x vs) (get_or t f 0)
      → T (holds s.p t (last (cell f))) ↔ (get_or t s.cells 0 ≡ remainder s.p (value vs))

module _ (s : Known) (P : OddPrime s.p) (r : Ranged s.p s.known) (b j : ℕ) (base : 2 ≤ b)
    (form : Form) (x : List ℤ → ℤ) (es made : Ends) (last : Form → Row) (value : List ℤ → ℤ) (own : Signs s b (suc j) form x es made last value) where
  abbrev pub sign_maker : Gadget
  sign_maker = maker s (digit_rule s.p b (suc j) es (sign_shift b (suc j))) true true made (suc j + 3) (suc j + 2)
      (sign_rows form (suc s.cells) b (suc j) last) (λ vs. sign_statement b (suc j) (x vs)) value (λ vs. sign_cells s.p b (suc j) (x vs)) s.p

  cells_count : (y : ℤ) → length (sign_cells s.p b (suc j) y) ≡ suc j + 2
  unfolding sign_cells
  cells_count y = length-append (group_cells b (suc j) y (sign_shift b (suc j))) (_ ∷ _ ∷ []) ∙ rw (length-group b (suc j) y (sign_shift b (suc j))) refl

  cells-below : (y : ℤ) → Below s.p (sign_cells s.p b (suc j) y)
  unfolding sign_cells
  cells-below y =
      let t : ℕ = sign_top s.p b (suc j) y in
      below-append s.p (group_cells b (suc j) y (sign_shift b (suc j))) (_ ∷ _ ∷ [])
      (group-below s.p b (suc j) y (sign_shift b (suc j)) (omega arith) (rule-power s.p b (suc j) es (sign_shift b (suc j)) own.allowed)) (
        cond_cases (λ z. z < s.p) (eqb t 0) 1 0 (λ _. omega (arith, P.three)) (λ _. positive P),
        (cond_cases (λ z. z < s.p) (eqb t 0) 0 (inverse s.p t) (λ _. positive P) (λ _. inverse-below s.p t (positive P)), tt),
      )

  pub sign-law : Law s.p s sign_maker
  sign-law = made-law s (digit_rule s.p b (suc j) es (sign_shift b (suc j))) true true made (suc j + 3) (suc j + 2)
      (sign_rows form (suc s.cells) b (suc j) last) (λ vs. sign_statement b (suc j) (x vs)) value (λ vs. sign_cells s.p b (suc j) (x vs)) s.p r
      (record {
        positive = positive P;
        width_is = omega arith;
        low-range = own.made-low-range;
        high-range = own.made-high-range;
        low = λ vs w u. own.made-low vs w;
        high = λ vs w u. own.made-high vs w;
        others-count = λ vs. cells_count (x vs);
        others_below = λ vs w u. cells-below (x vs);
        hold = λ t vs room c.
            let p : ℕ = s.p in
            let at : ℕ = suc s.cells in
            let same = own.congruent t vs c.within c.in_cells in
            let rule = rule-kept p b (suc j) es (sign_shift b (suc j)) (x vs) (omega arith) own.allowed
            (own.low vs c.within) (own.high vs c.within) in
            let rows = sign-holds P t c.below form (x vs) same at b j base room es.E es.F rule last in
            let flag_is = sign-flag P t c.below form (x vs) same at b j base room es.E es.F rule in
            let y-below = below_at p t s.cells c.below (omega arith) in
            let tie = own.last_row t vs (at + suc j) c.within c.in_cells y-below in (
              λ h. let k = rows.0 h in (k.0, (tie (flag_is k.0 k.1)).0 k.2, k.1),
              λ h. rows.1 (h.0, h.2, (tie (flag_is h.0 h.2)).1 h.1),
            );
      })
