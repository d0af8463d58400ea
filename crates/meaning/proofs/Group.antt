-- A digit group: its rows hold exactly where the form's whole number lies in L..L+c-1 and the group's cells are its digits.
-- This is the one place where rows meet the digit rule of algebra; every line with digits goes by it. Then groups one after another.
use mathlib.Core.Path.{◌≡◌, refl, sym, ap, ◌∙◌}
use mathlib.Core.List.{List, [], ◌∷◌, ◌++◌}
use mathlib.Core.Logic.{◌↔◌}
use Prim.Native.Nat.{ℕ, zero, suc, ◌+◌, ◌-◌, ◌*◌, ◌^◌, ◌≤◌, ◌<◌}
use native.Mathlib.Omega.{arith}
use native.Mathlib.Nat.{mul-zero, one-mul}
use lib.Dec.{T, leb→le}
use lib.ListN.{length, length-append}
use lib.IntN.{ℤ, pos, nat_abs, ◌+ℤ◌, ◌-ℤ◌}
use lib.Signed.{◌≤ℤ◌}
use Rattle.algebra.specs.Congruence.{Congruent}
use Rattle.algebra.specs.Digits.{value, digits, Below}
use Rattle.algebra.proofs.Test.{left, right}
use Rattle.algebra.proofs.Congruence.{congruent-≡, congruent-refl, congruent-sym, congruent-trans, congruent--, remainder-iff}
use Rattle.algebra.proofs.Digits.{length_digits, digits-below, base-below-power, DigitRule, digit-rule}
use Rattle.meaning.specs.Known.{Ends, digit_rule}
use Rattle.meaning.specs.Row.{Form, constant, ◌⊖◌, eval, Row, ◌≅◌, digit_rows, place_values, group}
use Rattle.meaning.specs.Gadget.Digits.{group_cells}
use Rattle.meaning.proofs.Cells.{cells_at, cells_at-zero, cells_at-suc, length-cells_at, append-iff}
use Rattle.meaning.specs.Claims.{DigitsAreExact}
use Rattle.meaning.proofs.Hold.{Hold, hold-append, hold-each, row-holds, digit-holds}

module _ (p : ℕ) (t : List ℕ) where
  digits-hold : (at b k : ℕ) → at + k ≤ length t → Hold p t (digit_rows at b k) ↔ Below b (cells_at t at k)
  unfolding digit_rows
  digits-hold at b zero h = rw (cells_at-zero t at) (λ _. tt, λ _. tt)
  digits-hold at b (suc k) h =
      let later = digits-hold (suc at) b k (omega arith) in
      rw (cells_at-suc t at k (omega arith))
      (λ e. ((digit-holds p t at b).0 e.0, later.0 e.1), λ e. ((digit-holds p t at b).1 e.0, later.1 e.1))

  pub places-value : (w at b k : ℕ) → at + k ≤ length t → eval t (place_values w at b k) ≡ pos (w * value b (cells_at t at k))
  unfolding place_values eval value
  places-value w at b zero h = rw (cells_at-zero t at, mul-zero) refl
  places-value w at b (suc k) h =
      rw (cells_at-suc t at k (omega arith), places-value (w * b) (suc at) b k (omega arith)) (ap pos (omega arith))

  -- the last row of the group, as a congruence between the whole number and the digits' value
  value_row : (f : Form) (x L : ℤ) (at b k : ℕ) → zero < p → at + k ≤ length t → Congruent p (eval t f) x
      → Congruent p (eval t (f ⊖ constant L)) (eval t (place_values 1 at b k)) ↔ Congruent p (x -ℤ L) (pos (value b (cells_at t at k)))
  unfolding eval
  value_row f x L at b k h l c =
      let same : Congruent p (eval t f -ℤ L) (x -ℤ L) = congruent-- c (congruent-refl L) in
      let digits_are : eval t (place_values 1 at b k) ≡ pos (value b (cells_at t at k)) = rw (places-value 1 at b k l, one-mul) refl in (
        λ e. congruent-trans (congruent-sym same) (congruent-trans e (congruent-≡ digits_are)),
        λ e. congruent-trans same (congruent-trans e (congruent-≡ (sym digits_are))),
      )

  pub group-holds : (f : Form) {E F L x : ℤ} (at : ℕ) {b k : ℕ} → zero < p → at + k ≤ length t → Congruent p (eval t f) x
      → DigitRule p b k E F L x
      → Hold p t (group f L at b k) ↔ ((L ≤ℤ x) × (x ≤ℤ (L +ℤ pos (b ^ k - 1))) × (cells_at t at k ≡ group_cells b k x L))
  unfolding group group_cells
  group-holds f {E} {F} {L} {x} at {b} {k} h l c r =
      let rows = hold-append p t (digit_rows at b k) (f ⊖ constant L ≅ place_values 1 at b k ∷ []) in
      let small = digits-hold at b k l in
      let last = row-holds p t (f ⊖ constant L) (place_values 1 at b k) h in
      let sum = value_row f x L at b k h l c in
      let rule = digit-rule r (cells_at t at k) (length-cells_at t at k l) in (
        λ e. let g = rows.0 e in rule.0 (sum.0 (last.0 g.1.0), small.0 g.0),
        λ e. let g = rule.1 e in rows.1 (small.1 g.1, (last.1 (sum.1 g.0), tt)),
      )

-- the digit rule that reading tests, for a whole number between the ends
pub rule-kept : (p b k : ℕ) (es : Ends) (L x : ℤ) → zero < b → T (digit_rule p b k es L) → es.E ≤ℤ x → x ≤ℤ es.F
    → DigitRule p b k es.E es.F L x
unfolding digit_rule
rule-kept p b k es L x h t low high =
    record {
      positive-base = h;
      low = low;
      high = high;
      power-fits = leb→le (b ^ k) p (search (left, right));
      above = record { le = search (left, right) };
      below = record { le = search (left, right) };
    }

pub rule-power : (p b k : ℕ) (es : Ends) (L : ℤ) → T (digit_rule p b k es L) → b ^ k ≤ p
unfolding digit_rule
rule-power p b k es L t = leb→le (b ^ k) p (search (left, right))

-- the digit rule as a claim
pub digits-are-exact : DigitsAreExact
unfolding cells_at
digits-are-exact p b k at es L x form t h base allowed low high room same =
    let g = group-holds p t form at h room ((remainder-iff p (eval t form) x h).1 same) (rule-kept p b k es L x base allowed low high) in
    let each = hold-each p t (group form L at b k) in
    (λ e. g.0 (each.1 e), λ e. each.0 (g.1 e))

-- ---- the true cells of a group

pub length-group : (b k : ℕ) (x L : ℤ) → length (group_cells b k x L) ≡ k
unfolding group_cells
length-group b k x L = length_digits b k (nat_abs (x -ℤ L))

below-weaken : (b p : ℕ) (ds : List ℕ) → b ≤ p → Below b ds → Below p ds
below-weaken b p [] h l = tt
below-weaken b p (d ∷ ds) h l = (omega (arith, l.0), below-weaken b p ds h l.1)

base-fits : (p b k : ℕ) → zero < b → 1 ≤ k → b ^ k ≤ p → b ≤ p
base-fits p b k h l f = omega (arith, base-below-power b k l h)

-- digits below b are below p, as b is at most c, and c at most p
pub group-below : (p b k : ℕ) (x L : ℤ) → zero < b → b ^ k ≤ p → Below p (group_cells b k x L)
unfolding group_cells digits
group-below p b zero x L h f = tt
group-below p b (suc k) x L h f =
    below-weaken b p (digits b (suc k) (nat_abs (x -ℤ L))) (base-fits p b (suc k) h (omega arith) f) (digits-below b (suc k) (nat_abs (x -ℤ L)) h)

-- ---- groups one after another

pub length_more : (xs : List ℕ) (b k : ℕ) (x L : ℤ) → length (xs ++ group_cells b k x L) ≡ length xs + k
length_more xs b k x L = length-append xs (group_cells b k x L) ∙ rw (length-group b k x L) refl

pub below_more : (p b k : ℕ) (xs : List ℕ) (x L : ℤ) → Below p xs → zero < b → b ^ k ≤ p → Below p (xs ++ group_cells b k x L)
below_more p b k [] x L l h f = group-below p b k x L h f
below_more p b k (d ∷ xs) x L l h f = (l.0, below_more p b k xs x L l.1 h f)

-- x lies in L..L+c-1
abbrev pub Spanned : (b k : ℕ) (L x : ℤ) → Type 0
Spanned b k L x = (L ≤ℤ x) × (x ≤ℤ (L +ℤ pos (b ^ k - 1)))

module _ (p : ℕ) (t : List ℕ) where
  -- the rows hold exactly where Q does and the n cells from the one called at are xs
  pub record Tells (rows : List Row) (at n : ℕ) (Q : Type 0) (xs : List ℕ) : Type 0 where
    pub count : length xs ≡ n
    pub yields : Hold p t rows ↔ (Q × (cells_at t at n ≡ xs))

  pub tells-group : (f : Form) {E F L x : ℤ} (at : ℕ) {b k : ℕ} → zero < p → at + k ≤ length t → Congruent p (eval t f) x
      → DigitRule p b k E F L x → Tells (group f L at b k) at k (Spanned b k L x) (group_cells b k x L)
  tells-group f {E} {F} {L} {x} at {b} {k} h room c rule =
      let holds = group-holds p t f at h room c rule in
      record {
        count = length-group b k x L;
        yields = (λ e. let g = holds.0 e in ((g.0, g.1), g.2), λ e. holds.1 (e.0.0, e.0.1, e.1));
      }

  -- rows, and a group at the cells after theirs; what the rows say may serve for its digit rule
  pub tells_more : {rows : List Row} {at n : ℕ} {Q : Type 0} {xs : List ℕ} → Tells rows at n Q xs
      → (f : Form) {E F L x : ℤ} (next : ℕ) {b k : ℕ} (m : ℕ) → next ≡ at + n → m ≡ n + k → zero < p → at + m ≤ length t
      → Congruent p (eval t f) x → (Q → DigitRule p b k E F L x)
      → Tells (rows ++ group f L next b k) at m (Q × Spanned b k L x) (xs ++ group_cells b k x L)
  tells_more {rows} {at} {n} {Q} {xs} before f {E} {F} {L} {x} next {b} {k} m place width h room c rule =
      let all = hold-append p t rows (group f L next b k) in
      let old = before.yields in
      record {
        count = omega (arith, length_more xs b k x L, before.count);
        yields = (
          λ e. let g = all.0 e in
              let o = old.0 g.0 in
              let i = (own o.0).yields.0 g.1 in
              ((o.0, i.0), cells.1 (o.1, i.1)),
          λ e. let i = cells.0 e.1 in all.1 (old.1 (e.0.0, i.0), (own e.0.0).yields.1 (e.0.1, i.1)),
        );
      }
    where
      own : Q → Tells (group f L next b k) next k (Spanned b k L x) (group_cells b k x L)
      own q = tells-group f next h (omega arith) c (rule q)

      cells : (cells_at t at m ≡ xs ++ group_cells b k x L) ↔ ((cells_at t at n ≡ xs) × (cells_at t next k ≡ group_cells b k x L))
      cells = rw (width, place) (append-iff t at n k xs (group_cells b k x L) (omega arith) before.count)
