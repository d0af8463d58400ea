-- The rows of a digit group: the test of a digit, and the digits' value, from the lowest digit on.
use mathlib.Core.Path.{◌≡◌, refl, sym, ap, ◌∙◌}
use mathlib.Core.List.{List, [], ◌∷◌, ◌++◌}
use mathlib.Core.Bool.{Bool, true, false, cond}
use mathlib.Core.Option.{Option, none, some}
use Prim.Native.Nat.{ℕ, suc, ◌+◌, ◌-◌, ◌*◌, ◌^◌, ◌≤◌, ◌<◌}
use native.Mathlib.Omega.{arith}
use native.Mathlib.Numerals.{add-one}
use native.Mathlib.Nat.{add-zero, one-mul, mul-zero, mul-le-mul_right, pow-suc, pow-le-pow_right}
use lib.ListN.{length, get_or}
use lib.IntN.{ℤ, ◌-ℤ◌}
use lib.Dec.{eqb}
use borrow.Author.Tests.{lt-ltb, le-ltb}
use Rattle.std.specs.Ordering.{is_ge, nat_cmp}
use Rattle.std.proofs.lemmas.Bool.Decides.{nat_tests}
use Rattle.algebra.specs.Digits.{value}
use Rattle.algebra.proofs.Congruence.{remainder-of-residue}
use Rattle.meaning.specs.Number.{remainder}
use Rattle.meaning.specs.Row.{Form, Row, constant, ◌⊖◌, ◌≅◌, eval, holds, digit_rows, place_values, group}
use Rattle.meaning.specs.Reply.{Reply, reply, first_fail, refusal_at}
use Rattle.meaning.proofs.Cells.{cells_at, cells_at-zero, cells_at-suc}
use Rattle.meaning.proofs.Group.{places-value}
use Rattle.meaning.proofs.RowCounts.{length-digit_rows, length-group_rows}
use Rattle.groups.specs.Rows.{Leaves, first_of, first_refusal}
use Rattle.groups.proofs.RowsFirst.{first-none, first-row, first_rows}

-- ---- a digit

-- d is read from the cell of the digit of number i, and is a digit in base b
pub record DigitRead (t : List ℕ) (at b i d : ℕ) : Type 0 where
  pub is : d ≡ get_or t (at + i) 0
  pub below : d < b

lt_from_not_ge : (a b : ℕ) → is_ge (nat_cmp a b) ≡ false → a < b
lt_from_not_ge a b h = grind (arith, nat_tests)

ge_from_ge : (a b : ℕ) → is_ge (nat_cmp a b) ≡ true → b ≤ a
ge_from_ge a b h = grind (arith, nat_tests)

module _ (t : List ℕ) (at b i : ℕ) {cell d base : ℕ} {fails : Bool} (place : cell ≡ at + i) (read : d ≡ get_or t cell 0) (base-is : base ≡ b)
    (test : fails ≡ is_ge (nat_cmp d base)) where
  pub digit-read : fails ≡ false → DigitRead t at b i d
  digit-read e = record { is = rw place at read; below = lt_from_not_ge d b (rw base-is at (sym test ∙ e)) }

  pub digit-great : fails ≡ true → b ≤ get_or t (at + i) 0
  digit-great e = rw (rw place at read) at (ge_from_ge d b (rw base-is at (sym test ∙ e)))

-- ---- the rows of the digits from the one of number i on

module _ (p : ℕ) (t : List ℕ) (first at b k : ℕ) where
  pub digit-passes : (i : ℕ) {d : ℕ} → i < k → DigitRead t at b i d
      → first_refusal (holds p t) (first + i) (digit_rows (at + i) b (k - i))
      ≡ first_refusal (holds p t) (first + (i + 1)) (digit_rows (at + (i + 1)) b (k - (i + 1)))
  unfolding first_fail digit_rows holds
  digit-passes i h read =
      let e : k - i ≡ suc (k - (i + 1)) = omega arith in
      let u : at + (i + 1) ≡ suc (at + i) = omega arith in
      let v : first + (i + 1) ≡ suc (first + i) = omega arith in
      rw (e, u, v, ← read.is, lt-ltb _ _ read.below) refl

  pub digit-fails : (i : ℕ) → i < k → b ≤ get_or t (at + i) 0
      → first_refusal (holds p t) (first + i) (digit_rows (at + i) b (k - i)) ≡ some (reply 15 (first + i))
  unfolding first_fail refusal_at digit_rows holds
  digit-fails i h l =
      let e : k - i ≡ suc (k - (i + 1)) = omega arith in
      rw (e, le-ltb _ _ l) refl

  -- the digits of the numbers i and i + 1, of which the second comes to be looked at where the first passes
  module _ (i : ℕ) {d : ℕ} (h : i + 1 < k) (low : DigitRead t at b i d) where
    pub two-pass : {e : ℕ} → DigitRead t at b (i + 1) e
        → first_refusal (holds p t) (first + i) (digit_rows (at + i) b (k - i))
        ≡ first_refusal (holds p t) (first + (i + 2)) (digit_rows (at + (i + 2)) b (k - (i + 2)))
    two-pass high =
        let u : i + 1 + 1 ≡ i + 2 = omega arith in
        digit-passes i (omega arith) low ∙ rw u at (digit-passes (i + 1) h high)

    pub second-fails : b ≤ get_or t (at + (i + 1)) 0
        → first_refusal (holds p t) (first + i) (digit_rows (at + i) b (k - i)) ≡ some (reply 15 (first + i + 1))
    second-fails high =
        let v : first + i + 1 ≡ first + (i + 1) = omega arith in
        digit-passes i (omega arith) low ∙ rw v (digit-fails (i + 1) h high)

  digits-end : (i : ℕ) → k ≤ i → first_refusal (holds p t) (first + i) (digit_rows (at + i) b (k - i)) ≡ none
  unfolding first_fail refusal_at digit_rows
  digits-end i h = let e : k - i ≡ 0 = omega arith in rw e refl

-- ---- the digits' value

-- part is b ^ i, and v is the value of the first i digits: with that of the digits from there on, part times, it makes the whole value
pub record PowerSum (t : List ℕ) (at b k i v part : ℕ) : Type 0 where
  pub part-is : part ≡ b ^ i
  pub below : v < part
  pub whole : value b (cells_at t at k) ≡ v + part * value b (cells_at t (at + i) (k - i))

module _ (t : List ℕ) (at b k : ℕ) where
  pub meaning-next : {i v part d : ℕ} → PowerSum t at b k i v part → at + k ≤ length t → i < k → DigitRead t at b i d
      → PowerSum t at b k (i + 1) (v + d * part) (part * b)
  unfolding value
  meaning-next {i} {v} {part} {d} s room h read =
      let e : k - i ≡ suc (k - (i + 1)) = omega arith in
      let u : suc (at + i) ≡ at + (i + 1) = omega arith in
      let rest : value b (cells_at t (at + i) (k - i)) ≡ d + b * value b (cells_at t (at + (i + 1)) (k - (i + 1))) =
      rw (e, cells_at-suc t (at + i) (k - (i + 1)) (omega arith), u, read.is) refl in
      let m : d + 1 ≤ b = omega (arith, read.below) in
      record {
        part-is = rw (add-one, pow-suc) (ap (λ n. n * b) s.part-is);
        below = omega (arith, mul-le-mul_right part m, s.below);
        whole = s.whole ∙ rw rest (omega arith);
      }

  -- two digits at once, the second of which counts b times as much as the first
  pub meaning-two : {i v part low high : ℕ} → PowerSum t at b k i v part → at + k ≤ length t → i + 1 < k → DigitRead t at b i low
      → DigitRead t at b (i + 1) high → PowerSum t at b k (i + 2) (v + (low + high * b) * part) (part * (b * b))
  meaning-two {i} {v} {part} {low} {high} s room h first second =
      let u : i + 2 ≡ i + 1 + 1 = omega arith in
      let sum : v + (low + high * b) * part ≡ v + low * part + high * (part * b) = omega arith in
      let power : part * (b * b) ≡ part * b * b = omega arith in
      rw (u, sum, power) (meaning-next (meaning-next s room (omega arith) first) room h second)

  -- so far as k digits nothing is above b ^ k
  pub meaning-most : {i v part : ℕ} → PowerSum t at b k i v part → 0 < b → i ≤ k → part ≤ b ^ k
  meaning-most s h l = rw s.part-is (pow-le-pow_right h l)

  meaning-all : (p : ℕ) {i v part : ℕ} → PowerSum t at b k i v part → at + k ≤ length t → i ≡ k → b ^ k ≤ p → Leaves p t v (place_values 1 at b k)
  unfolding value
  meaning-all p {i} {v} {part} s room e h =
      let u : k - i ≡ 0 = omega arith in
      let whole : value b (cells_at t at k) ≡ v = s.whole ∙ rw (u, cells_at-zero t (at + i), mul-zero, add-zero) refl in
      let l : v < p = omega (arith, s.below, s.part-is ∙ ap (λ n. b ^ n) e) in
      record { below = l; is = rw (places-value p t 1 at b k room, one-mul, whole) (sym (remainder-of-residue p v l)) }

-- ---- the group

module _ (p : ℕ) (t : List ℕ) (f : Form) (L : ℤ) (first at b k : ℕ) where
  abbrev last_row : List Row
  last_row = f ⊖ constant L ≅ place_values 1 at b k ∷ []

  group-split : {r digits last : Option Reply} → r ≡ first_of digits last → digits ≡ first_refusal (holds p t) first (digit_rows at b k)
      → last ≡ first_refusal (holds p t) (first + k) last_row → r ≡ first_refusal (holds p t) first (group f L at b k)
  unfolding group
  group-split = first_rows (holds p t) first (first + k) (digit_rows at b k) last_row (omega (arith, length-digit_rows at b k))

  -- a digit that fails is the answer
  pub group-fails : {failed : Reply} → some failed ≡ first_refusal (holds p t) first (digit_rows at b k)
      → some failed ≡ first_refusal (holds p t) first (group f L at b k)
  unfolding first_of
  group-fails d = group-split refl d refl

  -- else it is that of the last row
  group-answer : {number v : ℕ} {r : Option Reply} → remainder p (eval t f -ℤ L) ≡ number → Leaves p t v (place_values 1 at b k)
      → none ≡ first_refusal (holds p t) first (digit_rows at b k) → r ≡ cond (eqb number v) none (some (reply 15 (first + k)))
      → r ≡ first_refusal (holds p t) first (group f L at b k)
  unfolding first_of holds eval
  group-answer {number} {v} e l d w = group-split refl d
      (first-row (holds p t) (first + k) (suc (first + k)) (f ⊖ constant L ≅ place_values 1 at b k) [] refl test w
      (first-none (holds p t) (suc (first + k))))
    where
      test : eqb number v ≡ holds p t (f ⊖ constant L ≅ place_values 1 at b k)
      test = rw (e, ← l.is) refl

  -- where k digits were looked at, their value is tested
  pub group-meaning : {i number v part : ℕ} {r : Option Reply} → i ≡ k → at + k ≤ length t → b ^ k ≤ p → remainder p (eval t f -ℤ L) ≡ number
      → PowerSum t at b k i v part
      → first_refusal (holds p t) first (digit_rows at b k) ≡ first_refusal (holds p t) (first + i) (digit_rows (at + i) b (k - i))
      → r ≡ cond (eqb number v) none (some (reply 15 (first + k))) → r ≡ first_refusal (holds p t) first (group f L at b k)
  group-meaning {i} all room h e s digits =
      group-answer e (meaning-all t at b k p s room all h) (sym (digits ∙ digits-end p t first at b k i (omega arith)))

-- a group, and then other rows, the first of which has the number m
pub group-then : (p : ℕ) (t : List ℕ) (n m : ℕ) (f : Form) (L : ℤ) (at b k : ℕ) (rows : List Row) {r digits later : Option Reply}
    → m ≡ n + suc k → r ≡ first_of digits later → digits ≡ first_refusal (holds p t) n (group f L at b k) → later ≡ first_refusal (holds p t) m rows
    → r ≡ first_refusal (holds p t) n (group f L at b k ++ rows)
group-then p t n m f L at b k rows h = first_rows (holds p t) n m (group f L at b k) rows (omega (arith, length-group_rows f L at b k))
