-- Numbers of one and of two digits, by the tests that tell them: how long they are, and of what they are written.
use mathlib.Core.Path.{◌≡◌, refl, sym, ap, ◌∙◌}
use mathlib.Core.Bool.{Bool, true, false, ◌&&◌}
use mathlib.Core.List.{◌∷◌}
use Prim.Native.Nat.{ℕ, suc, ◌-◌, ◌≤◌, ◌<◌}
use native.Mathlib.Omega.{arith}
use borrow.Author.Tests.{le-leb, ltb-true, ltb-false}
use mir.Syntax.{w64}
use mir.Val.{SFits}
use lib.Dec.{leb, ltb}
use lib.ListN.{length}
use lib.IntN.{ℤ, pos, negsuc, neg_ℤ, nat_abs}
use lib.Signed.{non_neg, le_z, lt_z, ◌≤ℤ◌, ◌<ℤ◌}
use Rattle.algebra.proofs.Test.{≡-test, left, right, le_z-iff, le_z-false}
use Rattle.algebra.proofs.Integer.Order.{integer}
use Rattle.meaning.specs.Number.{between}
use Rattle.meaning.specs.Text.{largest, decimal_of, number_text}
use Rattle.meaning.proofs.Decimal.{length-short, some-digit}
use Rattle.output.proofs.Digits.{two-digits}
use Rattle.std.specs.Prelude.{Some}
use Rattle.given_lines.specs.Line.{MoreBytesYield}
use Rattle.given_lines.proofs.Lengths.{number-most}

-- ---- a number that is not negative and below a limit

pub below-limit : (z : ℤ) (n : ℕ) → (non_neg z && ltb (nat_abs z) n) ≡ true → (z ≡ pos (nat_abs z)) × (nat_abs z < n)
below-limit (pos m) n t = (refl, ltb-true m n t)
below-limit (negsuc m) n t = absurd (≡-test false t)

pub not-below-limit : (m n : ℕ) → (non_neg (pos m) && ltb (nat_abs (pos m)) n) ≡ false → n ≤ m
not-below-limit m n f = ltb-false m n f

-- it is written by its size alone
pub plain-number : (z : ℤ) → z ≡ pos (nat_abs z) → number_text z ≡ decimal_of (nat_abs z)
unfolding number_text
plain-number z e = ap number_text e

-- ---- a negative number of one or two digits

module _ (z : ℤ) (short : (le_z (neg_ℤ (pos 99)) z && lt_z z (pos 0)) ≡ true) where
  low : neg_ℤ (pos 99) ≤ℤ z
  low = (le_z-iff (neg_ℤ (pos 99)) z).0 (left (le_z (neg_ℤ (pos 99)) z) (lt_z z (pos 0)) (≡-test _ short))

pub negation-of : (z : ℤ) → (le_z (neg_ℤ (pos 99)) z && lt_z z (pos 0)) ≡ true
    → SFits w64 (neg_ℤ z) × (pos 0 ≤ℤ neg_ℤ z) × (number_text z ≡ 45 ∷ decimal_of (nat_abs (neg_ℤ z)))
unfolding number_text
negation-of (pos n) short =
    let h : pos n <ℤ pos 0 = record { lt = right (le_z (neg_ℤ (pos 99)) (pos n)) (lt_z (pos n) (pos 0)) (≡-test _ short) } in
    absurd (omega integer)
negation-of (negsuc n) short =
    let h = low (negsuc n) short in
    (record { sfits = omega integer }, omega integer, refl)

-- ---- how many bytes more than two a number and its tab have

pub digit-bytes : (z : ℤ) → (non_neg z && ltb (nat_abs z) 10) ≡ true → MoreBytesYield z (Some 0)
digit-bytes z t =
    let below = below-limit z 10 t in
    (le-leb (nat_abs z) largest (omega (arith, below.1)), ap length (plain-number z below.0) ∙ length-short (nat_abs z) below.1, omega arith)

module _ (z : ℤ) (short : between (neg_ℤ (pos 99)) z (pos 99) ≡ true) where
  short-low : neg_ℤ (pos 99) ≤ℤ z
  unfolding between
  short-low = (le_z-iff (neg_ℤ (pos 99)) z).0 (left (le_z (neg_ℤ (pos 99)) z) (le_z z (pos 99)) (≡-test _ short))

  short-high : z ≤ℤ pos 99
  unfolding between
  short-high = (le_z-iff z (pos 99)).0 (right (le_z (neg_ℤ (pos 99)) z) (le_z z (pos 99)) (≡-test _ short))

-- two digits, or a sign and one digit
pub one_more : (z : ℤ) → (non_neg z && ltb (nat_abs z) 10) ≡ false → between (neg_ℤ (pos 99)) z (pos 99) ≡ true → le_z (neg_ℤ (pos 9)) z ≡ true
    → MoreBytesYield z (Some 1)
unfolding number_text
one_more (pos n) long short down =
    let high = short-high (pos n) short in
    let few : n ≤ 99 = omega integer in
    (le-leb n largest (omega arith), two-digits n (not-below-limit n 10 long) (omega arith), omega arith)
one_more (negsuc n) long short down =
    let low = (le_z-iff (neg_ℤ (pos 9)) (negsuc n)).0 (≡-test _ down) in
    let few : n ≤ 8 = omega integer in
    (le-leb (suc n) largest (omega arith), ap suc (length-short (suc n) (omega arith)), omega arith)

-- a sign and two digits
pub two-more : (z : ℤ) → between (neg_ℤ (pos 99)) z (pos 99) ≡ true → le_z (neg_ℤ (pos 9)) z ≡ false → MoreBytesYield z (Some 2)
unfolding number_text
two-more (pos n) short down = absurd (≡-test _ (sym down))
two-more (negsuc n) short down =
    let low = short-low (negsuc n) short in
    let high = le_z-false (neg_ℤ (pos 9)) (negsuc n) down in
    let few : n ≤ 98 = omega integer in
    let many : 9 ≤ n = omega integer in
    (le-leb (suc n) largest (omega arith), ap suc (two-digits (suc n) (omega arith) (omega arith)), omega arith)

some_byte : (z : ℤ) → 0 < length (number_text z)
unfolding number_text
some_byte (pos n) = some-digit n
some_byte (negsuc n) = omega arith

module _ (z : ℤ) {r : Bool} (tested : r ≡ leb (nat_abs z) largest) where
  -- any number, by its length
  pub more-sized : r ≡ true → SFits w64 z → {n : ℕ} → n ≡ length (number_text z) → (1 ≤ n) × MoreBytesYield z (Some (n - 1))
  more-sized t fits e =
      let some = some_byte z in
      (omega arith, (sym tested ∙ t, omega arith, omega (arith, number-most fits)))
