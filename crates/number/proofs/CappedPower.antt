-- Powers and a cap: what each answer of `capped_power` says, for a caller that takes them apart, the powers of 0 and 1, and the turns of its loop.
use mathlib.Core.Path.{◌≡◌, refl, sym, ap, ◌∙◌}
use mathlib.Core.Bool.{Bool, true, false, cond}
use Prim.Native.Nat.{ℕ, zero, suc, ◌+◌, ◌*◌, ◌/◌, ◌%◌, ◌^◌, ◌≤◌, ◌<◌}
use native.Mathlib.Omega.{arith}
use native.Mathlib.Nat.{one-mul, mul-one, mul_assoc, mul-le-mul, mul-le-mul_left, pow-zero, pow-suc, pow-le-pow_right, one-le-pow}
use lib.Pow.{pow-add}
use lib.Dec.{leb}
use borrow.Author.Tests.{le-leb, lt-leb, leb-true, leb-false}
use Rattle.std.specs.Prelude.{Some, None}
use Rattle.number.specs.Power.{capped_power}

pub some-within : (b k cap c : ℕ) → c ≡ b ^ k → c ≤ cap → Some c ≡ capped_power b k cap
unfolding capped_power
some-within b k cap c e h = rw (e, le-leb (b ^ k) cap (rw e at h))

pub none-above : (b k cap : ℕ) → cap < b ^ k → None ≡ capped_power b k cap
unfolding capped_power
none-above b k cap h = rw (lt-leb (b ^ k) cap h)

-- and what each answer says, for a caller that takes them apart
some-cond : (t : Bool) (n c : ℕ) → Some c ≡ cond t (Some n) None → (c ≡ n) × (t ≡ true)
some-cond true n c e = (cc, refl)
some-cond false n c e = let z : ◌≡◌ {A = ℕ} 0 1 = cc in absurd (omega arith)

none-cond : (t : Bool) (n : ℕ) → None ≡ cond t (Some n) None → t ≡ false
none-cond true n e = let z : ◌≡◌ {A = ℕ} 0 1 = cc in absurd (omega arith)
none-cond false n e = refl

pub some-capped : (b k cap c : ℕ) → Some c ≡ capped_power b k cap → (c ≡ b ^ k) × (b ^ k ≤ cap)
unfolding capped_power
some-capped b k cap c e = let w = some-cond (leb (b ^ k) cap) (b ^ k) c e in (w.0, leb-true (b ^ k) cap w.1)

pub none-capped : (b k cap : ℕ) → None ≡ capped_power b k cap → cap < b ^ k
unfolding capped_power
none-capped b k cap e = leb-false (b ^ k) cap (none-cond (leb (b ^ k) cap) (b ^ k) e)

-- 0 and 1 are their own powers, but for the power 0
pub low-power : (b k : ℕ) → b ≤ 1 → (k ≡ 0 → ⊥) → b ≡ b ^ k
low-power b zero h n = absurd (n refl)
low-power zero (suc k) h n = omega (arith, pow-suc 0 k)
low-power (suc zero) (suc zero) h n = refl
low-power (suc zero) (suc (suc k)) h n = omega (arith, pow-suc 1 (suc k), low-power 1 (suc k) h (λ e. omega arith))
low-power (suc (suc b)) (suc k) h n = absurd (omega arith)

-- ---- by squares

pub power-one : (x : ℕ) → x ^ 1 ≡ x
power-one x = pow-suc x 0 ∙ ap (λ m. m * x) (pow-zero x) ∙ one-mul x

square-power : (x m : ℕ) → (x * x) ^ m ≡ x ^ m * x ^ m
square-power x zero = rw (pow-zero (x * x), pow-zero x) refl
square-power x (suc m) = rw (pow-suc (x * x) m, pow-suc x m, square-power x m) (omega arith)

halved : (x n : ℕ) → x ^ n ≡ x ^ (n % 2) * (x * x) ^ (n / 2)
halved x n = ap (λ m. x ^ m) parts ∙ pow-add x (n % 2) (n / 2 + n / 2) ∙ ap (λ m. x ^ (n % 2) * m) (pow-add x (n / 2) (n / 2) ∙ sym (square-power x (n / 2)))
  where
    parts : n ≡ n % 2 + (n / 2 + n / 2)
    parts = omega arith

-- what is left to do: b ^ k is c · base ^ n
pub record PowerLeft (b k cap c base n : ℕ) : Type 0 where
  pub product : c * base ^ n ≡ b ^ k
  pub positive : 1 ≤ c
  pub within : c ≤ cap
  pub base-positive : 1 ≤ base

module _ {b k cap : ℕ} where
  pub left-start : 1 ≤ b → 1 ≤ cap → PowerLeft b k cap 1 b k
  left-start h l = record { product = one-mul (b ^ k); positive = omega arith; within = l; base-positive = h }

  module _ {c base n : ℕ} (l : PowerLeft b k cap c base n) where
    pub left_end : n ≡ 0 → c ≡ b ^ k
    left_end e = sym (mul-one c) ∙ ap (λ m. c * m) (sym (ap (λ m. base ^ m) e ∙ pow-zero base)) ∙ l.product

    pub base_above : 0 < n → cap < base → cap < b ^ k
    base_above h a =
        let one : base ^ 1 ≡ base = power-one base in
        let most : base ^ 1 ≤ base ^ n = pow-le-pow_right l.base-positive h in
        omega (arith, l.product, mul-le-mul l.positive most)

    module _ {factor : ℕ} (is : factor ≡ base ^ (n % 2)) where
      next : c * factor * (base * base) ^ (n / 2) ≡ b ^ k
      next = mul_assoc c factor ((base * base) ^ (n / 2)) ∙ ap (λ m. c * m) (ap (λ m. m * (base * base) ^ (n / 2)) is ∙ sym (halved base n)) ∙ l.product

      square-positive : 1 ≤ base * base
      square-positive = mul-le-mul l.base-positive l.base-positive

      pub product-above : cap < c * factor → cap < b ^ k
      product-above a = omega (arith, next, mul-le-mul_left (c * factor) (one-le-pow (n / 2) (base * base) square-positive))

      pub left-turn : c * factor ≤ cap → PowerLeft b k cap (c * factor) (base * base) (n / 2)
      left-turn h =
          let f : 1 ≤ factor = rw is (one-le-pow (n % 2) base l.base-positive) in
          record { product = next; positive = mul-le-mul l.positive f; within = h; base-positive = square-positive }
