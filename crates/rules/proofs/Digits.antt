-- A base and a digit count: what rule 6 says of them as whole numbers, what the code's answer says, and the digit rule, whose shift -B
-- the code takes from b^(k-1).
use mathlib.Core.Path.{◌≡◌, refl, sym, ◌∙◌}
use mathlib.Core.Logic.{◌⊎◌, inl, inr, ⊎_elim}
use mathlib.Core.Bool.{Bool, true, false, cond, ◌&&◌}
use Prim.Native.Nat.{ℕ, zero, suc, ◌-◌, ◌*◌, ◌^◌, ◌≤◌, ◌<◌}
use native.Mathlib.Omega.{arith}
use native.Mathlib.Nat.{pow-zero, pow-suc, pow-le-pow_right, one-le-pow, mul-le-mul_left, one-mul, mul-one}
use lib.Dec.{T, leb, leb→le}
use lib.IntN.{ℤ, pos, negsuc, nat_abs}
use lib.Signed.{non_neg}
use mir.Syntax.{w64}
use mir.Val.{Fits}
use borrow.Author.Tests.{le-leb, lt-leb, leb-true, leb-false}
use Rattle.meaning.specs.Machine.{past_u32}
use Rattle.algebra.proofs.Test.{≡-test, left, right}
use Rattle.algebra.proofs.Digits.{less_one}
use Rattle.meaning.specs.Known.{Ends, digit_rule, top_part}
use Rattle.meaning.specs.Refusal.{is_digits, most_digits}
use Rattle.number.specs.Power.{capped_power}
use Rattle.number.proofs.Word.{wide-product}
use Rattle.number.proofs.Bounded.{bounded-negation}
use Rattle.number.proofs.CappedPower.{some-capped, none-capped, power-one}
use Rattle.std.specs.Prelude.{Option, Some, None, IfOk, IfErr}
use Rattle.std.specs.Option.{ok_or}
use Rattle.refusal.specs.declared.refused.Refusal.TheVariants.{DigitsTooWide}
use Rattle.rules.specs.Rule.{narrow}
use Rattle.rules.specs.Digits.{PowerWithin}

-- ---- what rule 6 says

pub record Allowed (b k : ℤ) : Type 0 where
  pub base-counts : T (non_neg b)
  pub base : 2 ≤ nat_abs b
  pub count-counts : T (non_neg k)
  pub one : 1 ≤ nat_abs k
  pub most : nat_abs k ≤ most_digits

allowed : (b k : ℤ) → T (is_digits (record { b = b; k = k })) → Allowed b k
unfolding is_digits
allowed (pos b) (pos k) t =
    let first : T (leb 2 b && leb 1 k) = left (leb 2 b && leb 1 k) (leb k most_digits) t in
    record {
      base-counts = tt;
      base = leb→le 2 b (left (leb 2 b) (leb 1 k) first);
      count-counts = tt;
      one = leb→le 1 k (right (leb 2 b) (leb 1 k) first);
      most = leb→le k most_digits (right (leb 2 b && leb 1 k) (leb k most_digits) t);
    }
allowed (pos b) (negsuc k) t = absurd (right (leb 2 b) false (left (leb 2 b && false) true t))
allowed (negsuc b) k t = absurd t

pub digits-allowed : (b k : ℤ) → is_digits (record { b = b; k = k }) ≡ true → Allowed b k
digits-allowed b k e = allowed b k (≡-test (is_digits (record { b = b; k = k })) e)

-- ---- c = b^k

module _ (p b k : ℕ) where
  within_by : (t : Bool) → leb (b ^ k) p ≡ t → 1 ≤ b → IfOk (ok_or (cond t (Some (b ^ k)) None) DigitsTooWide) (λ c. PowerWithin p b k c)
  within_by true e h = record { power = refl; positive = one-le-pow k b h; within = leb-true (b ^ k) p e }
  within_by false e h = tt

  above_by : (t : Bool) → leb (b ^ k) p ≡ t → IfErr (ok_or (cond t (Some (b ^ k)) None) DigitsTooWide) (λ broken. (broken ≡ DigitsTooWide) × (p < b ^ k))
  above_by true e = tt
  above_by false e = (refl, leb-false (b ^ k) p e)

  -- what `Digits::power` answers
  pub power_within : 1 ≤ b → IfOk (ok_or (capped_power b k p) DigitsTooWide) (λ c. PowerWithin p b k c)
  unfolding capped_power
  power_within h = within_by (leb (b ^ k) p) refl h

  pub power_above : IfErr (ok_or (capped_power b k p) DigitsTooWide) (λ broken. (broken ≡ DigitsTooWide) × (p < b ^ k))
  unfolding capped_power
  power_above = above_by (leb (b ^ k) p) refl

-- the same of `capped_power` alone
module _ (p b k : ℕ) {r : Option ℕ} where
  pub short-power : {c : ℕ} → 1 ≤ b → r ≡ capped_power b k p → r ≡ Some c → PowerWithin p b k c
  short-power {c} h yields q =
      let w = some-capped b k p c (sym q ∙ yields) in
      let l : 1 ≤ b ^ k = one-le-pow k b h in
      record { power = w.0; positive = omega arith; within = omega arith }

  pub shorter-above : r ≡ capped_power b k p → r ≡ None → p < b ^ k
  shorter-above yields q = none-capped b k p (sym q ∙ yields)

-- ---- the digit rule

module _ (p b k : ℕ) (es : Ends) (shift : ℤ) where
  pub rule-above : p < b ^ k → digit_rule p b k es shift ≡ false
  unfolding digit_rule
  rule-above h = rw (lt-leb (b ^ k) p h)

  pub rule-within : {c : ℕ} → PowerWithin p b k c → digit_rule p b k es shift ≡ narrow p c es shift
  unfolding digit_rule
  rule-within {c} r = let h : b ^ k ≤ p = omega (arith, r.power, r.within) in rw (r.power, le-leb (b ^ k) p h)

-- where c is above p, and where it is at most p
pub ruleset digit_rules = (rule-above, rule-within)

-- ---- B, from part = b^(k-1)

power-step : (b k : ℕ) → 1 ≤ k → b ^ (k - 1) * b ≡ b ^ k
power-step b zero h = absurd (omega arith)
power-step b (suc k) h = let count : suc k - 1 ≡ k = omega arith in rw count (sym (pow-suc b k))

pub step-above : (p b k : ℕ) → 1 ≤ b → p < b ^ (k - 1) → p < b ^ k
step-above p b k h l = let most : b ^ (k - 1) ≤ b ^ k = pow-le-pow_right h (omega arith) in omega arith

-- part is 1 where k is 1; else it has b as a factor
short-or-wide : (b k : ℕ) → 1 ≤ b → 1 ≤ k → (b ^ (k - 1) ≡ 1) ⊎ (b ≤ b ^ (k - 1))
short-or-wide b zero h l = absurd (omega arith)
short-or-wide b (suc zero) h l = inl (pow-zero b)
short-or-wide b (suc (suc k)) h l =
    let most : b ^ 1 ≤ b ^ (suc (suc k) - 1) = pow-le-pow_right h (omega arith) in inr (omega (arith, power-one b))

module _ {p b k part : ℕ} (base : 1 ≤ b) (one : 1 ≤ k) (r : PowerWithin p b (k - 1) part) where
  pub part-power : part * b ≡ b ^ k
  part-power = rw r.power (power-step b k one)

  pub part-within : part * b ≤ p → PowerWithin p b k (part * b)
  part-within h = let l : 1 ≤ b ^ k = one-le-pow k b base in record { power = part-power; positive = omega (arith, part-power); within = h }

  pub part-less : part ≤ part * b
  part-less = let l : part * 1 ≤ part * b = mul-le-mul_left part base in omega (arith, mul-one part)

  pub top-part : part * b - part ≡ top_part b k
  unfolding top_part
  top-part = rw r.power (less_one b (b ^ (k - 1)) base)

  pub part-fits : p < past_u32 → Fits w64 b → Fits w64 (part * b)
  part-fits h f =
      ⊎_elim
      (λ e. let unit : part ≡ 1 = r.power ∙ e in rw (unit, one-mul b) f)
      (λ l. wide-product {a = part} {b = b} (omega (arith, r.within)) (omega (arith, r.power, r.within)))
      (short-or-wide b k base one)

pub ruleset sign_rules = (rule-above, rule-within, step-above, part-power, part-within, part-less, top-part, part-fits, bounded-negation)
