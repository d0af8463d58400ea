-- `number::power::capped_power`: in each turn `Left` says what is left to do. Where the base, or c with one factor more, is above the cap, so
-- is the power.
use mathlib.Core.Path.{◌≡◌, sym, ap, ◌∙◌}
use Prim.Native.Nat.{◌%◌, ◌^◌, ◌≤◌, ◌<◌}
use native.Mathlib.Omega.{arith}
use native.Mathlib.Nat.{pow-zero, pow-le-pow_right}
use Rattle.meaning.specs.Machine.{past_u32}
use Rattle.number.proofs.Word.{wide-product}
use Rattle.number.proofs.CappedPower.{some-within, none-above, low-power, power-one, left-start, left_end, base_above, product-above, left-turn}
use Rattle.number.proofs.power.capped_power.Goals as goal
use Rattle.number.proofs.power.capped_power.Goals.{Joined-k-eq0, Joined-n-eq1, then-k-eq0, else-k-eq0, then-n-eq1, else-n-eq1}

-- below 2, c is the power, by either arm
low : (c : Joined-k-eq0) → c.if-k-eq0.c ≡ c.args.b ^ c.args.k
low c =
    let b = c.args.b in
    let k = c.args.k in
    elim c.if-k-eq0.branch [ then-k-eq0 w ↦ w.c-is ∙ sym (ap (λ n. b ^ n) w.if-k-eq0.true ∙ pow-zero b) | else-k-eq0 w ↦ w.c-is ∙ low-power b k c.if-b-le1.true w.if-k-eq0.false ]

pub returns-then-c-most : goal.returns-then-c-most
returns-then-c-most c = some-within _ _ _ _ (low (goal.at.returns-then-c-most c).Joined-k-eq0) (rw c.from-most.ensures at c.if-c-most.true)

pub returns-else-c-most : goal.returns-else-c-most
returns-else-c-most c = none-above _ _ _ (rw (← low (goal.at.returns-else-c-most c).Joined-k-eq0, ← c.from-most.ensures) c.if-c-most.false)

pub returns-then-most-eq0 : goal.returns-then-most-eq0
returns-then-most-eq0 c =
    let a = c.args in
    let h : 0 < a.b = omega arith in
    let l : a.b ^ 0 ≤ a.b ^ a.k = pow-le-pow_right h (omega arith) in
    none-above _ _ _ (omega (arith, pow-zero a.b))

pub loop-n-init : goal.loop-n-init
loop-n-init c = left-start (omega arith) (omega arith)

pub returns-then-most-base : goal.returns-then-most-base
returns-then-most-base c = none-above _ _ _ (base_above c.loop-n.invariant c.loop-n-test.true (rw c.from-most.ensures at c.if-most-base.true))

-- the factor of the turn, by either arm
factor : (c : Joined-n-eq1) → let now = c.loop-n in c.if-n-eq1.factor ≡ now.base ^ (now.n % 2)
factor c =
    let now = c.loop-n in
    elim c.if-n-eq1.branch [ then-n-eq1 w ↦ w.factor-is ∙ sym (ap (λ m. now.base ^ m) w.if-n-eq1.true ∙ power-one now.base) | else-n-eq1 w ↦ let even : now.n % 2 ≡ 0 = omega (arith, w.if-n-eq1.false) in w.factor-is ∙ sym (ap (λ m. now.base ^ m) even ∙ pow-zero now.base) ]

factor-small : (c : Joined-n-eq1) → c.if-n-eq1.factor < past_u32
factor-small c = elim c.if-n-eq1.branch [ then-n-eq1 w ↦ rw w.factor-is (omega arith) | else-n-eq1 w ↦ rw w.factor-is (omega arith) ]

pub overflow_mul-c : goal.overflow_mul-c
overflow_mul-c c = let left = c.loop-n.invariant in wide-product (omega (arith, left.within)) (factor-small (goal.at.overflow_mul-c c).Joined-n-eq1)

pub returns-then-most-c : goal.returns-then-most-c
returns-then-most-c c =
    none-above _ _ _ (product-above c.loop-n.invariant (factor (goal.at.returns-then-most-c c).Joined-n-eq1) (rw c.from-most.ensures at c.if-most-c.true))

pub overflow_mul-base : goal.overflow_mul-base
overflow_mul-base c = wide-product (omega arith) (omega arith)

pub loop-n-preserved : goal.loop-n-preserved
loop-n-preserved c =
    left-turn c.loop-n.invariant (factor (goal.at.loop-n-preserved c).Joined-n-eq1) (rw c.from-most.ensures at c.if-most-c.false)

pub returns : goal.returns
returns c = let left = c.loop-n.invariant in some-within _ _ _ _ (left_end left (omega arith)) left.within
