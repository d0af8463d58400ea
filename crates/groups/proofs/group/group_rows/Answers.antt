-- `groups::group::group_rows`: the digits of the turns before pass, `value` is theirs, and what is left to test says what the whole test says.
use mathlib.Core.Path.{◌≡◌, sym, ◌∙◌}
use Prim.Native.Nat.{ℕ, ◌+◌, ◌-◌, ◌*◌, ◌≤◌, ◌<◌}
use native.Mathlib.Omega.{arith}
use native.Mathlib.Nat.{le-mul_of_pos_right}
use Rattle.groups.specs.Cells.{power_bound}
use Rattle.groups.proofs.RowsGroup.{DigitRead, digit-read, digit-great}
use Rattle.groups.proofs.RowsGroup.{digit-passes, digit-fails, two-pass, second-fails}
use Rattle.groups.proofs.RowsGroup.{PowerSum, meaning-next, meaning-two, meaning-most, group-fails, group-meaning}
use Rattle.groups.proofs.group.group_rows.Goals as goal
use Rattle.groups.proofs.group.group_rows.Goals.{Else-ge-2, Else-ge-3, then-digits-eq1+else-ge-3, else-digits-eq1}

pub returns-then-ge : goal.returns-then-ge
returns-then-ge c p f L h e =
    let s = c.args in
    let b = s.digits.base in
    let k = s.digits.count in
    let i = 2 * c.loop-pair.pair in
    let great = digit-great s.table.now s.at.0 b i c.after.ensures c.residue_at-low.ensures c.from-base.ensures c.ge.ensures c.if-ge.true in
    group-fails p s.table.now f L s.first s.at.0 b k
    (sym (c.loop-pair.invariant.1 p ∙ digit-fails p s.table.now s.first s.at.0 b k i (omega (arith, c.loop-pair-test.true)) great))

-- the first digit of a turn, where it passes
low_read : (c : Else-ge-2) → let s = c.args in
    DigitRead s.table.now s.at.0 s.digits.base (2 * c.loop-pair.pair) c.residue_at-low.result.0
low_read c =
    let s = c.args in
    digit-read s.table.now s.at.0 s.digits.base _ c.after.ensures c.residue_at-low.ensures c.from-base.ensures c.ge.ensures c.if-ge.false

pub returns-then-ge-2 : goal.returns-then-ge-2
returns-then-ge-2 c p f L h e =
    let s = c.args in
    let b = s.digits.base in
    let k = s.digits.count in
    let i = 2 * c.loop-pair.pair in
    let great = digit-great s.table.now s.at.0 b (i + 1) c.after-in-loop-pair.ensures c.residue_at-high.ensures c.from-base.ensures c.ge-in-loop-pair.ensures c.if-ge-2.true in
    let low = digit-read s.table.now s.at.0 b i c.after.ensures c.residue_at-low.ensures c.from-base.ensures c.ge.ensures c.if-ge.false in
    let fails = second-fails p s.table.now s.first s.at.0 b k i (omega (arith, c.loop-pair-test.true)) low great in
    group-fails p s.table.now f L s.first s.at.0 b k (sym (c.loop-pair.invariant.1 p ∙ fails))

-- and the second
high_read : (c : Else-ge-2) → let s = c.args in
    DigitRead s.table.now s.at.0 s.digits.base (2 * c.loop-pair.pair + 1) c.residue_at-high.result.0
high_read c =
    let s = c.args in
    digit-read s.table.now s.at.0 s.digits.base _ c.after-in-loop-pair.ensures c.residue_at-high.ensures c.from-base.ensures c.ge-in-loop-pair.ensures c.if-ge-2.false

-- the value of the two digits of a turn, and the sum so far after them where both pass
abbrev two : Else-ge-2 → ℕ
two c =
    c.residue_at-low.result.0 + c.residue_at-high.result.0 * c.args.digits.base

more : (c : Else-ge-2) → 2 * c.loop-pair.pair + 1 < c.args.digits.count
more c = omega (arith, c.loop-pair-test.true)

meaning : (c : Else-ge-2) → let now = c.loop-pair in
    let s = c.args in
    PowerSum s.table.now s.at.0 s.digits.base s.digits.count (2 * now.pair + 2) (now.value.0 + two c * now.part) (now.part * (s.digits.base * s.digits.base))
meaning c =
    let s = c.args in
    meaning-two s.table.now s.at.0 s.digits.base s.digits.count c.loop-pair.invariant.0 c.requires.0 (more c) (low_read c) (high_read c)

most : (c : Else-ge-2) → let s = c.args in
    c.loop-pair.part * (s.digits.base * s.digits.base) ≤ power_bound
most c =
    let s = c.args in
    let g = s.digits.group in
    omega (arith, meaning-most s.table.now s.at.0 s.digits.base s.digits.count (meaning c) (omega (arith, g.base)) (omega (arith, more c)), g.small)

-- what is multiplied by part is no more than the product
part-counts : (c : Else-ge-2) (n : ℕ) → n ≤ n * c.loop-pair.part
part-counts c n = le-mul_of_pos_right n (omega (arith, c.loop-pair.invariant.0.below))

pub with_digit-requires : goal.with_digit-requires
with_digit-requires c = omega (arith, part-counts c (two c), (meaning c).below, most c)

pub with_digit-value-requires : goal.with_digit-value-requires
with_digit-value-requires c =
    let passed = (goal.at.with_digit-value-requires c).Else-ge-2 in
    rw c.with_digit.ensures (omega (arith, (meaning passed).below, most passed))

pub overflow_mul-part : goal.overflow_mul-part
overflow_mul-part c =
    let passed = (goal.at.overflow_mul-part c).Else-ge-2 in
    omega (arith, part-counts passed (c.args.digits.base * c.args.digits.base), most passed)

pub overflow_mul-part-in-loop-pair : goal.overflow_mul-part-in-loop-pair
overflow_mul-part-in-loop-pair c = omega (arith, most (goal.at.overflow_mul-part-in-loop-pair c).Else-ge-2)

pub loop-pair-preserved : goal.loop-pair-preserved
loop-pair-preserved c =
    let passed = (goal.at.loop-pair-preserved c).Else-ge-2 in
    let s = c.args in
    let next : 2 * (c.loop-pair.pair + 1) ≡ 2 * c.loop-pair.pair + 2 = omega arith in
    rw next (
      rw (c.with_digit-value.ensures, c.with_digit.ensures) (meaning passed),
      λ p. c.loop-pair.invariant.1 p ∙ two-pass p s.table.now s.first s.at.0 s.digits.base s.digits.count (2 * c.loop-pair.pair) (more passed) (low_read passed) (high_read passed),
    )

-- a last digit
pub returns-then-ge-3 : goal.returns-then-ge-3
returns-then-ge-3 c p f L h e =
    let s = c.args in
    let b = s.digits.base in
    let k = s.digits.count in
    let i = 2 * c.loop-pair.pair in
    let last : s.first + (k - 1) ≡ s.first + i = omega (arith, c.loop-pair-test.false, c.if-digits-eq1.true) in
    let place : c.after-then-digits-eq1.result.0 ≡ s.at.0 + i = omega (arith, c.after-then-digits-eq1.ensures, last) in
    let great = digit-great s.table.now s.at.0 b i place c.residue_at-last.ensures c.from-base.ensures c.ge-then-digits-eq1.ensures c.if-ge-3.true in
    rw last (group-fails p s.table.now f L s.first s.at.0 b k
    (sym (c.loop-pair.invariant.1 p ∙ digit-fails p s.table.now s.first s.at.0 b k i (omega (arith, last, s.digits.group.some-digit)) great)))

pub returns : goal.returns
returns c p f L h e =
    let now = c.loop-pair in
    let s = c.args in
    let t = s.table.now in
    let b = s.digits.base in
    let k = s.digits.count in
    let i = 2 * now.pair in
    let tested = rw c.eq.ensures at c.row_before.ensures in
    elim c.if-digits-eq1.branch [
      | then-digits-eq1+else-ge-3 w ↦ let one : i + 1 ≡ k = omega (arith, c.loop-pair-test.false, w.if-digits-eq1.true) in
          let digit = digit-read t s.at.0 b i (omega (arith, w.after-then-digits-eq1.ensures, one)) w.residue_at-last.ensures c.from-base.ensures w.ge-then-digits-eq1.ensures w.if-ge-3.false in
          group-meaning p t f L s.first s.at.0 b k {i = i + 1} one c.requires.0 h e
          (meaning-next t s.at.0 b k now.invariant.0 c.requires.0 (omega (arith, one)) digit)
          (now.invariant.1 p ∙ digit-passes p t s.first s.at.0 b k i (omega (arith, one)) digit) (rw (w.value-is, w.with_digit-value-then-digits-eq1.ensures) at tested)
      | else-digits-eq1 w ↦ group-meaning p t f L s.first s.at.0 b k {i = i} (omega (arith, c.loop-pair-test.false, w.if-digits-eq1.false)) c.requires.0 h e now.invariant.0 (now.invariant.1 p)
          (rw w.value-is at tested)
    ]
