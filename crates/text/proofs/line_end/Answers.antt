-- No separator stands from `at` to `i`; in a turn the four bytes from `i` on are passed one by one.
use Prim.Native.Nat.{◌+◌}
use native.Mathlib.Omega.{arith}
use Rattle.text.proofs.Places.{Searched, search-past, search-here}
use Rattle.text.proofs.line_end.Goals as goal
use Rattle.text.proofs.line_end.Goals.{Else-text-i-eq-LINE_END, Else-text-i-eq-LINE_END-2, Else-text-i-eq-LINE_END-3}

-- ---- after the first byte of a turn, the first two, and the first three

passed1 : (c : Else-text-i-eq-LINE_END) → Searched 10 c.args.text.now c.args.at (c.loop-i.i + 1)
passed1 c = search-past c.loop-i.invariant (omega (arith, c.loop-i-test.true)) c.if-text-i-eq-LINE_END.false (omega arith)

passed2 : (c : Else-text-i-eq-LINE_END-2) → Searched 10 c.args.text.now c.args.at (c.loop-i.i + 2)
passed2 c =
    search-past (passed1 (goal.at.Else-text-i-eq-LINE_END-2 c).Else-text-i-eq-LINE_END) (omega (arith, c.loop-i-test.true)) c.if-text-i-eq-LINE_END-2.false (omega arith)

passed3 : (c : Else-text-i-eq-LINE_END-3) → Searched 10 c.args.text.now c.args.at (c.loop-i.i + 3)
passed3 c =
    search-past (passed2 (goal.at.Else-text-i-eq-LINE_END-3 c).Else-text-i-eq-LINE_END-2) (omega (arith, c.loop-i-test.true)) c.if-text-i-eq-LINE_END-3.false (omega arith)

-- ---- the answers

pub returns-then-text-i-eq-LINE_END : goal.returns-then-text-i-eq-LINE_END
returns-then-text-i-eq-LINE_END c = search-here c.loop-i.invariant (omega (arith, c.loop-i-test.true)) c.if-text-i-eq-LINE_END.true

pub returns-then-text-i-eq-LINE_END-2 : goal.returns-then-text-i-eq-LINE_END-2
returns-then-text-i-eq-LINE_END-2 c =
    search-here (passed1 (goal.at.returns-then-text-i-eq-LINE_END-2 c).Else-text-i-eq-LINE_END) (omega (arith, c.loop-i-test.true)) c.if-text-i-eq-LINE_END-2.true

pub returns-then-text-i-eq-LINE_END-3 : goal.returns-then-text-i-eq-LINE_END-3
returns-then-text-i-eq-LINE_END-3 c =
    search-here (passed2 (goal.at.returns-then-text-i-eq-LINE_END-3 c).Else-text-i-eq-LINE_END-2) (omega (arith, c.loop-i-test.true)) c.if-text-i-eq-LINE_END-3.true

pub returns-then-text-i-eq-LINE_END-4 : goal.returns-then-text-i-eq-LINE_END-4
returns-then-text-i-eq-LINE_END-4 c =
    search-here (passed3 (goal.at.returns-then-text-i-eq-LINE_END-4 c).Else-text-i-eq-LINE_END-3) (omega (arith, c.loop-i-test.true)) c.if-text-i-eq-LINE_END-4.true

pub loop-i-preserved : goal.loop-i-preserved
loop-i-preserved c =
    search-past (passed3 (goal.at.loop-i-preserved c).Else-text-i-eq-LINE_END-3) (omega (arith, c.loop-i-test.true)) c.if-text-i-eq-LINE_END-4.false (omega arith)
