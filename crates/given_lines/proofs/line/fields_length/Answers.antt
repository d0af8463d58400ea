-- Before each number, `Counting` holds of the bytes that are counted.
use mathlib.Core.Path.{sym, ◌∙◌}
use native.Mathlib.Omega.{arith}
use lib.ListN.{get_or}
use lib.IntN.{pos}
use Rattle.given_lines.proofs.Digits.{digit-bytes}
use Rattle.given_lines.proofs.Taking.{counting-stopped, counting-next, counting-end}
use Rattle.given_lines.proofs.line.fields_length.Goals as goal
use Rattle.given_lines.proofs.line.fields_length.Goals.{then-not-is_below+in_ok-total, else-not-is_below}

pub returns-in_err-total : goal.returns-in_err-total
returns-in_err-total c =
    rw c.from_residual.ensures (counting-stopped c.loop-i.invariant c.loop-i-test.true (rw c.whole_at-x.ensures at c.in_err-total.ensures))

pub loop-i-preserved : goal.loop-i-preserved
loop-i-preserved c = elim c.if-not-is_below.branch [
  | then-not-is_below+in_ok-total w ↦
      counting-next c.loop-i.invariant c.loop-i-test.true _ (rw c.whole_at-x.ensures at w.in_ok-total.ensures) w.total-is
  | else-not-is_below w ↦
      counting-next c.loop-i.invariant c.loop-i-test.true 0
      (digit-bytes (get_or c.args.numbers.now c.loop-i.i (pos 0)) (rw (← c.whole_at-x.ensures) (sym c.is_below.ensures ∙ w.if-not-is_below.false)))
      (omega (arith, w.total-is))
]

pub returns : goal.returns
returns c = counting-end c.loop-i.invariant c.loop-i-test.false
