-- Before each cell, `AddingLengths` holds of the bytes before its line.
use Rattle.program.proofs.Lengths.{summing-turn, summing-end}
use Rattle.program.proofs.answer_text.table_length.Goals as goal

pub loop-i-preserved : goal.loop-i-preserved
loop-i-preserved c =
    summing-turn c.loop-i.invariant c.loop-i-test.true _ (rw c.from.ensures at c.pair_length-total.ensures.yields) c.pair_length-total.ensures.short

pub returns : goal.returns
returns c = summing-end c.loop-i.invariant c.loop-i-test.false
