-- Each two digits have a place, and what is left keeps `Filling`.
use Rattle.std.proofs.Common.{arith}
use Rattle.output.proofs.Digits.{filling_place, filling_turn}
use Rattle.output.proofs.write_decimal.Goals as goal

pub overflow_sub-at : goal.overflow_sub-at
overflow_sub-at c = filling_place c.loop-rest.invariant c.loop-rest-test.true

pub write_pair-requires : goal.write_pair-requires
write_pair-requires c =
    let two = filling_place c.loop-rest.invariant c.loop-rest-test.true in
    omega (arith, c.loop-rest.invariant.within)

pub loop-rest-preserved : goal.loop-rest-preserved
loop-rest-preserved c = filling_turn c.loop-rest.invariant c.loop-rest-test.true c.write_pair.ensures
