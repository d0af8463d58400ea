-- `number::power::capped_power`: in each turn `Left` says what is left to do. Where the base, or c with one factor more, is above the cap, so
-- is the power.
use Rattle.number.proofs.CappedPower.{PowerLeft}
use Rattle.number.proofs.power.capped_power.Given as goal

abbrev pub invariant-loop-n : goal.invariant-loop-n
invariant-loop-n l = PowerLeft l.b l.k l.cap l.c l.base l.n

abbrev pub decreases-loop-n : goal.decreases-loop-n
decreases-loop-n l = l.n
