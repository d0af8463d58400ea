-- `number::root::square_root`: the square of low is at most n and that of high above it, until high is the next number after low.
use Prim.Native.Nat.{◌-◌, ◌*◌, ◌≤◌, ◌<◌}
use Rattle.meaning.specs.Machine.{past_u32}
use Rattle.number.proofs.root.square_root.Given as goal

abbrev pub invariant-loop-high : goal.invariant-loop-high
invariant-loop-high l = (l.low < l.high) × (l.high ≤ past_u32) × (l.low * l.low ≤ l.n) × (l.n < l.high * l.high)

abbrev pub decreases-loop-high : goal.decreases-loop-high
decreases-loop-high l = l.high - l.low
