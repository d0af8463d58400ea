-- Before each line, `Seeking` holds: none of the lines before it is `end`.
use Prim.Native.Nat.{◌-◌}
use lib.ListN.{length}
use Rattle.program.proofs.Parting.{Seeking}
use Rattle.program.proofs.input.find_end.Given as goal

abbrev pub invariant-loop-at : goal.invariant-loop-at
invariant-loop-at l = Seeking l.text.bytes.now l.at l.lines

abbrev pub decreases-loop-at : goal.decreases-loop-at
decreases-loop-at l = length l.text.bytes.now - l.at
