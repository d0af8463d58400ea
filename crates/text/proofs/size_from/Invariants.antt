-- The digits before `end` spell `n`, which has as many digits: what is left of the field says what the whole field says.
use Prim.Native.Nat.{◌-◌, ◌≤◌}
use Rattle.text.specs.Place.{end_of}
use Rattle.text.proofs.Sizing.{Sizing}
use Rattle.text.proofs.size_from.Given as goal

abbrev pub invariant-loop-at : goal.invariant-loop-at
invariant-loop-at l = Sizing l.text.bytes.now l.at (end_of l.text.bytes.now l.at) l.n l.end × (l.end - l.at ≤ 10)

abbrev pub decreases-loop-at : goal.decreases-loop-at
decreases-loop-at l = end_of l.text.bytes.now l.at - l.end
