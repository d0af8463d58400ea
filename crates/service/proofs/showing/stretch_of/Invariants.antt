-- `service::showing::stretch_of`: the walk to the line, with what holds before each line as the invariant.
use mathlib.Core.Path.{◌≡◌}
use Prim.Native.Nat.{◌-◌}
use lib.ListN.{length}
use Rattle.service.proofs.Shown.{Showing}
use Rattle.service.proofs.showing.stretch_of.Given as goal

abbrev pub invariant-loop-taken : goal.invariant-loop-taken
invariant-loop-taken l = (l.walk.text.bytes.now ≡ l.list) × Showing l.list l.line l.walk.counts l.walk.at l.walk.number

abbrev pub decreases-loop-taken : goal.decreases-loop-taken
decreases-loop-taken l = length l.walk.text.bytes.now - l.walk.at
