-- `service::checking::check_rows`: the walk over the rows of each line, with what holds before each line as the invariant.
use mathlib.Core.Path.{◌≡◌}
use Prim.Native.Nat.{◌-◌}
use lib.ListN.{length}
use Rattle.service.proofs.Checked.{Checking}
use Rattle.service.proofs.checking.check_rows.Given as goal

abbrev pub invariant-loop-line : goal.invariant-loop-line
invariant-loop-line l = (l.walk.text.bytes.now ≡ l.list) × Checking l.list l.table l.p l.places l.walk.counts l.walk.at l.walk.number

abbrev pub decreases-loop-line : goal.decreases-loop-line
decreases-loop-line l = length l.walk.text.bytes.now - l.walk.at
