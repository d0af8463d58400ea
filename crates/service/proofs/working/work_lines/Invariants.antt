-- `service::working::work_lines`: the walk that works each line, with what holds before each line as the invariant.
use mathlib.Core.Path.{◌≡◌}
use Prim.Native.Nat.{◌-◌}
use lib.ListN.{length}
use Rattle.service.proofs.Worked.{WorkingOn}
use Rattle.service.proofs.working.work_lines.Given as goal

abbrev pub invariant-loop-line : goal.invariant-loop-line
invariant-loop-line l = (l.walk.text.bytes.now ≡ l.list) × WorkingOn l.list l.inputs l.values l.walk.counts l.walk.at l.walk.number

abbrev pub decreases-loop-line : goal.decreases-loop-line
decreases-loop-line l = length l.walk.text.bytes.now - l.walk.at
