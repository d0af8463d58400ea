-- `service::writing::write_lines`: the walk that writes each line's cells, with what holds before each line as the invariant.
use mathlib.Core.Path.{◌≡◌}
use Prim.Native.Nat.{◌-◌}
use lib.ListN.{length}
use Rattle.service.proofs.Written.{Writing}
use Rattle.service.proofs.writing.write_lines.Given as goal

abbrev pub invariant-loop-line : goal.invariant-loop-line
invariant-loop-line l = (l.walk.text.bytes.now ≡ l.list) × Writing l.list l.p l.values l.initial.table l.table l.walk.counts l.walk.at l.walk.number

abbrev pub decreases-loop-line : goal.decreases-loop-line
decreases-loop-line l = length l.walk.text.bytes.now - l.walk.at
