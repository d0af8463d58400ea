-- `service::making::first_outside`: the inputs are looked at from the first on.
use lib.IntN.{pos}
use Rattle.meaning.specs.Number.{in_range}
use Rattle.service.proofs.Scan.{PassedBefore}
use Rattle.service.proofs.making.first_outside.Given as goal

abbrev pub invariant-loop-i : goal.invariant-loop-i
invariant-loop-i l = PassedBefore (in_range l.p) (pos 0) l.inputs l.i
