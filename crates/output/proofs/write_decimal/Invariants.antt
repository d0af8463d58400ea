-- Before each two digits, `Filling` holds of the part and of what is left of n.
use Rattle.output.proofs.Digits.{Filling}
use Rattle.output.proofs.write_decimal.Given as goal

abbrev pub invariant-loop-rest : goal.invariant-loop-rest
invariant-loop-rest l = Filling l.n l.initial.part l.part l.rest l.at

abbrev pub decreases-loop-rest : goal.decreases-loop-rest
decreases-loop-rest l = l.rest
