-- `service::making::first_outside`: no input lies outside where all are looked at.
use mathlib.Core.Path.{ap}
use native.Mathlib.Omega.{arith}
use lib.IntN.{pos}
use Rattle.meaning.specs.Number.{in_range}
use Rattle.meaning.specs.Reply.{refusal_at}
use Rattle.service.specs.Make.{inputs_meaning}
use Rattle.service.proofs.Scan.{none-at}
use Rattle.service.proofs.making.first_outside.Goals as goal

pub returns : goal.returns
unfolding inputs_meaning refusal_at
returns c = ap (refusal_at 17) (none-at (in_range c.args.p) (pos 0) c.args.inputs.now (λ k h. c.loop-i.invariant k (omega arith)))
