-- `number::residue::sum`: the sum is its own remainder, or p more than it.
use mathlib.Core.Path.{ap}
use native.Mathlib.Omega.{arith}
use lib.IntN.{pos}
use Rattle.number.proofs.Remainder.{remainder_by}
use Rattle.number.proofs.residue.sum.Goals as goal

pub returns-then-a-room : goal.returns-then-a-room
returns-then-a-room c = (omega arith, remainder_by _ _ (pos 0) _ (omega arith) (ap pos (omega arith)))

pub returns-else-a-room : goal.returns-else-a-room
returns-else-a-room c = (omega arith, remainder_by _ _ (pos 1) _ (omega arith) (ap pos (omega arith)))
