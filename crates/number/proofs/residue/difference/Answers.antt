-- `number::residue::difference`: the difference is its own remainder, or p less than it.
use Prim.Native.Nat.{◌*◌}
use native.Mathlib.Omega.{arith}
use lib.IntN.{pos, negsuc}
use Rattle.algebra.proofs.Integer.Order.{positive_part-negation, negative_part-negation}
use Rattle.algebra.proofs.Integer.Linear.{linear}
use Rattle.number.proofs.Remainder.{remainder_by}
use Rattle.number.proofs.residue.difference.Goals as goal

pub returns-then-a-b : goal.returns-then-a-b
returns-then-a-b c = let p = c.args.p in (
  omega arith,
  remainder_by _ _ (negsuc 0) _ (omega arith)
      (omega (linear, positive_part-negation (pos (1 * p)), negative_part-negation (pos (1 * p)))),
)

pub returns-else-a-b : goal.returns-else-a-b
returns-else-a-b c = (omega arith, remainder_by _ _ (pos 0) _ (omega arith) (omega linear))
