-- `table::root::root_value`: the root of the size of v, which is at most that size.
use mathlib.Core.Path.{◌≡◌, ap, ◌∙◌}
use native.Mathlib.Omega.{arith}
use lib.IntN.{pos, nat_abs}
use Rattle.algebra.specs.Root.{square_root}
use Rattle.algebra.proofs.Root.{root_below}
use Rattle.meaning.specs.Gadget.Root.{root_value}
use Rattle.groups.proofs.Whole.{nat_abs-from-zero}
use Rattle.table.proofs.CellsRoot.{root-bounded}
use Rattle.table.proofs.root.root_value.Goals as goal
use Rattle.table.proofs.root.root_value.Goals.{After-square_root-root, After-wide_whole}

-- the size's root
root : (c : After-square_root-root) → c.square_root-root.result ≡ square_root (nat_abs c.args.v.whole.0)
root c = c.square_root-root.ensures ∙ ap square_root ((rw c.from.ensures at c.distance.ensures) ∙ nat_abs-from-zero c.args.v.whole.0)

pub wide_whole-requires : goal.wide_whole-requires
wide_whole-requires c =
    omega (arith, root c, root_below (nat_abs c.args.v.whole.0), c.args.v.small.size)

made : (c : After-wide_whole) → c.wide_whole.result.0 ≡ root_value c.args.v.whole.0
unfolding root_value
made c = c.wide_whole.ensures ∙ ap pos (root c.before)

pub invariant_of-result : goal.invariant_of-result
invariant_of-result c = record { small = rw (made c) (root-bounded c.args.v.small) }

pub returns : goal.returns
returns c = made (goal.at.returns c).After-wide_whole
