-- `table::max::max_cells`: the cell of the larger, y, and the groups over y - u and y - v in the part after it.
use mathlib.Core.Path.{refl}
use mathlib.Core.List.{[], ◌∷◌, ◌++◌}
use Prim.Native.Nat.{suc, ◌+◌, ◌*◌}
use native.Mathlib.Omega.{arith}
use lib.Dec.{lit≤}
use lib.IntN.{pos, ◌-ℤ◌}
use Rattle.meaning.specs.Known.{larger}
use Rattle.meaning.specs.Number.{remainder}
use Rattle.meaning.specs.Gadget.Digits.{group_cells}
use Rattle.meaning.proofs.Part.{written_after}
use Rattle.number.proofs.Bounded.{bounded-more, bounded-difference}
use borrow.Author.Rules.{rules}
use Rattle.table.specs.Max.{max_cells}
use Rattle.table.proofs.max.max_cells.Goals as goal

pub two_groups-requires : goal.two_groups-requires
two_groups-requires c = (
  omega (arith, c.args.digits.group.base),
  search rules,
  rw c.whole_difference-over_u.ensures (bounded-more (bounded-difference c.max_value.result.small c.args.u.small) (lit≤ tt)),
  rw c.whole_difference-over_v.ensures (bounded-more (bounded-difference c.max_value.result.small c.args.v.small) (lit≤ tt)),
)

pub returns : goal.returns
unfolding max_cells
returns c =
    let a = c.args in
    let b = a.digits.base in
    let k = a.digits.count in
    let y = larger a.u.whole.0 a.v.whole.0 in
    written_after 1 (k + k) (suc (2 * k)) a.out.now _ _
    (remainder a.p y ∷ [])
    (group_cells b k (y -ℤ a.u.whole.0) (pos 0) ++ group_cells b k (y -ℤ a.v.whole.0) (pos 0))
    refl
    (rw c.max_value.ensures at c.value_cell.ensures)
    (rw (c.whole_difference-over_u.ensures, c.whole_difference-over_v.ensures, c.max_value.ensures) at c.two_groups.ensures)
    (omega arith)
