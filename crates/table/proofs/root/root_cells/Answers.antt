-- `table::root::root_cells`: the cells of the root and its square, and the two pairs of groups in the parts after them.
use mathlib.Core.Path.{◌≡◌, refl, ap, ◌∙◌}
use mathlib.Core.List.{[], ◌∷◌, ◌++◌}
use Prim.Native.Nat.{◌+◌, ◌-◌, ◌*◌}
use native.Mathlib.Omega.{arith}
use lib.IntN.{pos, ◌*ℤ◌}
use lib.ListN.{length, drop}
use borrow.Rule.Slice.PartMut.{put_mid}
use Rattle.meaning.specs.Number.{remainder}
use Rattle.meaning.specs.Gadget.Digits.{group_cells}
use Rattle.meaning.specs.Gadget.Root.{root_value}
use Rattle.meaning.proofs.Part.{written_after}
use Rattle.table.specs.Root.{rest_cells}
use Rattle.table.proofs.CellsRoot.{root_start, length-start, root-cells-are}
use Rattle.table.proofs.root.root_cells.Goals as goal

pub returns : goal.returns
returns c =
    let a = c.args in
    let y = root_value a.v.whole.0 in
    let cells = c.square_cells.new.out in
    let start : put_mid 2 (length cells - 2) cells c.two_groups.new.out
    ≡ root_start a.p a.digits.base a.digits.count a.v.whole.0 ++ drop (2 + 2 * a.digits.count) a.out.now =
    written_after 2 (a.digits.count + a.digits.count) (2 + 2 * a.digits.count) _ _ _
    (remainder a.p y ∷ remainder a.p (y *ℤ y) ∷ [])
    (group_cells a.digits.base a.digits.count a.v.whole.0 (pos 0) ++ group_cells a.digits.base a.digits.count y (pos 0))
    refl
    (rw c.root_value-r.ensures at c.square_cells.ensures)
    (rw c.root_value-r.ensures at c.two_groups.ensures)
    (omega arith) in
    written_after (2 + 2 * a.digits.count) (a.digits.count + a.digits.count) (2 + 4 * a.digits.count) _ _ _
    (root_start a.p a.digits.base a.digits.count a.v.whole.0)
    (rest_cells a.digits.base a.digits.count a.v.whole.0 y)
    (length-start a.p a.digits.base a.digits.count a.v.whole.0)
    start
    (rw c.root_value-r.ensures at c.rest_cells.ensures)
    (omega arith)
    ∙ ap (λ l. l ++ drop (2 + 4 * a.digits.count) a.out.now) (root-cells-are a.p a.digits.base a.digits.count a.v.whole.0)
