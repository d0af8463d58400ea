-- `table::max::max_rows`: the row of the product, and then the two groups.
use mathlib.Core.Path.{◌≡◌}
use Prim.Native.Nat.{◌+◌}
use native.Mathlib.Omega.{arith}
use lib.IntN.{pos}
use Rattle.meaning.specs.Row.{cell, ◌⊖◌}
use Rattle.groups.proofs.RowsFirst.{rows-and}
use Rattle.groups.proofs.RowsForm.{leaves-⊖, leaves-⊗, leaves-plain}
use Rattle.table.proofs.RowsMax.{max-rows-are, max-answer}
use Rattle.table.proofs.max.max_rows.Goals as goal

pub returns : goal.returns
returns c s u v p-is place-u-is place-v-is cells_is =
    let a = c.args.group in
    let u-at = c.args.place_u.0 in
    let v-at = c.args.place_v.0 in
    let at = c.args.at.0 in
    let p = a.table.p in
    let t = a.table.cells.now in
    let F = cell at ⊖ cell u-at in
    let G = cell at ⊖ cell v-at in
    let over-u = leaves-⊖ c.at-made.ensures c.at.ensures c.difference-over_u.ensures in
    let over-v = leaves-⊖ c.at-made.ensures c.at-2.ensures c.difference-over_v.ensures in
    let second : c.after-2.result.0 ≡ at + 1 + a.digits.count = omega (arith, c.after-2.ensures) in
    rw (max-rows-are s u v u-at v-at at a.digits.base a.digits.count place-u-is place-v-is cells_is)
    (max-answer p t F G at a.digits.base a.digits.count (omega (arith, c.at-made.ensures.below)) (leaves-⊗ over-u over-v c.product-either.ensures)
    (rw c.after.ensures at (c.group_rows-group_u.ensures p F (pos 0) a.power (leaves-plain F over-u)))
    (rw second at (c.group_rows-group_v.ensures p G (pos 0) a.power (leaves-plain G over-v)))
    (rows-and _ _ c.and.ensures) (rw (c.eq.ensures, c.from.ensures) at c.row_before.ensures))
