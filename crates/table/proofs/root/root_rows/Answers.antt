-- `table::root::root_rows`: the row of the square, and then the four groups.
use Prim.Native.Nat.{◌+◌}
use native.Mathlib.Omega.{arith}
use lib.IntN.{pos}
use Rattle.meaning.specs.Row.{cell, constant, ◌⊕◌, ◌⊖◌, ◌⊗◌, ◌≅◌, holds}
use Rattle.groups.proofs.RowsFirst.{first-row}
use Rattle.groups.proofs.RowsForm.{leaves-constant, leaves-⊕, leaves-⊖, leaves-⊗, row-test}
use Rattle.table.specs.Root.{four_groups}
use Rattle.table.proofs.RowsRoot.{root-rows-are, twice}
use Rattle.table.proofs.root.root_rows.Goals as goal

pub returns : goal.returns
returns c s v p-is place_is cells_is =
    let a = c.args.group in
    let place = c.args.place.0 in
    let at = c.args.at.0 in
    let p = a.table.p in
    let t = a.table.cells.now in
    let V' = cell place in
    let Y = cell at in
    let Q = cell (at + 1) in
    let value = c.at-value.ensures in
    let root = c.at-root.ensures in
    let square = rw c.after.ensures at c.at-square.ensures in
    let twice-is = leaves-⊗ (leaves-constant p t 2 c.requires.0) root (twice _ c.sum-twice.ensures) in
    let over = leaves-⊖ value square c.difference-over.ensures in
    let under = leaves-⊖ (leaves-⊕ square twice-is c.sum.ensures) value c.difference-under.ensures in
    let under-form = Q ⊕ constant (pos 2) ⊗ Y ⊖ V' in
    let later = rw c.after-2.ensures at (c.four_groups-later.ensures V' Y (V' ⊖ Q) under-form value root over under) in
    rw (root-rows-are s v place at a.digits.base a.digits.count place_is cells_is)
    (first-row (holds p t) 0 1 (Y ⊗ Y ≅ Q) (four_groups V' Y (V' ⊖ Q) under-form (at + 2) a.digits.base a.digits.count) (omega arith)
    (row-test (leaves-⊗ root root c.product-squared.ensures) square) (rw c.eq.ensures at c.row_before.ensures) later)
