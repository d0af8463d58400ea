-- `table::relu::relu_rows`: the rows of the sign of the value, with f·v ≡ y as the last.
use mathlib.Core.Path.{◌≡◌, ◌∙◌}
use Prim.Native.Nat.{◌+◌}
use native.Mathlib.Omega.{arith}
use lib.IntN.{pos}
use Rattle.meaning.specs.Known.{top_part}
use Rattle.meaning.specs.Row.{cell, constant, ◌⊗◌, ◌≅◌}
use Rattle.groups.specs.Rows.{Leaves}
use Rattle.groups.proofs.RowsForm.{leaves-⊕, leaves-⊗, row-test}
use Rattle.groups.proofs.RowsSign.{sign-number, leaves-top}
use Rattle.table.proofs.RowsSigned.{relu-rows-are}
use Rattle.table.proofs.relu.relu_rows.Goals as goal
use Rattle.table.proofs.relu.relu_rows.Goals.{After-from}

-- B
top : (c : After-from) → let a = c.args.group in
    Leaves a.table.p a.table.cells.now c.from.result.0 (constant (pos (top_part a.digits.base a.digits.count)))
top c = let a = c.args.group in leaves-top a.table.p a.table.cells.now a.digits.group a.power (c.from.ensures ∙ c.top_part.ensures)

pub sum-number-requires : goal.sum-number-requires
sum-number-requires c = (c.at-value.ensures.below, (top c).below)

pub returns : goal.returns
returns c s v p-is place_is cells_is =
    let a = c.args.group in
    let place = c.args.place.0 in
    let at = c.args.at.0 in
    let b = a.digits.base in
    let k = a.digits.count in
    let X = cell place in
    let after : c.after.result.0 ≡ at + 1 + k = omega (arith, c.after.ensures) in
    let flag = rw after at c.at-flag.ensures in
    let number = leaves-⊕ c.at-value.ensures (top (goal.at.returns c).After-from) c.sum-number.ensures in
    let kept = leaves-⊗ flag c.at-value.ensures c.product-kept.ensures in
    rw (relu-rows-are s v place at b k place_is cells_is)
    ((rw c.after-2.ensures at (c.sign_rows.ensures X (λ f. f ⊗ X ≅ cell at)))
    (sign-number X b k number) (c.eq.ensures ∙ row-test kept c.at-made.ensures))
