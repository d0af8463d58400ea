-- `table::which::which_rows`: the rows of the sign of u-v, with y ≡ 1-f as the last.
use mathlib.Core.Path.{◌≡◌, ◌∙◌}
use Prim.Native.Nat.{◌+◌}
use native.Mathlib.Omega.{arith}
use lib.IntN.{pos}
use Rattle.meaning.specs.Known.{top_part}
use Rattle.meaning.specs.Row.{cell, constant, ◌⊖◌, ◌≅◌}
use Rattle.groups.specs.Rows.{Leaves}
use Rattle.groups.proofs.GroupNumbers.{base-most}
use Rattle.groups.proofs.RowsForm.{leaves-own, leaves-⊕, leaves-⊖, row-test}
use Rattle.groups.proofs.RowsSign.{sign-number, leaves-top}
use Rattle.table.proofs.RowsSigned.{which-rows-are}
use Rattle.table.proofs.which.which_rows.Goals as goal
use Rattle.table.proofs.which.which_rows.Goals.{After-from, After-from-2}

-- B, and 1
top : (c : After-from) → let a = c.args.group in
    Leaves a.table.p a.table.cells.now c.from.result.0 (constant (pos (top_part a.digits.base a.digits.count)))
top c = let a = c.args.group in leaves-top a.table.p a.table.cells.now a.digits.group a.power (c.from.ensures ∙ c.top_part.ensures)

one_is : (c : After-from-2) → let a = c.args.group in
    Leaves a.table.p a.table.cells.now c.from-2.result.0 (constant (pos 1))
one_is c =
    let a = c.args.group in
    leaves-own a.table.p a.table.cells.now 1 (omega (arith, base-most a.digits.group, a.digits.group.base, a.power)) c.from-2.ensures

pub sum-number-requires : goal.sum-number-requires
sum-number-requires c = (c.difference-apart.ensures.0, (top c).below)

pub difference-other-requires : goal.difference-other-requires
difference-other-requires c = ((one_is c).below, c.at-flag.ensures.below)

pub returns : goal.returns
returns c s u v p-is place-u-is place-v-is cells_is =
    let a = c.args.group in
    let u-at = c.args.place_u.0 in
    let v-at = c.args.place_v.0 in
    let at = c.args.at.0 in
    let b = a.digits.base in
    let k = a.digits.count in
    let after : c.after.result.0 ≡ at + 1 + k = omega (arith, c.after.ensures) in
    let flag = rw after at c.at-flag.ensures in
    let apart = leaves-⊖ c.at.ensures c.at-2.ensures c.difference-apart.ensures in
    let number = leaves-⊕ apart (top (goal.at.returns c).After-from) c.sum-number.ensures in
    let other = leaves-⊖ (one_is (goal.at.returns c).After-from-2) flag c.difference-other.ensures in
    let X = cell u-at ⊖ cell v-at in
    rw (which-rows-are s u v u-at v-at at b k place-u-is place-v-is cells_is)
    ((rw c.after-2.ensures at (c.sign_rows.ensures X (λ f. cell at ≅ constant (pos 1) ⊖ f)))
    (sign-number X b k number) (c.eq.ensures ∙ row-test c.at-made.ensures other))
