-- `groups::sign::sign_rows`: the group, and then the rows of the flag.
use Prim.Native.Nat.{◌+◌, ◌-◌}
use native.Mathlib.Omega.{arith}
use lib.IntN.{pos}
use Rattle.meaning.specs.Row.{cell, constant, ◌⊖◌}
use Rattle.meaning.specs.Gadget.Sign.{sign_shift}
use Rattle.groups.specs.Rows.{Leaves}
use Rattle.groups.proofs.RowsForm.{leaves-own, leaves-⊖}
use Rattle.groups.proofs.RowsFirst.{rows-and}
use Rattle.groups.proofs.GroupNumbers.{base-most}
use Rattle.groups.proofs.RowsSign.{sign-answer}
use Rattle.groups.proofs.sign.sign_rows.Goals as goal
use Rattle.groups.proofs.sign.sign_rows.Goals.{After-from}

-- the greatest digit
full_is : (c : After-from) → let a = c.args.group in
    Leaves a.table.p a.table.cells.now c.from.result.0 (constant (pos (a.digits.base - 1)))
full_is c =
    let a = c.args.group in
    leaves-own a.table.p a.table.cells.now (a.digits.base - 1) (omega (arith, base-most a.digits.group, a.digits.group.base, a.power)) c.from.ensures

pub difference-top-requires : goal.difference-top-requires
difference-top-requires c = (c.at-digit.ensures.below, (full_is c).below)

pub flag_rows-later-requires : goal.flag_rows-later-requires
flag_rows-later-requires c =
    (omega (arith, base-most c.args.group.digits.group, c.args.group.digits.group.base, c.args.group.power), c.at-flag.ensures.below, omega arith)

pub returns : goal.returns
returns c form row number_is last-is =
    let a = c.args.group in
    let at = c.args.at.0 in
    let t = a.table.cells.now in
    let k = a.digits.count in
    let D = cell (at + (k - 1)) in
    let F = cell (at + k) in
    let W = cell (at + (k + 1)) in
    let digit = rw c.after.ensures at c.at-digit.ensures in
    let flag = rw c.after-2.ensures at c.at-flag.ensures in
    let witness = rw c.after-3.ensures at c.at-witness.ensures in
    let top = leaves-⊖ digit (full_is (goal.at.returns c).After-from) c.difference-top.ensures in
    sign-answer a.table.p t form at a.digits.base k row (c.group_rows.ensures a.table.p form (sign_shift a.digits.base k) a.power number_is)
    (c.flag_rows-later.ensures t (D ⊖ constant (pos (a.digits.base - 1))) F W (row F) top flag witness last-is)
    (rows-and _ _ c.and.ensures)
