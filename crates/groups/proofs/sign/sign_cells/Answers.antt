-- `groups::sign::sign_cells`: the digits of x + B are written first, then f and w into the part after them.
use mathlib.Core.Path.{◌≡◌, refl, ap, ◌∙◌}
use mathlib.Core.List.{◌++◌}
use Prim.Native.Nat.{◌+◌, ◌-◌, ◌/◌, ◌%◌, ◌^◌, ◌<◌}
use native.Mathlib.Omega.{arith}
use native.Mathlib.Nat.{mod-lt}
use lib.IntN.{pos, nat_abs, ◌-ℤ◌}
use lib.ListN.{drop, get_or-append}
use Rattle.algebra.specs.Congruence.{remainder}
use Rattle.algebra.specs.Digits.{digits}
use Rattle.algebra.proofs.Digits.{length_digits, digit_at}
use Rattle.meaning.specs.Gadget.Sign.{sign_shift}
use Rattle.meaning.proofs.Part.{written_after}
use Rattle.groups.specs.Cells.{flag_cells}
use Rattle.groups.proofs.GroupNumbers.{base-most, shift-bounded}
use Rattle.groups.proofs.Whole.{distance-fits}
use Rattle.groups.proofs.CellsSign.{sign-cells-are}
use borrow.Author.Rules.{rules}
use Rattle.groups.proofs.sign.sign_cells.Goals as goal
use Rattle.groups.proofs.sign.sign_cells.Goals.{After-distance-n, After-residue_at-top, Start}

base : (s : Start) → 0 < s.args.digits.base
base s = omega (arith, s.args.digits.group.base)

pub distance-n-requires : goal.distance-n-requires
distance-n-requires c = rw c.sign_shift.ensures (distance-fits c.requires.3 (shift-bounded c.args.digits.group) tt)

number : (c : After-distance-n) → let a = c.args in c.distance-n.result ≡ nat_abs (a.x.0 -ℤ sign_shift a.digits.base a.digits.count)
number c = rw c.sign_shift.ensures at c.distance-n.ensures

-- the top digit, as it was written
top : (c : After-residue_at-top) →
    let a = c.args in
    c.residue_at-top.result.0 ≡ c.distance-n.result / a.digits.base ^ (a.digits.count - 1) % a.digits.base
top c =
    let a = c.args in
    let n = c.distance-n.result in
    let l : a.digits.count - 1 < a.digits.count = omega (arith, a.digits.group.some-digit) in
    (rw (c.from.ensures, c.group_cells.ensures) at c.residue_at-top.ensures)
    ∙ get_or-append (digits a.digits.base a.digits.count n) _ 0 (a.digits.count - 1) (omega (arith, length_digits a.digits.base a.digits.count n))
    ∙ digit_at a.digits.base a.digits.count n (a.digits.count - 1) l

pub flag_cells-requires : goal.flag_cells-requires
flag_cells-requires c =
    let start = (goal.at.flag_cells-requires c).Start in
    let at-digit = (goal.at.flag_cells-requires c).After-residue_at-top in
    (c.requires.0, rw (top at-digit) (mod-lt _ (base start)), omega (arith, base-most c.args.digits.group, c.requires.1), search rules)

pub returns : goal.returns
returns c =
    let a = c.args in
    let n = c.distance-n.result in
    written_after a.digits.count 2 (a.digits.count + 2) _ _ _
    (digits a.digits.base a.digits.count n)
    (flag_cells a.p (remainder a.p (pos (n / a.digits.base ^ (a.digits.count - 1) % a.digits.base) -ℤ pos (a.digits.base - 1))))
    (length_digits a.digits.base a.digits.count n)
    c.group_cells.ensures
    (rw (top (goal.at.returns c).After-residue_at-top) at c.flag_cells.ensures)
    refl
    ∙ ap (λ l. l ++ drop (a.digits.count + 2) a.out.now) (sign-cells-are a.p a.digits.base a.digits.count a.x.0 n (number (goal.at.returns c).After-distance-n))
