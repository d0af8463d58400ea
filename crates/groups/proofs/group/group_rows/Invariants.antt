-- `groups::group::group_rows`: the digits of the turns before pass, `value` is theirs, and what is left to test says what the whole test says.
use mathlib.Core.Path.{◌≡◌}
use Prim.Native.Nat.{ℕ, ◌+◌, ◌-◌, ◌*◌}
use Rattle.meaning.specs.Row.{holds, digit_rows}
use Rattle.groups.specs.Rows.{first_refusal}
use Rattle.groups.proofs.RowsGroup.{PowerSum}
use Rattle.groups.proofs.group.group_rows.Given as goal

abbrev pub invariant-loop-pair : goal.invariant-loop-pair
invariant-loop-pair l =
    PowerSum l.table l.at.0 l.digits.base l.digits.count (2 * l.pair) l.value.0 l.part × ((p : ℕ)
    → first_refusal (holds p l.table) l.first (digit_rows l.at.0 l.digits.base l.digits.count)
    ≡ first_refusal (holds p l.table) (l.first + 2 * l.pair) (digit_rows (l.at.0 + 2 * l.pair) l.digits.base (l.digits.count - 2 * l.pair)))
