-- The floor of the square root of a natural number.
use Rattle.std.specs.Prelude.{true, false, ℕ, zero, suc, ◌*◌, leb}

-- the greatest y up to m with y · y at most n
unfoldable pub root_up_to : (m n : ℕ) → ℕ
root_up_to zero n = 0
root_up_to (suc m) n = elim (leb (suc m * suc m) n) [ true ↦ suc m | false ↦ root_up_to m n ]

unfoldable pub square_root : ℕ → ℕ
square_root n = root_up_to n n
