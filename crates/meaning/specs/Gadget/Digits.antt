-- What the kinds of lines with digits share in a true table: the cells of a group, which are `digits b k n` of algebra, the k lowest base-b
-- digits of n.
use Rattle.std.specs.Prelude.{ℕ, List, get_or, ℤ, pos, nat_abs, ◌-ℤ◌}
unfoldable pub use Rattle.algebra.specs.Digits.{digits}

-- the digits of form - L, lowest first, which is not negative in a true table. FORMAT 7.5
unfoldable pub group_cells : (b k : ℕ) (form L : ℤ) → List ℕ
group_cells b k form L = digits b k (nat_abs (form -ℤ L))

-- the worked value with this number
unfoldable pub value_at : List ℤ → ℕ → ℤ
value_at vs v = get_or vs v (pos 0)
