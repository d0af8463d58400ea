-- The cells of a line `root`, and the rows of its four groups.
use Rattle.std.specs.Prelude.{List, ◌∷◌, ◌++◌, ℕ, ◌+◌, ◌*◌, ℤ, pos, ◌+ℤ◌, ◌-ℤ◌, ◌*ℤ◌}
use Rattle.algebra.specs.Congruence.{remainder}
use Rattle.meaning.specs.Row.{Form, Row, group}
use Rattle.meaning.specs.Gadget.Digits.{group_cells}
use Rattle.meaning.specs.Gadget.Root.{root_value}

-- ---- cells

-- the groups over v - q and q + 2r - v, with q the square of r
unfoldable pub rest_cells : (b k : ℕ) (v r : ℤ) → List ℕ
rest_cells b k v r = group_cells b k (v -ℤ r *ℤ r) (pos 0) ++ group_cells b k (r *ℤ r +ℤ pos 2 *ℤ r -ℤ v) (pos 0)

-- all of them, over v, as `root_line` has them
unfoldable pub root_cells : (p b k : ℕ) (v : ℤ) → List ℕ
root_cells p b k v =
    let r : ℤ = root_value v in
    remainder p r ∷ remainder p (r *ℤ r)
    ∷ group_cells b k v (pos 0) ++ group_cells b k r (pos 0)
    ++ group_cells b k (v -ℤ r *ℤ r) (pos 0) ++ group_cells b k (r *ℤ r +ℤ pos 2 *ℤ r -ℤ v) (pos 0)

-- ---- rows

-- the rows of the groups, over the forms A, B, C and D, one after another from the cell called at
unfoldable pub four_groups : (A B C D : Form) (at b k : ℕ) → List Row
four_groups A B C D at b k = group A (pos 0) at b k
    ++ (group B (pos 0) (at + k) b k ++ (group C (pos 0) (at + 2 * k) b k ++ group D (pos 0) (at + 3 * k) b k))
