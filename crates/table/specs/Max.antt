-- The cells of a line `max`.
use Rattle.std.specs.Prelude.{List, ◌∷◌, ◌++◌, ℕ, ℤ, pos, ◌-ℤ◌}
use Rattle.algebra.specs.Congruence.{remainder}
use Rattle.meaning.specs.Known.{larger}
use Rattle.meaning.specs.Gadget.Digits.{group_cells}

-- over the values u and v, as `max_line` has them
unfoldable pub max_cells : (p b k : ℕ) (u v : ℤ) → List ℕ
max_cells p b k u v =
    let y : ℤ = larger u v in
    remainder p y ∷ group_cells b k (y -ℤ u) (pos 0) ++ group_cells b k (y -ℤ v) (pos 0)
