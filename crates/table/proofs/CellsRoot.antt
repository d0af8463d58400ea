-- The cells of a root: how great it and the numbers of its groups are, and the line's cells put together.
use mathlib.Core.Path.{◌≡◌, sym}
use mathlib.Core.List.{List, [], ◌∷◌, ◌++◌, append_assoc}
use Prim.Native.Nat.{ℕ, ◌+◌, ◌*◌, ◌^◌}
use native.Mathlib.Omega.{arith}
use lib.Dec.{lit≤}
use lib.IntN.{ℤ, pos, nat_abs, ◌+ℤ◌, ◌-ℤ◌, ◌*ℤ◌}
use lib.ListN.{length, length-append}
use mir.Syntax.{w64}
use mir.Val.{SFits}
use Rattle.algebra.specs.Congruence.{remainder}
use Rattle.algebra.proofs.Root.{root_below}
use Rattle.meaning.specs.Gadget.Digits.{group_cells}
use Rattle.meaning.specs.Gadget.Root.{root_value}
use Rattle.meaning.proofs.Group.{length-group}
use Rattle.number.specs.Bounded.{Bounded}
use Rattle.number.proofs.Bounded.{bounded-more, bounded-sum, bounded-difference, bounded-product, bounded-fits}
use Rattle.groups.specs.Cells.{form_bound, power_bound, value_bound}
use Rattle.groups.proofs.Whole.{pos-bounded}
use Rattle.table.specs.Root.{rest_cells, root_cells}

-- a root is as small as the value that it is of
pub root-bounded : {bound : ℕ} {v : ℤ} → Bounded bound v → Bounded bound (root_value v)
unfolding root_value
root-bounded {bound} {v} s = record { size = omega (arith, s.size, root_below (nat_abs v)) }

module _ {r : ℤ} (small : Bounded value_bound r) where
  square-bounded : Bounded (2 ^ 60) (r *ℤ r)
  square-bounded = bounded-product small small

  twice-bounded : Bounded power_bound (pos 2 *ℤ r)
  twice-bounded = bounded-product (pos-bounded 2 2 (omega arith)) small

  next-bounded : Bounded (2 ^ 60 + power_bound) (r *ℤ r +ℤ pos 2 *ℤ r)
  next-bounded = bounded-sum square-bounded twice-bounded

  module _ {v : ℤ} (value-small : Bounded value_bound v) where
    pub above-bounded : Bounded form_bound (v -ℤ r *ℤ r)
    above-bounded = bounded-more (bounded-difference value-small square-bounded) (lit≤ tt)

    pub below-bounded : Bounded form_bound (r *ℤ r +ℤ pos 2 *ℤ r -ℤ v)
    below-bounded = bounded-more (bounded-difference next-bounded value-small) (lit≤ tt)

    pub below-fits : SFits w64 (r *ℤ r +ℤ pos 2 *ℤ r -ℤ v)
    below-fits = bounded-fits form_bound below-bounded tt

-- ---- the line's cells up to the groups over v and r

module _ (p b k : ℕ) (v : ℤ) where
  abbrev pub root_start : List ℕ
  root_start =
      let r : ℤ = root_value v in
      (remainder p r ∷ remainder p (r *ℤ r) ∷ []) ++ (group_cells b k v (pos 0) ++ group_cells b k r (pos 0))

  pub length-start : length root_start ≡ 2 + 2 * k
  length-start =
      let r : ℤ = root_value v in
      let l = length-append (group_cells b k v (pos 0)) (group_cells b k r (pos 0)) in
      omega (arith, l, length-group b k v (pos 0), length-group b k r (pos 0))

  pub root-cells-are : root_start ++ rest_cells b k v (root_value v) ≡ root_cells p b k v
  unfolding rest_cells root_cells
  root-cells-are = sym (append_assoc root_start _ _)
