-- `table::root::rest_cells`: the two differences fit, and the groups are over them.
use native.Mathlib.Omega.{arith}
use Rattle.table.specs.Root.{rest_cells}
use Rattle.table.proofs.CellsRoot.{above-bounded, below-bounded, below-fits}
use Rattle.table.proofs.root.rest_cells.Goals as goal

pub two_groups-requires : goal.two_groups-requires
two_groups-requires c = (
  omega (arith, c.args.digits.group.base),
  c.requires,
  rw (c.whole_difference-above.ensures, c.whole_product-q.ensures) (above-bounded c.args.r.small c.args.v.small),
  rw (
    c.whole_difference-below.ensures,
    c.whole_sum.ensures,
    c.whole_product-q.ensures,
    c.whole_product-twice.ensures,
    c.from.ensures,
  ) (below-bounded c.args.r.small c.args.v.small),
)

pub whole_difference-below-requires : goal.whole_difference-below-requires
whole_difference-below-requires c =
    rw (c.whole_sum.ensures, c.whole_product-q.ensures, c.whole_product-twice.ensures, c.from.ensures) (below-fits c.args.r.small c.args.v.small)

pub returns : goal.returns
unfolding rest_cells
returns c =
    rw (
      c.whole_difference-above.ensures,
      c.whole_difference-below.ensures,
      c.whole_sum.ensures,
      c.whole_product-q.ensures,
      c.whole_product-twice.ensures,
      c.from.ensures,
    ) at c.two_groups.ensures
