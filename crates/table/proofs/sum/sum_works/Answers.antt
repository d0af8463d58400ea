-- `table::sum::sum_works`: before each term, `Summing` holds of the total and of the pairs that are left; `Turn` says of each term that its value
-- is made and that nothing overflows.
use mathlib.Core.Path.{◌≡◌, ap₂, ◌∙◌}
use lib.IntN.{ℤ, ◌*ℤ◌}
use Rattle.number.proofs.Bounded.{bounded-fits}
use Rattle.groups.specs.Cells.{power_bound, value_bound}
use Rattle.table.proofs.LineSum.{left-after-first}
use Rattle.table.proofs.WorksSum.{Turn, term, summing_start, summing-turn, summing-end}
use Rattle.table.proofs.sum.sum_works.Goals as goal
use Rattle.table.proofs.sum.sum_works.Goals.{After-whole_at, After-whole_product, In-Some}

pub loop-term-init : goal.loop-term-init
loop-term-init c = rw c.into_iter-term-iterator.ensures.into_iter_gives (
  c.chunks_exact-term-items.ensures.size,
  summing_start _ _ c.requires (c.chunks_exact-term-items.ensures.rest ∙ left-after-first c.args.numbers.now c.requires.some_number) c.whole_at-total.ensures,
)

-- a turn
turn : (c : In-Some) → let a = c.args in
    Turn a.numbers.now a.values.now c.in-Some.term.now c.next.new.self.rest.now c.loop-term.total.0
turn c =
    let step = c.in-Some.ensures.steps in
    summing-turn _ _ _ _ _ c.loop-term.invariant.1 step.1.0 (step.1.1 ∙ c.loop-term.invariant.0)

pub value_named-value-requires : goal.value_named-value-requires
value_named-value-requires c = (turn c).name

-- the two factors are the term's
product : (c : After-whole_at) → c.whole_at.result.0 *ℤ c.value_named-value.result.0 ≡ term c.in-Some.term.now c.args.values.now
product c = ap₂ (λ (x y : ℤ). x *ℤ y) c.whole_at.ensures c.value_named-value.ensures

pub whole_product-requires : goal.whole_product-requires
whole_product-requires c =
    rw (product c) (bounded-fits power_bound (turn (goal.at.whole_product-requires c).In-Some).product tt)

added : (c : After-whole_product) → c.whole_product.result.0 ≡ term c.in-Some.term.now c.args.values.now
added c = c.whole_product.ensures ∙ product c.before

pub whole_sum-total-requires : goal.whole_sum-total-requires
whole_sum-total-requires c =
    rw (added c) (bounded-fits value_bound (turn (goal.at.whole_sum-total-requires c).In-Some).total tt)

pub loop-term-preserved : goal.loop-term-preserved
loop-term-preserved c = (
  c.in-Some.ensures.steps.0 ∙ c.loop-term.invariant.0,
  rw (c.whole_sum-total.ensures, added (goal.at.loop-term-preserved c).After-whole_product) (turn (goal.at.loop-term-preserved c).In-Some).next,
)

pub returns : goal.returns
returns c = summing-end _ _ _ _ c.loop-term.invariant.1 c.loop-term.invariant.0 c.in-None.ensures.steps.1.0
