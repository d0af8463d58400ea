-- The pairs before the iterator's are added: those that are left, with the ends so far, say what the whole sum says.
use mathlib.Core.Path.{◌≡◌, sym, ◌∙◌}
use native.Mathlib.Omega.{arith}
use lib.IntN.{pos, nat_abs}
use lib.ListN.{length, get_or}
use Rattle.rules.specs.Yield.{ends_meaning}
use Rattle.rules.specs.Ready.{ends_at}
use Rattle.meaning.specs.Gadget.Sum.{scaled, added}
use Rattle.rules.proofs.Pairs.{whole}
use Rattle.rules.proofs.SumLine.{sum-starts, summing-end, name-made, coefficient-small, sum-leaves, sum-goes, range-sized}
use Rattle.rules.proofs.sum.sum_ends.Goals as goal
use Rattle.rules.proofs.sum.sum_ends.Goals.{After-plus-so_far, In-Some}

pub loop-term-init : goal.loop-term-init
loop-term-init c =
    rw (c.into_iter-term-iterator.ensures.into_iter_gives, c.chunks_exact-term-items.ensures.rest, c.from-so_far.ensures.0, c.from-so_far.ensures.1, c.whole_at.ensures, whole c.args.numbers.now c.requires.0)
    (c.chunks_exact-term-items.ensures.size, sum-starts c.args.numbers.now c.requires.0 c.requires.1 c.requires.2 c.requires.3)

-- the pair of this turn
two : (c : In-Some) → length c.in-Some.term.now ≡ 2
two c = c.in-Some.ensures.steps.1.1 ∙ c.loop-term.invariant.0

pub ends_of-value-requires : goal.ends_of-value-requires
ends_of-value-requires c =
    rw c.whole_at-in-loop-term.ensures (name-made _ _ c.loop-term.invariant.1 c.in-Some.ensures.steps.1.0 (two (goal.at.ends_of-value-requires c).In-Some))

pub scaled-requires : goal.scaled-requires
scaled-requires c =
    let sums = c.loop-term.invariant.1 in
    rw c.whole_at-in-loop-term-2.ensures (record { size = coefficient-small _ _ sums c.in-Some.ensures.steps.1.0 (two (goal.at.scaled-requires c).In-Some) }, c.ends_of-value.ensures.sized)

-- the ends after this term
next : (c : After-plus-so_far)
    → let pair = c.in-Some.term.now in
    ends_meaning c.plus-so_far.result
    ≡ added (ends_meaning c.loop-term.so_far) (scaled (get_or pair 0 (pos 0)) (ends_at c.args.known.ends.now (nat_abs (get_or pair 1 (pos 0)))))
next c = c.plus-so_far.ensures ∙ rw (c.scaled.ensures.scaled, c.whole_at-in-loop-term-2.ensures, c.ends_of-value.ensures.known, c.whole_at-in-loop-term.ensures)

pub plus-so_far-requires : goal.plus-so_far-requires
plus-so_far-requires c = (range-sized c.args.known.p c.loop-term.so_far c.args.known.ready.p-high c.loop-term.invariant.1.ranged, c.scaled.ensures.sized)

pub returns-then-not-is_within-clause-yields : goal.returns-then-not-is_within-clause-yields
returns-then-not-is_within-clause-yields c =
    let at = goal.at.returns-then-not-is_within-clause-yields c in
    sum-leaves _ _ c.loop-term.invariant.1 c.in-Some.ensures.steps.1.0 (two at.In-Some) (next at.After-plus-so_far) (sym c.is_within.ensures ∙ c.if-not-is_within.true)

pub loop-term-preserved : goal.loop-term-preserved
loop-term-preserved c =
    let at = goal.at.loop-term-preserved c in (
      c.next.ensures.steps.0 ∙ c.loop-term.invariant.0,
      sum-goes _ _ c.loop-term.invariant.1 c.in-Some.ensures.steps.1.0 (two at.In-Some) (next at.After-plus-so_far) (sym c.is_within.ensures ∙ c.if-not-is_within.false),
    )

pub returns-clause-yields : goal.returns-clause-yields
returns-clause-yields c = summing-end _ c.loop-term.invariant.1 (omega (arith, c.in-None.ensures.steps.1.0, c.loop-term.invariant.0))

pub returns-clause-sized : goal.returns-clause-sized
returns-clause-sized c = range-sized c.args.known.p c.loop-term.so_far c.args.known.ready.p-high c.loop-term.invariant.1.ranged
