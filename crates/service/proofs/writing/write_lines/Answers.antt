-- `service::writing::write_lines`: the walk that writes each line's cells, with what holds before each line as the invariant.
use mathlib.Core.Path.{◌∙◌}
use Rattle.service.specs.Taken.{Took}
use Rattle.service.proofs.Standing.{taken-here}
use Rattle.service.proofs.Written.{Writing, writing-first, writing-end, writing-next, cells-given, made-is, made-stand, next}
use Rattle.service.proofs.writing.write_lines.Goals as goal
use Rattle.service.proofs.writing.write_lines.Goals.{In-Some}

pub loop-line-init : goal.loop-line-init
loop-line-init c =
    let start = c.over-walk.ensures in
    (start.over, rw (start.at-start, start.first, start.none-counted) (writing-first c.args.list.now c.args.p c.args.values.now c.args.table.now c.told-values c.requires))

-- what held before the line that is taken, and the line
here : (c : In-Some) → Writing c.args.list.now c.args.p c.args.values.now c.args.table.now c.loop-line.table c.in-Some.line.before c.loop-line.walk.at c.in-Some.line.number
here c = let takes = c.in-Some.ensures in rw (takes.counts-before, takes.number_is) c.loop-line.invariant.1

took : (c : In-Some) → Took (here c).stands c.next.new.numbers c.in-Some.line c.next.new.self.at
took c = taken-here c.loop-line.invariant.0 c.in-Some.ensures (here c).stands

pub line_cells-requires : goal.line_cells-requires
line_cells-requires c =
    let l = (goal.at.line_cells-requires c).In-Some in
    rw c.from-first.ensures (cells-given (here l) (took l))

pub loop-line-preserved : goal.loop-line-preserved
loop-line-preserved c =
    let l = (goal.at.loop-line-preserved c).In-Some in
    let takes = c.in-Some.ensures in
    let w = here l in
    let t = took l in
    let yields = rw c.from-first.ensures at c.line_cells.ensures in
    let written = yields (cells-given w t) (next w _ _ t.left_is t.kept) (rw (made-is w t) (made-stand w _ _ t.left_is t.kept)) in (
      takes.same_list ∙ c.loop-line.invariant.0,
      rw (c.from-first.ensures, takes.counts-after, takes.number-after) (writing-next w _ _ t.left_is t.kept _ written t.next),
    )

pub returns : goal.returns
returns c = writing-end c.loop-line.invariant.1 (rw c.loop-line.invariant.0 at c.in_default.ensures)
