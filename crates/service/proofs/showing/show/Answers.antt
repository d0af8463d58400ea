-- `service::showing::show`: the part of the table that `stretch_of` names, where the list is read and the length is right.
use mathlib.Core.Path.{◌≡◌, sym, ap, ◌∙◌}
use Prim.Native.Nat.{◌≤◌}
use native.Mathlib.Omega.{arith}
use lib.ListN.{length}
use borrow.Author.Rules.{rules}
use Rattle.service.specs.Show.{cell_place}
use Rattle.service.specs.Walk.{CountsGiven}
use Rattle.service.proofs.ReadList.{survey-refused, survey-counted}
use Rattle.service.proofs.Shown.{shown-refused, shown-wrong-length, shown-stretch, from-refused, from-wrong-length, from-stretch}
use Rattle.service.proofs.showing.show.Goals as goal
use Rattle.service.proofs.showing.show.Goals.{After-from, After-from-to}

-- the list was read, and its cells are counted
given : (c : After-from) → CountsGiven c.args.list.now c.in-Ok.found.p c.in-Ok.found.counts
given c = survey-counted c.args.list.now _ c.survey.ensures.yields c.survey.ensures.prime _ c.in-Ok.is

cells_are : (c : After-from) → (given c).listed.last.cells ≡ c.from.result
cells_are c = (given c).counts-are.cells_are ∙ sym c.from.ensures

pub stretch_of-cells-requires : goal.stretch_of-cells-requires
stretch_of-cells-requires c = (given (goal.at.stretch_of-cells-requires c).After-from).listed

-- a table of another length is shown nothing of
other : (c : After-from) → (length c.args.table.now ≡ c.from.result → ⊥) → length c.args.table.now ≡ (given c).listed.last.cells → ⊥
other c h e = h (e ∙ cells_are c)

pub returns-then-table-from-clause-cells : goal.returns-then-table-from-clause-cells
returns-then-table-from-clause-cells c =
    let counted = (goal.at.returns-then-table-from-clause-cells c).After-from in
    shown-wrong-length _ c.args.table.now c.args.line (given counted).listed (other counted c.if-table-from.true)

pub returns-then-table-from-clause-place : goal.returns-then-table-from-clause-place
returns-then-table-from-clause-place c =
    let counted = (goal.at.returns-then-table-from-clause-place c).After-from in
    ap (cell_place c.args.table.ref_ptr) (from-wrong-length _ c.args.table.now c.args.line (given counted).listed (other counted c.if-table-from.true))

-- the part lies in the table
inside : (c : After-from-to) → (c.from-from.result ≤ c.from-to.result) × (c.from-to.result ≤ length c.args.table.now)
inside c =
    let read = survey-counted c.args.list.now _ c.survey.ensures.yields c.survey.ensures.prime _ c.in-Ok.is in
    let cells = read.counts-are.cells_are ∙ sym c.from.ensures in
    let s = c.stretch_of-cells.ensures read.listed in
    rw (c.from-from.ensures, c.from-to.ensures) (s.ordered, omega (arith, s.inside, cells, c.if-table-from.false))

pub offset_bounds-table-from : goal.offset_bounds-table-from
offset_bounds-table-from c = let i = inside (goal.at.offset_bounds-table-from c).After-from-to in search (rules, i.0, i.1)

pub slice_bounds-result-count-2 : goal.slice_bounds-result-count-2
slice_bounds-result-count-2 c = let i = inside (goal.at.slice_bounds-result-count-2 c).After-from-to in search (rules, i.0, i.1)

pub slice_bounds-result-start-2 : goal.slice_bounds-result-start-2
slice_bounds-result-start-2 c = let i = inside (goal.at.slice_bounds-result-start-2 c).After-from-to in search (rules, i.0, i.1)

pub slice_bounds-result-end-2 : goal.slice_bounds-result-end-2
slice_bounds-result-end-2 c = let i = inside (goal.at.slice_bounds-result-end-2 c).After-from-to in search (rules, i.0, i.1)

pub returns-in_default-clause-cells : goal.returns-in_default-clause-cells
returns-in_default-clause-cells c =
    shown-refused c.args.list.now c.args.table.now c.args.line _ _ (survey-refused _ _ c.survey.ensures.yields _ c.in_default.is)

pub returns-in_default-clause-place : goal.returns-in_default-clause-place
returns-in_default-clause-place c =
    ap (cell_place c.args.table.ref_ptr)
    (from-refused c.args.list.now c.args.table.now c.args.line _ _ (survey-refused _ _ c.survey.ensures.yields _ c.in_default.is))

pub returns-clause-cells : goal.returns-clause-cells
returns-clause-cells c =
    let counted = (goal.at.returns-clause-cells c).After-from in
    let l = (given counted).listed in
    let long : length c.args.table.now ≡ l.last.cells = omega (arith, cells_are counted, c.if-table-from.false) in
    rw (c.from-from.ensures, c.from-to.ensures) (shown-stretch _ c.args.table.now c.args.line l long _ (c.stretch_of-cells.ensures l))

pub returns-clause-place : goal.returns-clause-place
returns-clause-place c =
    let counted = (goal.at.returns-clause-place c).After-from in
    let l = (given counted).listed in
    let long : length c.args.table.now ≡ l.last.cells = omega (arith, cells_are counted, c.if-table-from.false) in
    rw (c.from-from.ensures)
    (ap (cell_place c.args.table.ref_ptr) (from-stretch _ c.args.table.now c.args.line l long _ (c.stretch_of-cells.ensures l)))
