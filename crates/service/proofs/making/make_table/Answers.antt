-- `service::making::make_table`: the length, the count of inputs, each input, and then the lines.
use mathlib.Core.Path.{◌≡◌, sym, ◌∙◌}
use lib.ListN.{length}
use Rattle.service.specs.Walk.{ListRead}
use Rattle.service.proofs.ReadList.{prime-by, cells-by, inputs-by}
use Rattle.service.proofs.Made.{outside-found, none-outside, column-of, made-wrong-length, made-wrong-count, made-outside, made-worked}
use Rattle.service.proofs.making.make_table.Goals as goal
use Rattle.service.proofs.making.make_table.Goals.{After-from, Else-inputs-found, Else-table-from}

-- as many cells and inputs as the list has, by any reading of it
cells_are : (c : After-from) → let S = c in
    (l : ListRead S.args.list.now) → c.from.result ≡ l.last.cells
cells_are c l = c.from.ensures ∙ cells-by c.requires l

long : (c : Else-table-from) → let S = c in
    (l : ListRead S.args.list.now) → length S.args.table.now ≡ l.last.cells
long c l = c.if-table-from.false ∙ c.from.ensures ∙ cells-by c.requires l

so-many : (c : Else-inputs-found) → let S = c in
    (l : ListRead S.args.list.now) → length S.args.inputs.now ≡ l.last.inputs
so-many c l = c.if-inputs-found.false ∙ inputs-by c.requires l

pub returns-then-table-from : goal.returns-then-table-from
returns-then-table-from c l =
    rw (c.at.ensures.refusal, c.at.ensures.place)
    (made-wrong-length l.last l.lines c.args.inputs.now c.args.table.now (λ e. c.if-table-from.true (e ∙ sym (cells_are (goal.at.returns-then-table-from c).After-from l))))

pub returns-then-inputs-found : goal.returns-then-inputs-found
returns-then-inputs-found c l =
    rw (c.at-then-inputs-found.ensures.refusal, c.at-then-inputs-found.ensures.place)
    (made-wrong-count l.last l.lines c.args.inputs.now c.args.table.now (long (goal.at.returns-then-inputs-found c).Else-table-from l)
    (λ e. c.if-inputs-found.true (e ∙ sym (inputs-by c.requires l))))

pub returns-in-Some : goal.returns-in-Some
returns-in-Some c l =
    let outside = outside-found c.args.inputs.now c.args.found.p _ c.first_outside.ensures _ c.in-Some.is in
    rw (c.at-in-Some.ensures.refusal, c.at-in-Some.ensures.place)
    (made-outside l.last l.lines c.args.inputs.now c.args.table.now (long (goal.at.returns-in-Some c).Else-table-from l) (so-many (goal.at.returns-in-Some c).Else-inputs-found l) _
    (rw (← prime-by c.requires l) outside))

pub make_true-requires : goal.make_true-requires
make_true-requires c =
    let l = c.requires.listed in
    let None-found = none-outside c.args.inputs.now c.args.found.p _ c.first_outside.ensures c.in_default.is in (
      record { listed = l; column = column-of l.last c.args.inputs.now (so-many (goal.at.make_true-requires c).Else-inputs-found l) (rw (← prime-by c.requires l) None-found) },
      c.requires.prime,
      long (goal.at.make_true-requires c).Else-table-from l,
    )

pub returns : goal.returns
returns c l =
    let None-found = none-outside c.args.inputs.now c.args.found.p _ c.first_outside.ensures c.in_default.is in
    c.make_true.ensures l
    ∙ made-worked l.last l.lines c.args.inputs.now c.args.table.now (long (goal.at.returns c).Else-table-from l) (so-many (goal.at.returns c).Else-inputs-found l)
    (rw (← prime-by c.requires l) None-found)
