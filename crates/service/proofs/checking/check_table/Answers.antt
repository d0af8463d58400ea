-- `service::checking::check_table`: the length, then the cells, then the rows.
use mathlib.Core.Path.{◌≡◌, sym, ◌∙◌}
use lib.ListN.{length}
use Rattle.service.specs.Walk.{ListRead}
use Rattle.service.proofs.ReadList.{prime-by, cells-by}
use Rattle.service.proofs.Checked.{large-found, none-large, all-below, checked-wrong-length, checked-cell, checked-rows}
use Rattle.service.proofs.checking.check_table.Goals as goal
use Rattle.service.proofs.checking.check_table.Goals.{After-from, Else-table-from}

-- as many cells as the list has, by any reading of it
cells_are : (c : After-from) → let S = c in
    (l : ListRead S.args.list.now) → c.from.result ≡ l.last.cells
cells_are c l = c.from.ensures ∙ cells-by c.requires l

long : (c : Else-table-from) → let S = c in
    (l : ListRead S.args.list.now) → length S.args.table.now ≡ l.last.cells
long c l = c.if-table-from.false ∙ c.from.ensures ∙ cells-by c.requires l

pub returns-then-table-from : goal.returns-then-table-from
returns-then-table-from c l =
    rw (c.at.ensures.refusal, c.at.ensures.place)
    (checked-wrong-length l.last l.lines c.args.table.now (λ e. c.if-table-from.true (e ∙ sym (cells_are (goal.at.returns-then-table-from c).After-from l))))

pub check_rows-requires : goal.check_rows-requires
check_rows-requires c =
    record {
      listed = c.requires.listed;
      prime = c.requires.prime;
      long = sym (long (goal.at.check_rows-requires c).Else-table-from c.requires.listed);
      below = all-below c.args.found.p c.args.table.now (none-large c.args.table.now c.args.found.p _ c.first_large.ensures c.in-None.is);
    }

pub returns-in-Some : goal.returns-in-Some
returns-in-Some c l =
    let large = large-found c.args.table.now c.args.found.p _ c.first_large.ensures _ c.in-Some.is in
    rw (c.at-in-Some.ensures.refusal, c.at-in-Some.ensures.place, c.from-in-Some.ensures)
    (checked-cell l.last l.lines c.args.table.now (long (goal.at.returns-in-Some c).Else-table-from l) _ (rw (← prime-by c.requires l) large))

pub returns-in-None : goal.returns-in-None
returns-in-None c l =
    let None-found = none-large c.args.table.now c.args.found.p _ c.first_large.ensures c.in-None.is in
    c.check_rows.ensures l
    ∙ checked-rows l.last l.lines c.args.table.now (long (goal.at.returns-in-None c).Else-table-from l) (rw (← prime-by c.requires l) None-found)
