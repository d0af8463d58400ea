-- `service::checking::check_rows`: the walk over the rows of each line, with what holds before each line as the invariant.
use mathlib.Core.Path.{◌≡◌, refl, ◌∙◌}
use Prim.Native.Nat.{ℕ, ◌+◌, ◌<◌}
use Rattle.meaning.specs.Machine.{past_u64}
use Rattle.meaning.proofs.Law.{below_at}
use Rattle.std.specs.Prelude.{Err}
use Rattle.service.specs.Taken.{Took}
use Rattle.reader.proofs.Placing.{passed_on, refused_as, gone_on}
use Rattle.refusal.specs.declared.refused.Refusal.TheVariants.{RowFails}
use Rattle.service.proofs.Standing.{keeps-rules, taken-here}
use Rattle.service.proofs.Places.{placed-next}
use Rattle.service.proofs.Checked.{Checking, checking-first, checking-end, row-replied, checking-next, row_inside, row_fits, rows-given}
use borrow.Author.Rules.{rules}
use Rattle.service.proofs.checking.check_rows.Goals as goal
use Rattle.service.proofs.checking.check_rows.Goals.{In-Some, After-line_rows}

pub loop-line-init : goal.loop-line-init
loop-line-init c =
    let start = c.over-walk.ensures in
    (start.over, rw (start.at-start, start.first, start.none-counted) (checking-first c.args.list.now c.args.table.now c.args.p _ refl c.requires))

-- what held before the line that is taken, and the line
here : (c : In-Some) → Checking c.args.list.now c.args.table.now c.args.p c.loop-line.places c.in-Some.line.before c.loop-line.walk.at c.in-Some.line.number
here c = let takes = c.in-Some.ensures in rw (takes.counts-before, takes.number_is) c.loop-line.invariant.1

took : (c : In-Some) → Took (here c).stands c.next.new.numbers c.in-Some.line c.next.new.self.at
took c = taken-here c.loop-line.invariant.0 c.in-Some.ensures (here c).stands

pub invariant_of-remainders : goal.invariant_of-remainders
invariant_of-remainders c = record { remainders = λ i h. below_at c.args.p c.args.table.now i c.requires.below h }

pub line_rows-requires : goal.line_rows-requires
line_rows-requires c = let l = (goal.at.line_rows-requires c).In-Some in rows-given (here l) (took l)

-- the row that fails is one of the line's, so that its number is a small one
row-small : (c : After-line_rows) (row : ℕ) → c.line_rows.result ≡ Err row → c.in-Some.line.before.rows + row < past_u64
row-small c row is =
    let l = (goal.at-After-line_rows c).In-Some in
    let yields = c.line_rows.ensures (rows-given (here l) (took l)) in
    row_fits (here l) _ (keeps-rules (took l)) (row_inside (here l) _ _ (took l).left_is _ yields _ is)

pub map_err-requires : goal.map_err-requires
map_err-requires c row is = let small = row-small (goal.at.map_err-requires c).After-line_rows row is in search (rules, small)

pub returns-in_err-map_err : goal.returns-in_err-map_err
returns-in_err-map_err c =
    let l = (goal.at.returns-in_err-map_err c).In-Some in
    let yields = c.line_rows.ensures (rows-given (here l) (took l)) in
    let (row, is, given, out) = passed_on c.line_rows.result c.from_residual.result _ c.map_err.ensures.cases c.in_err-map_err.was c.from_residual.ensures.1 in
    let so : (c.in_err-map_err.field-0.0.refusal ≡ RowFails) × (c.in_err-map_err.field-0.0.place ≡ c.in-Some.line.before.rows + row) = search (rules, given) in
    λ m. rw (refused_as out so.0 so.1) (row-replied (here l) _ _ (took l).left_is _ yields row is (record { refusal = RowFails; place = c.in-Some.line.before.rows + row }) refl refl m)

pub take_place-requires : goal.take_place-requires
take_place-requires c =
    let l = (goal.at.take_place-requires c).In-Some in
    ((here l).stands.few, (took l).next.few.values-most)

pub loop-line-preserved : goal.loop-line-preserved
loop-line-preserved c =
    let l = (goal.at.loop-line-preserved c).In-Some in
    let takes = c.in-Some.ensures in
    let w = here l in
    let t = took l in
    let yields = c.line_rows.ensures (rows-given w t) in
    let placed = placed-next _ _ _ _ _ _ w.stands.sound (keeps-rules t) w.placed w.stands.counted t.next.counted t.one_more
    t.next.few.values-most in (
      takes.same_list ∙ c.loop-line.invariant.0,
      rw (takes.counts-after, takes.number-after) (checking-next w _ _ t.left_is _ yields (gone_on c.line_rows.result _ c.map_err.ensures.cases c.in_ok-map_err.was) _ t.next (rw c.take_place.ensures placed)),
    )

pub returns : goal.returns
returns c = checking-end c.loop-line.invariant.1 (rw c.loop-line.invariant.0 at c.in_default.ensures)
