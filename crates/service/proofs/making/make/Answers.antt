-- `service::making::make`: the list's own refusal, or the making of the table.
use mathlib.Core.Path.{◌∙◌}
use Rattle.service.proofs.ReadList.{survey-refused, survey-counted, passed-on}
use Rattle.service.proofs.Made.{make-refused, make-read, makes-by}
use Rattle.service.proofs.making.make.Goals as goal

pub make_table-requires : goal.make_table-requires
make_table-requires c = survey-counted c.args.list.now _ c.survey.ensures.yields c.survey.ensures.prime _ c.in_ok-found.was

pub returns-in_err-found : goal.returns-in_err-found
returns-in_err-found c =
    makes-by (rw (passed-on _ _ c.from_residual.ensures.1) (make-refused c.args.list.now c.args.inputs.now c.args.table.now _ _
    (survey-refused _ _ c.survey.ensures.yields _ c.in_err-found.was)))

pub returns : goal.returns
returns c =
    let l = (survey-counted c.args.list.now _ c.survey.ensures.yields c.survey.ensures.prime _ c.in_ok-found.was).listed in
    makes-by (c.make_table.ensures l ∙ make-read c.args.list.now c.args.inputs.now c.args.table.now l)
