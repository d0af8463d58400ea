-- `service::checking::check`: the list's own refusal, or the check of the table.
use mathlib.Core.Path.{◌∙◌}
use Rattle.service.proofs.ReadList.{survey-refused, survey-counted, passed-on}
use Rattle.service.proofs.Checked.{check-refused, check-read}
use Rattle.service.proofs.checking.check.Goals as goal

pub check_table-requires : goal.check_table-requires
check_table-requires c = survey-counted c.args.list.now _ c.survey.ensures.yields c.survey.ensures.prime _ c.in_ok-found.was

pub returns-in_err-found : goal.returns-in_err-found
returns-in_err-found c =
    passed-on _ _ c.from_residual.ensures.1
    ∙ check-refused c.args.list.now c.args.table.now _ _ (survey-refused _ _ c.survey.ensures.yields _ c.in_err-found.was)

pub returns : goal.returns
returns c =
    let l = (survey-counted c.args.list.now _ c.survey.ensures.yields c.survey.ensures.prime _ c.in_ok-found.was).listed in
    c.check_table.ensures l ∙ check-read c.args.list.now c.args.table.now l
