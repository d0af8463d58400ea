-- The list's own refusal, or what is known where it is read.
use mathlib.Core.Path.{refl}
use Rattle.service.proofs.ReadList.{survey-refused, survey-counted}
use Rattle.program.specs.Made.{PartsYield}
use Rattle.program.proofs.Answering.{passed-on}
use Rattle.program.proofs.Responding.{list-refused, list_read}
use native.Mathlib.Omega.{arith}
use Rattle.program.proofs.reading.read_parts.Goals as goal

pub returns-in_err-found : goal.returns-in_err-found
returns-in_err-found c =
    passed-on (PartsYield _) _ _ c.from_residual.ensures.1 (list-refused c.requires _ _ (survey-refused _ _ c.survey.ensures.yields _ c.in_err-found.was))

pub returns : goal.returns
returns c =
    let read = list_read c.requires (survey-counted _ _ c.survey.ensures.yields c.survey.ensures.prime _ c.in_ok-found.was) in
    (refl, record { given = read.given; listed = read.listed; cells_are = omega (arith, read.cells_are, c.from.ensures) })
