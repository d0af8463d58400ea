-- The reply to what `survey` found. A reply that is the definitions' is exact.
use mathlib.Core.Path.{◌≡◌, ◌∙◌}
use Rattle.meaning.specs.Reply.{read_reply}
use Rattle.reader.specs.Read.{answer_meaning}
use Rattle.reader.proofs.Exact.{passed-on, refused-replied, counts-replied, reads-exactly-as-replied}
use Rattle.reader.proofs.reading.read.Goals as goal
use Rattle.reader.proofs.reading.read.Goals.{After-from_residual, After-from}

refused : (c : After-from_residual) → answer_meaning c.from_residual.result ≡ read_reply c.args.list.now
refused c = passed-on _ _ c.from_residual.ensures.1 ∙ refused-replied c.args.list.now _ c.survey.ensures.yields c.in_err-found.was

pub returns-in_err-found-clause-replied : goal.returns-in_err-found-clause-replied
returns-in_err-found-clause-replied c = refused c

pub returns-in_err-found-clause-exact : goal.returns-in_err-found-clause-exact
returns-in_err-found-clause-exact c = reads-exactly-as-replied _ _ (refused c)

pub returns-clause-replied : goal.returns-clause-replied
returns-clause-replied c = rw c.from.ensures (counts-replied c.args.list.now _ c.survey.ensures.yields c.in_ok-found.was)

pub returns-clause-exact : goal.returns-clause-exact
returns-clause-exact c = reads-exactly-as-replied _ _ (rw c.from.ensures (counts-replied c.args.list.now _ c.survey.ensures.yields c.in_ok-found.was))
