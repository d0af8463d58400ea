-- `service::walk::counts_after`: what is known before the line, and how much the line adds.
use Rattle.service.proofs.Standing.{counted-after}
use Rattle.service.proofs.walk.counts_after.Goals as goal

pub returns-clause-yields : goal.returns-clause-yields
returns-clause-yields c =
    rw c.add.ensures (λ n s is keeps was. counted-after n s _ _ _ keeps was (c.line_size.ensures.yields n s is keeps))
