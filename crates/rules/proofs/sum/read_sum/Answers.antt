-- A refusal by the rules 7 to 9 is passed on.
use mathlib.Core.Path.{sym, ◌∙◌}
use Rattle.rules.proofs.Rules.{passed-on}
use Rattle.rules.proofs.SumLine.{sum-early}
use Rattle.rules.proofs.sum.read_sum.Goals as goal

pub returns-in_err-early_broken-clause-yields : goal.returns-in_err-early_broken-clause-yields
returns-in_err-early_broken-clause-yields c = λ s meaning. passed-on _ _ c.from_residual.ensures.1
    ∙ sym (sum-early meaning _ (sym c.coefficients_ranged.ensures ∙ c.if-not-coefficients_ranged.false) (rw (← c.names_made.ensures) c.early_broken.ensures) c.in_err-early_broken.was)
