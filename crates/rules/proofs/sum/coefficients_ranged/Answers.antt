-- The first number, and the first of each two after it.
use mathlib.Core.Bool.{true, false}
use mathlib.Core.Path.{◌≡◌}
use borrow.Author.Rules.{rules}
use borrow.Author.Tests.{tests}
use Rattle.std.proofs.lemmas.Iterator.{cases_from_all}
use Rattle.meaning.specs.Number.{in_range}
use Rattle.meaning.specs.Refusal.{all}
use Rattle.rules.proofs.Pairs.{yields-firsts, tested-all}
use Rattle.rules.proofs.sum.coefficients_ranged.Goals as goal

pub returns-then-in_range : goal.returns-then-in_range
unfolding all
returns-then-in_range c =
    let ranged = in_range c.args.known.p in
    rw (← c.whole_at.ensures, ← c.in_range.ensures, c.if-in_range.true)
    (tested-all ranged _ _ (cases_from_all _ _ _ (λ z. ranged z ≡ true) (λ z. ranged z ≡ false) c.all.ensures.ran
    (yields-firsts c.args.numbers.now c.requires c.chunks_exact.ensures.rest c.chunks_exact.ensures.size)
    (λ x q k. search (rules, tests)) (λ x q k. search (rules, tests))))

pub returns-else-in_range : goal.returns-else-in_range
unfolding all
returns-else-in_range c = rw (← c.whole_at.ensures, ← c.in_range.ensures, c.if-in_range.false)
