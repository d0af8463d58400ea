-- The second of each two numbers after the first.
use mathlib.Core.Bool.{true, false}
use mathlib.Core.Path.{◌≡◌}
use borrow.Author.Rules.{rules}
use borrow.Author.Tests.{tests}
use lib.ListN.{length}
use Rattle.std.proofs.lemmas.Iterator.{cases_from_all}
use Rattle.meaning.specs.Refusal.{is_made}
use Rattle.rules.proofs.Pairs.{yields-seconds, tested-all}
use Rattle.rules.proofs.sum.names_made.Goals as goal

pub returns : goal.returns
returns c =
    let made = is_made (length c.args.known.ends.now) in
    tested-all made _ _ (cases_from_all _ _ _ (λ z. made z ≡ true) (λ z. made z ≡ false) c.all.ensures.ran
    (yields-seconds c.args.numbers.now c.requires c.chunks_exact.ensures.rest c.chunks_exact.ensures.size)
    (λ x q k. search (rules, tests)) (λ x q k. search (rules, tests)))
