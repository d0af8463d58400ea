-- What is left of each rule where c is at most p is `is_narrow`.
use Rattle.rules.proofs.Digits.{rule-within}
use Rattle.rules.proofs.max.max_ends.Goals as goal

pub returns-then-not-are_narrow-clause-yields : goal.returns-then-not-are_narrow-clause-yields
returns-then-not-are_narrow-clause-yields c =
    let r = c.in_ok-c.ensures.within in
    rw (rule-within _ _ _ _ _ r, rule-within _ _ _ _ _ r, ← c.are_narrow.ensures, c.if-not-are_narrow.true)

pub returns-clause-yields : goal.returns-clause-yields
returns-clause-yields c =
    let r = c.in_ok-c.ensures.within in
    rw (rule-within _ _ _ _ _ r, rule-within _ _ _ _ _ r, ← c.are_narrow.ensures, c.if-not-are_narrow.false, c.greater.ensures.greater)
