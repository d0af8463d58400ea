-- A number of at most two digits by its tests, and any other by its length.
use mathlib.Core.Path.{sym, ◌∙◌}
use mir.Syntax.{w64}
use mir.Val.{SFits}
use borrow.Author.Rules.{rules}
use Rattle.given_lines.proofs.Digits.{one_more, two-more, more-sized}
use Rattle.given_lines.proofs.line.more_bytes.Goals as goal
use Rattle.given_lines.proofs.line.more_bytes.Goals.{Start}

pub returns-then-is_down_to : goal.returns-then-is_down_to
returns-then-is_down_to c =
    one_more c.args.x.0 c.requires (sym c.is_short.ensures ∙ c.if-is_short.true) (sym c.is_down_to.ensures ∙ c.if-is_down_to.true)

pub returns-then-is_short : goal.returns-then-is_short
returns-then-is_short c = two-more c.args.x.0 (sym c.is_short.ensures ∙ c.if-is_short.true) (sym c.is_down_to.ensures ∙ c.if-is_down_to.false)

-- the number that is measured is one of the machine's
fits : (s : Start) → SFits w64 s.args.x.0
fits s = search rules

pub overflow_sub-result : goal.overflow_sub-result
overflow_sub-result c =
    (more-sized c.args.x.0 c.is_sized.ensures c.if-is_sized.true (fits (goal.at.overflow_sub-result c).Start) c.number_length.ensures).0

pub returns-then-is_sized : goal.returns-then-is_sized
returns-then-is_sized c =
    (more-sized c.args.x.0 c.is_sized.ensures c.if-is_sized.true (fits (goal.at.returns-then-is_sized c).Start) c.number_length.ensures).1
