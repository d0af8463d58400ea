-- One test, as in the contract.
use mathlib.Core.Path.{sym, ◌∙◌}
use Rattle.lines.specs.Parsed.{worded_by}
use Rattle.lines.proofs.worded.Goals as goal

pub returns-then-is_count : goal.returns-then-is_count
unfolding worded_by
returns-then-is_count c ns h = sym (rw (sym (c.is_count.ensures ns h) ∙ c.if-is_count.true))

pub returns : goal.returns
unfolding worded_by
returns c ns h = sym (rw (sym (c.is_count.ensures ns h) ∙ c.if-is_count.false))
