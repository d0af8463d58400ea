-- A line is a word with the numbers that belong to it: each way out is one law of `LineFields`.
use Rattle.lines.specs.Parsed.{NextAfter}
use Rattle.lines.proofs.LineFields.{no_line_there, no_word_there, line_there, goes-on}
use Rattle.lines.proofs.line_of.Goals as goal

pub returns-in_err-fields-clause-read : goal.returns-in_err-fields-clause-read
returns-in_err-fields-clause-read c =
    rw c.from_residual.ensures (no_line_there _ _ _ _ c.fields_of.ensures.yields c.in_err-fields.was _ c.fields_of.ensures.left)

pub returns-in_err-fields-clause-next : goal.returns-in_err-fields-clause-next
unfolding NextAfter
returns-in_err-fields-clause-next c = rw c.from_residual.ensures tt

pub returns-in_err-word-clause-read : goal.returns-in_err-word-clause-read
returns-in_err-word-clause-read c =
    rw c.from_residual-in_err-word.ensures
    (no_word_there _ _ _ _ c.fields_of.ensures.yields _ c.in_ok-fields.was c.in_err-word.was _ c.fields_of.ensures.left)

pub returns-in_err-word-clause-next : goal.returns-in_err-word-clause-next
unfolding NextAfter
returns-in_err-word-clause-next c = rw c.from_residual-in_err-word.ensures tt

pub returns-clause-read : goal.returns-clause-read
returns-clause-read c = line_there _ _ _ _ c.fields_of.ensures.yields _ c.in_ok-fields.was _ c.in_ok-word.was _ c.fields_of.ensures.left

pub returns-clause-next : goal.returns-clause-next
unfolding NextAfter
returns-clause-next c = goes-on _ _ _ _ c.fields_of.ensures.yields _ c.in_ok-fields.was
