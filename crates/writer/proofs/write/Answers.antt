-- Each way out has the reply of the definition: no line, the refusal of a line or of the length, a buffer that is too short, or the text as it was
-- written.
use mathlib.Core.Path.{◌≡◌}
use native.Mathlib.Omega.{arith}
use mathlib.Core.List.{[]}
use Rattle.meaning.specs.Write.{lines_given}
use Rattle.writer.proofs.Surveying.{no-lines-given}
use Rattle.writer.proofs.Replies.{writes-by, write-too-long, write-no-line, write-not-read, write-no-room, write-written}
use Rattle.writer.proofs.write.Goals as goal
use Rattle.writer.proofs.write.Goals.{After-at}

none_given : (c : After-at) → lines_given c.args.words.now c.args.counts.now c.args.numbers.now ≡ []
none_given c = no-lines-given c.args.words.now c.args.counts.now c.args.numbers.now (grind arith)

pub returns-then-is_empty : goal.returns-then-is_empty
returns-then-is_empty c =
    writes-by
    (rw (c.at.ensures.refusal, c.at.ensures.place)
    (write-no-line _ c.args.buffer.now (none_given c)))

pub returns-then-buffer-length : goal.returns-then-buffer-length
returns-then-buffer-length c =
    let read = rw c.in-Ok-Some.field-0-is at c.in-Ok-Some.ensures in
    let at = c.at-then-buffer-length.ensures in
    writes-by (rw (at.refusal, at.place) (write-no-room _ c.args.buffer.now read.2 (omega (arith, c.if-buffer-length.true, read.0))))

pub returns-in-Err : goal.returns-in-Err
returns-in-Err c = writes-by (write-not-read _ c.args.buffer.now c.first_refusal.ensures c.in-Err.ensures)

pub returns-in-Ok-None : goal.returns-in-Ok-None
returns-in-Ok-None c =
    let at = c.at-in-Ok-None.ensures in
    writes-by (rw (at.refusal, at.place) (write-too-long _ c.args.buffer.now (rw c.in-Ok-None.field-0-is at c.in-Ok-None.ensures)))

pub returns-else-buffer-length : goal.returns-else-buffer-length
returns-else-buffer-length c =
    let read = rw c.in-Ok-Some.field-0-is at c.in-Ok-Some.ensures in
    writes-by (write-written _ c.args.buffer.now read.2 (omega (arith, c.if-buffer-length.false, read.0)) c.write_text.ensures)
