-- `service::making::make_true`: a false statement leaves the table as it was; where there is none, every cell is written.
use mathlib.Core.Path.{ap, ◌∙◌}
use Rattle.meaning.specs.Reply.{reply, making}
use Rattle.service.specs.Make.{WriteGiven}
use Rattle.service.proofs.ReadList.{passed-on}
use Rattle.service.proofs.Made.{false-made, write-given, true-made}
use Rattle.service.proofs.making.make_true.Goals as goal
use Rattle.service.proofs.making.make_true.Goals.{In_ok-work_lines}

pub returns-in_err-work_lines : goal.returns-in_err-work_lines
returns-in_err-work_lines c l =
    rw (passed-on _ _ c.from_residual.ensures.1) (false-made l.lines l.last c.args.inputs.now _ _ (c.work_lines.ensures l) _ _ c.in_err-work_lines.was)

-- the values of true statements, which writing is given
abbrev given : (c : In_ok-work_lines) → WriteGiven c.args.list.now c.args.p c.work_lines.new.values c.args.table.now
given c = write-given c.args.list.now c.args.table.now c.args.p c.args.inputs.now _ c.requires.0 c.requires.1 c.requires.2 _ (c.work_lines.ensures c.requires.0.listed) c.in_ok-work_lines.was

pub write_lines-requires : goal.write_lines-requires
write_lines-requires c = given (goal.at.write_lines-requires c).In_ok-work_lines

pub returns : goal.returns
returns c l =
    ap (making (reply 0 0)) (c.write_lines.ensures (given (goal.at.returns c).In_ok-work_lines))
    ∙ true-made c.args.list.now c.args.table.now c.args.p c.args.inputs.now _ c.requires.0 c.requires.1 c.requires.2 _ (c.work_lines.ensures c.requires.0.listed) c.in_ok-work_lines.was l _
