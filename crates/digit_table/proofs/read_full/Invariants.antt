-- `digit_table::read_full`: no more is read than the buffer holds.
use Rattle.std.proofs.Common.{◌≤◌, length}
use Rattle.digit_table.proofs.read_full.Given as goal

abbrev pub invariant-loop : goal.invariant-loop
invariant-loop g l = l.done ≤ length l.buffer
