-- Before each line, `ReadingInputs` holds: each of the lines before it is a number, and the first of these are stored.
use Prim.Native.Nat.{◌-◌}
use lib.ListN.{length}
use Rattle.program.proofs.Inputs.{ReadingInputs}
use Rattle.program.proofs.input.read_inputs.Given as goal

abbrev pub invariant-loop-at : goal.invariant-loop-at
invariant-loop-at l = ReadingInputs l.text.bytes.now l.start l.inputs l.at l.count

abbrev pub decreases-loop-at : goal.decreases-loop-at
decreases-loop-at l = length l.text.bytes.now - l.at
