-- The walk over the lines, with what holds before each of them as the invariant.
use mathlib.Core.List.{List}
use Prim.Native.Nat.{ℕ, ◌-◌}
use lib.ListN.{length}
use Rattle.reader.proofs.Walk.{Walked}
use Rattle.reader.proofs.reading.survey_from.Given as goal

abbrev pub invariant-loop-at : goal.invariant-loop-at
invariant-loop-at l =
    (places : List ℕ) × Walked l.text.bytes.now l.start l.p l.state places l.at l.n

abbrev pub decreases-loop-at : goal.decreases-loop-at
decreases-loop-at l = length l.text.bytes.now - l.at
