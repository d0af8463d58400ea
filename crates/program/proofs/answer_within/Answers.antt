-- What making replies is the answer: the table, which is then the first cells of the one that is lent, or the refusal.
use mathlib.Core.Path.{◌≡◌, subst, ◌∙◌}
use mathlib.Core.List.{List}
use Prim.Native.Nat.{ℕ}
use native.Mathlib.Omega.{arith}
use lib.ListN.{take, replicate}
use Rattle.meaning.specs.Refusal.{cell_limit}
use Rattle.program.specs.Answered.{Answered}
use Rattle.program.proofs.Answering.{take-replicate, making-answered}
use Rattle.program.proofs.Limits.{list-most}
use Rattle.program.proofs.answer_within.Goals as goal
use Rattle.program.proofs.answer_within.Goals.{Start}

pub slice_bounds-make-end : goal.slice_bounds-make-end
slice_bounds-make-end c = omega (arith, (list-most c.requires.0.listed).cells-most, c.requires.0.cells_are)

zeros : (c : Start) → take c.args.listed.cells c.args.table.now ≡ replicate c.args.listed.cells 0
zeros c =
    rw c.requires.2
    (take-replicate c.args.listed.cells cell_limit (omega (arith, (list-most c.requires.0.listed).cells-most, c.requires.0.cells_are)))

pub returns : goal.returns
returns c =
    subst (λ (answer : List ℕ). Answered answer c.args.output.now c.answer_making.new.output c.answer_making.result)
    (making-answered _ _ _ _ _ (zeros (goal.at.returns c).Start) _ (omega (arith, c.make-made.auto.table)) _ c.make-made.ensures ∙ c.requires.1)
    c.answer_making.ensures
