-- `exports::number_cells`: before each cell, those before it hold their own numbers.
use Rattle.exports.proofs.Numbered.{Numbering}
use Rattle.exports.proofs.number_cells.Given as goal

abbrev pub invariant-loop-i : goal.invariant-loop-i
invariant-loop-i l = Numbering l.initial.cells l.cells l.i
