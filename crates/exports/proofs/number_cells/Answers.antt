-- `exports::number_cells`: before each cell, those before it hold their own numbers.
use Rattle.exports.proofs.Numbered.{numbering-none, numbering-next}
use Rattle.exports.proofs.number_cells.Goals as goal

pub loop-i-init : goal.loop-i-init
loop-i-init c = numbering-none c.args.cells.now

pub loop-i-preserved : goal.loop-i-preserved
loop-i-preserved c = numbering-next c.loop-i.invariant c.loop-i-test.true
