-- Before each line, `Listing` holds of those that are written.
use Rattle.program.proofs.Texts.{listing_start, listing-turn, line-room}
use Rattle.program.proofs.answer_text.write_cells.Goals as goal

pub loop-i-init : goal.loop-i-init
loop-i-init c = listing_start _ _

pub write_pair-at-requires : goal.write_pair-at-requires
write_pair-at-requires c = rw c.from.ensures (line-room c.loop-i.invariant c.loop-i-test.true c.requires)

pub loop-i-preserved : goal.loop-i-preserved
loop-i-preserved c = listing-turn c.loop-i.invariant c.loop-i-test.true c.requires (rw c.from.ensures at c.write_pair-at.ensures)
