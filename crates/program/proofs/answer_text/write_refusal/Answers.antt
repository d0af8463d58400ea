-- The numbers are written into the part after the word.
use Rattle.meaning.specs.Text.{bytes}
use Rattle.meaning.specs.Program.{refusal_text}
use Rattle.refusal.specs.Refusal.{number_of, refused_reply}
use Rattle.program.specs.Texts.{pair_text}
use Rattle.program.proofs.Texts.{refusal-parts}
use Rattle.output.proofs.Writing.{Halves, first-room, rest-room, written-whole}
use Rattle.program.proofs.answer_text.write_refusal.Goals as goal
use Rattle.program.proofs.answer_text.write_refusal.Goals.{Start}

halves : (s : Start)
    → Halves (refusal_text (refused_reply s.args.refused)) (bytes "refused\t") (pair_text (number_of s.args.refused.refusal) s.args.refused.place) s.args.part.now
halves s = record { parts = refusal-parts (number_of s.args.refused.refusal) s.args.refused.place; room = s.requires }

pub returns : goal.returns
unfolding bytes
returns c = written-whole (halves (goal.at.returns c).Start) c.write_bytes-at.ensures (rw (c.from.ensures, c.from-number.ensures) at c.write_pair.ensures)

pub write_bytes-at-requires : goal.write_bytes-at-requires
unfolding bytes
write_bytes-at-requires c = first-room (halves (goal.at.write_bytes-at-requires c).Start)

pub write_pair-requires : goal.write_pair-requires
unfolding bytes
write_pair-requires c = rw (c.from.ensures, c.from-number.ensures) (rest-room (halves (goal.at.write_pair-requires c).Start) c.write_bytes-at.ensures)
