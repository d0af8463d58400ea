-- The count is written into the part after the word.
use Rattle.meaning.specs.Text.{bytes}
use Rattle.output.specs.Written.{field_text}
use Rattle.program.specs.Texts.{heading_text}
use Rattle.program.proofs.Texts.{heading-parts}
use Rattle.output.proofs.Writing.{Halves, first-room, rest-room, written-whole}
use Rattle.program.proofs.answer_text.write_heading.Goals as goal
use Rattle.program.proofs.answer_text.write_heading.Goals.{Start}

halves : (s : Start)
    → Halves (heading_text s.args.count) (bytes "table\t") (field_text s.args.count 10) s.args.part.now
halves s = record { parts = heading-parts s.args.count; room = s.requires }

pub write_bytes-at-requires : goal.write_bytes-at-requires
unfolding bytes
write_bytes-at-requires c = first-room (halves (goal.at.write_bytes-at-requires c).Start)

pub write_field-requires : goal.write_field-requires
unfolding bytes
write_field-requires c = rest-room (halves (goal.at.write_field-requires c).Start) c.write_bytes-at.ensures

pub returns : goal.returns
unfolding bytes
returns c = written-whole (halves (goal.at.returns c).Start) c.write_bytes-at.ensures c.write_field.ensures
