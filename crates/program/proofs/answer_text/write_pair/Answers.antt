-- The second number is written into the part after the first.
use Rattle.output.specs.Written.{field_text}
use Rattle.program.specs.Texts.{pair_text}
use Rattle.program.proofs.Texts.{pair_parts}
use Rattle.output.proofs.Writing.{Halves, first-room, rest-room, written-whole}
use Rattle.program.proofs.answer_text.write_pair.Goals as goal
use Rattle.program.proofs.answer_text.write_pair.Goals.{Start}

halves : (s : Start)
    → Halves (pair_text s.args.first s.args.second) (field_text s.args.first 9) (field_text s.args.second 10) s.args.part.now
halves s = record { parts = pair_parts s.args.first s.args.second; room = s.requires }

pub write_field-at-requires : goal.write_field-at-requires
write_field-at-requires c = first-room (halves (goal.at.write_field-at-requires c).Start)

pub write_field-requires : goal.write_field-requires
write_field-requires c = rest-room (halves (goal.at.write_field-requires c).Start) c.write_field-at.ensures

pub returns : goal.returns
returns c = written-whole (halves (goal.at.returns c).Start) c.write_field-at.ensures c.write_field.ensures
