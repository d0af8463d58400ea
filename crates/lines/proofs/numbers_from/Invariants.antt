-- The numbers of the fields before the one at `at` stand: with the fields that are left they say what all fields say.
use Rattle.text.specs.Place.{end_of, up_to, fields_from}
use Rattle.text.proofs.Ends.{InLine}
use Rattle.lines.proofs.Lines.{ReadingNumbers}
use Rattle.lines.proofs.numbers_from.Given as goal

abbrev pub invariant-loop-count : goal.invariant-loop-count
invariant-loop-count l =
    InLine l.text.bytes.now l.at (end_of l.text.bytes.now l.from)
    × ReadingNumbers (fields_from (up_to l.text.bytes.now l.from) l.from) (fields_from (up_to l.text.bytes.now l.from) l.at) l.initial.numbers l.numbers l.count
