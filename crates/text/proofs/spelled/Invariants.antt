-- The bytes before `i` are those of the spelling.
use Rattle.meaning.specs.Word.{kind_of}
use Rattle.text.specs.Place.{end_of}
use Rattle.text.specs.Word.{word_of}
use Rattle.text.proofs.Words.{Spelling}
use Rattle.text.proofs.spelled.Given as goal

abbrev pub invariant-loop-i : goal.invariant-loop-i
invariant-loop-i l = Spelling l.text.bytes.now l.at (end_of l.text.bytes.now l.at) (kind_of (word_of l.word)).spelling l.i
