-- Lines out of the three rows: which they are, and how one is taken.
use Rattle.std.specs.Prelude.{ℕ, ◌≡◌, Option as Answer, Some, None, List, [], ◌∷◌, ◌++◌}
use Rattle.std.proofs.Math.Option.{Option, none, some}
use Rattle.meaning.specs.Word.{Word}
use Rattle.meaning.specs.Write.{given, given_text, lines_given}
use Rattle.meaning.specs.Write.{Given as Meant}
use Rattle.text.specs.Word.{word_of}
use Rattle.text.specs.declared.Word.{Word as Known}
use Rattle.given_lines.specs.declared.given.Given.{Given}
use Rattle.given_lines.specs.declared.given.GivenLine.{GivenLine}
use Rattle.given_lines.specs.declared.given.Lines.{Lines}

-- a line's bytes, and the one that ends it. FORMAT 2.9
abbrev pub line_text : Meant → List ℕ
line_text g = given_text g ++ 10 ∷ []

-- the word of a line, if its code is one's
abbrev pub word_meaning : Answer Known → Option Word
word_meaning (Some w) = some (word_of w)
word_meaning None = none

-- a line, and the lines of three rows. FORMAT 9.23, 9.25
abbrev pub line_meaning : GivenLine → Meant
line_meaning l = given (word_meaning l.word) l.numbers.now

abbrev pub lines_of : Given → List Meant
lines_of g = lines_given g.words.now g.counts.now g.numbers.now

abbrev pub lines_left : Lines → List Meant
lines_left l = lines_of l.left

-- the first line is given, or none is left now or later
abbrev pub GivesLine : Lines → Answer GivenLine → Lines → Type 0
GivesLine old (Some line) new = lines_left old ≡ line_meaning line ∷ lines_left new
GivesLine old None new = (lines_left old ≡ []) × (lines_left new ≡ [])
