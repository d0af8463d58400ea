-- The walk over the lines, with where it stands before each of them as the invariant.
use Rattle.given_lines.specs.Given.{lines_of, lines_left}
use Rattle.writer.proofs.Surveying.{WalkedGiven}
use Rattle.writer.proofs.survey.survey_given.Given as goal

abbrev pub invariant-loop-n : goal.invariant-loop-n
invariant-loop-n l = WalkedGiven (lines_of l.fn.given) (lines_left l.n-iterator.iter) l.state l.total l.n-iterator.count
