-- Before each line, `Begun` holds of the text: what is left are the lines that are left.
use Rattle.meaning.specs.Write.{text_of}
use Rattle.given_lines.specs.Given.{lines_of, lines_left}
use Rattle.given_lines.proofs.Begun.{Begun}
use Rattle.given_lines.proofs.writing.write_text.Given as goal

abbrev pub invariant-loop-line : goal.invariant-loop-line
invariant-loop-line l = Begun (text_of (lines_of l.fn.given)) l.initial.part l.part l.written (text_of (lines_left l.line-iterator))
