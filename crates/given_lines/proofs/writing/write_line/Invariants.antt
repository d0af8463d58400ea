-- The line is begun with its word, and `Begun` holds of it before each number: what is left are the numbers from i on and the byte that ends the
-- line. The loop knows the part only as the word left it, so its invariant says of every line that was begun so how far it is now.
use mathlib.Core.List.{List}
use Prim.Native.Nat.{ℕ}
use lib.ListN.{drop}
use Rattle.given_lines.specs.Given.{line_text, line_meaning}
use Rattle.given_lines.proofs.Texts.{fields_ended}
use Rattle.given_lines.proofs.Begun.{Begun}
use Rattle.given_lines.proofs.writing.write_line.Given as goal

abbrev pub invariant-loop-i : goal.invariant-loop-i
invariant-loop-i l =
    (before : List ℕ) → Begun (line_text (line_meaning l.line)) before l.initial.part l.initial.at (fields_ended l.line.numbers.now)
    → Begun (line_text (line_meaning l.line)) before l.part l.at (fields_ended (drop l.i l.line.numbers.now))
