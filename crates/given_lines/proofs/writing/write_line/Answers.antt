-- The line is begun with its word, and `Begun` holds of it before each number: what is left are the numbers from i on and the byte that ends the
-- line. The loop knows the part only as the word left it, so its invariant says of every line that was begun so how far it is now.
use mathlib.Core.Path.{refl}
use mathlib.Core.List.{List, ◌∷◌}
use Prim.Native.Nat.{ℕ, ◌+◌}
use native.Mathlib.Omega.{arith}
use lib.ListN.{get_or, drop}
use lib.IntN.{pos}
use Rattle.meaning.specs.Text.{number_text}
use Rattle.meaning.specs.Write.{given}
use Rattle.given_lines.specs.Given.{word_meaning, line_text}
use Rattle.given_lines.proofs.Texts.{Parts, parts-length, fields_ended, line-parts, field-parts, end-parts}
use Rattle.given_lines.proofs.Begun.{Begun, begun-with, begun-end, begun-length, next-starts, next-room, begun-next, byte_inside, begun-byte}
use Rattle.given_lines.proofs.writing.write_line.Goals as goal
use Rattle.given_lines.proofs.writing.write_line.Goals.{After-write_tabbed-at, At-loop-i, In-loop-i}

pub write_word-at-requires : goal.write_word-at-requires
write_word-at-requires c = omega (arith, c.requires, parts-length (line-parts (word_meaning c.args.line.word) c.args.line.numbers.now))

-- ---- at the loop: the line, the number at i, and what is left after it

abbrev line : At-loop-i → List ℕ
line c = line_text (given (word_meaning c.args.line.word) c.args.line.numbers.now)

-- what is written is the tab and the number at i
abbrev field : In-loop-i → List ℕ
field c = 9 ∷ number_text (get_or c.args.line.numbers.now c.loop-i.i (pos 0))

field-first : (c : In-loop-i)
    → Parts (fields_ended (drop c.loop-i.i c.args.line.numbers.now)) (field c) (fields_ended (drop (c.loop-i.i + 1) c.args.line.numbers.now))
field-first c = field-parts c.args.line.numbers.now c.loop-i.i c.loop-i-test.true

begun : (c : At-loop-i)
    → Begun (line c) c.args.part.now c.loop-i.part c.loop-i.at (fields_ended (drop c.loop-i.i c.args.line.numbers.now))
begun c = c.loop-i.invariant c.args.part.now (begun-with (line-parts (word_meaning c.args.line.word) c.args.line.numbers.now) c.requires c.write_word-at.ensures)

-- ---- the goals

pub slice_bounds-write_tabbed-count : goal.slice_bounds-write_tabbed-count
slice_bounds-write_tabbed-count c = next-starts (begun (goal.at.slice_bounds-write_tabbed-count c).At-loop-i) (field-first c)

pub slice_bounds-write_tabbed-start : goal.slice_bounds-write_tabbed-start
slice_bounds-write_tabbed-start c = next-starts (begun (goal.at.slice_bounds-write_tabbed-start c).At-loop-i) (field-first c)

pub write_tabbed-at-requires : goal.write_tabbed-at-requires
write_tabbed-at-requires c =
    rw c.whole_at.ensures
    (next-room (begun (goal.at.write_tabbed-at-requires c).At-loop-i) (field-first (goal.at.write_tabbed-at-requires c).In-loop-i))

pub loop-i-preserved : goal.loop-i-preserved
loop-i-preserved c before b =
    begun-next (c.loop-i.invariant before b) (field-first (goal.at.loop-i-preserved c).In-loop-i) (rw c.whole_at.ensures at c.write_tabbed-at.ensures)

pub bounds-part-at : goal.bounds-part-at
bounds-part-at c = byte_inside (begun (goal.at.bounds-part-at c).At-loop-i) (end-parts _ _ c.loop-i-test.false)

pub overflow_add-result : goal.overflow_add-result
overflow_add-result c = omega (arith, bounds-part-at c, begun-length (begun (goal.at.overflow_add-result c).At-loop-i))

pub returns : goal.returns
returns c = begun-end (begun-byte (begun (goal.at.returns c).At-loop-i) (end-parts _ _ c.loop-i-test.false)) refl
