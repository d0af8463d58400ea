-- Before each number, `MeasuringLine` holds of the bytes that are counted.
use mathlib.Core.Path.{◌≡◌, ap, ◌∙◌}
use Prim.Native.Nat.{◌≤◌}
use native.Mathlib.Omega.{arith}
use lib.ListN.{length, get_or}
use lib.IntN.{pos}
use mir.Syntax.{w64}
use mir.Val.{SFits}
use Rattle.meaning.specs.Text.{number_text}
use Rattle.given_lines.specs.Given.{word_meaning}
use Rattle.given_lines.proofs.Texts.{word-most}
use Rattle.given_lines.proofs.Lengths.{number-most, line-start, line-turn, line-end}
use borrow.Author.Rules.{rules}
use Rattle.given_lines.proofs.measure.line_length.Goals as goal
use Rattle.given_lines.proofs.measure.line_length.Goals.{After-number_length}

pub overflow_add-total : goal.overflow_add-total
overflow_add-total c = omega (arith, word-most (word_meaning c.args.line.word))

pub overflow_add-total-2 : goal.overflow_add-total-2
overflow_add-total-2 c = omega (arith, word-most (word_meaning c.args.line.word))

-- the length that is added is that of number i, and it is short
measured : (c : After-number_length)
    → (c.number_length.result ≡ length (number_text (get_or c.args.line.numbers.now c.loop-i.i (pos 0)))) × (c.number_length.result ≤ 20)
measured c =
    let fits : SFits w64 c.whole_at.result.0 = search rules in
    (c.number_length.ensures ∙ ap (λ z. length (number_text z)) c.whole_at.ensures, omega (arith, c.number_length.ensures, number-most fits))

pub overflow_add-total-in-loop-i : goal.overflow_add-total-in-loop-i
overflow_add-total-in-loop-i c = omega (arith, (measured c).1)

pub overflow_add-total-in-loop-i-2 : goal.overflow_add-total-in-loop-i-2
overflow_add-total-in-loop-i-2 c = omega (arith, (measured c).1)

pub loop-i-preserved : goal.loop-i-preserved
loop-i-preserved c =
    line-turn c.loop-i.invariant c.loop-i-test.true c.if-total-gt-TEXT_LIMIT.false (measured c).0 (measured c).1

pub loop-i-init : goal.loop-i-init
loop-i-init c = line-start _ _ c.requires c.word_length.ensures

pub returns : goal.returns
returns c = line-end c.loop-i.invariant c.loop-i-test.false c.if-total-gt-TEXT_LIMIT-2.false
