-- The digits before `end` spell `n`, which has as many digits: what is left of the field says what the whole field says.
use mathlib.Core.Bool.{true}
use mathlib.Core.Path.{◌≡◌, sym, ◌∙◌}
use Prim.Native.Nat.{◌*◌, ◌+◌, ◌-◌, ◌<◌, ◌≤◌}
use native.Mathlib.Omega.{arith}
use borrow.Author.Tests.{lt-leb}
use lib.ListN.{get_or}
use mathlib.Core.Logic.{◌⊎◌}
use Rattle.std.proofs.lemmas.Grind.{common_steps}
use Rattle.meaning.specs.Text.{is_digit}
use Rattle.text.specs.Place.{end_of}
use Rattle.text.proofs.Ends.{InLine, in-line}
use Rattle.text.proofs.Numbers.{ascii-digit}
use Rattle.text.proofs.Sizing.{Sizing, no_first, sizing-start, sizing-next, sizing-most, sizing-last}
use Rattle.text.proofs.size_from.Goals as goal
use Rattle.text.proofs.size_from.Goals.{Start, In-loop-at, then-n-le-LARGEST, else-n-le-LARGEST}

line : (c : Start) → InLine c.args.text.bytes.now c.args.at (end_of c.args.text.bytes.now c.args.at)
line c = in-line c.args.text.bytes.now c.args.text.ended c.args.at c.requires

pub returns-then-not-contains : goal.returns-then-not-contains
returns-then-not-contains c =
    let outside : (get_or c.args.text.bytes.now c.args.at 0 < 49) ⊎ (57 < get_or c.args.text.bytes.now c.args.at 0) = grind (arith, common_steps) in
    no_first (line (goal.at.returns-then-not-contains c).Start) outside

pub loop-at-init : goal.loop-at-init
loop-at-init c =
    let inside : (48 < get_or c.args.text.bytes.now c.args.at 0) × (get_or c.args.text.bytes.now c.args.at 0 ≤ 57) = grind (arith, common_steps) in
    (rw c.from-n.ensures (sizing-start (line (goal.at.loop-at-init c).Start) inside.0 inside.1), omega arith)

-- in a turn: a digit, and the size with it
digit : (c : In-loop-at) → is_digit (get_or c.args.text.bytes.now c.loop-at.end 0) ≡ true
digit c = ascii-digit _ ∙ sym c.is_ascii_digit.ensures.value ∙ c.loop-at-test.true

next : (c : In-loop-at) → let now = c.loop-at in
    Sizing c.args.text.bytes.now c.args.at (end_of c.args.text.bytes.now c.args.at) (10 * now.n + (get_or c.args.text.bytes.now now.end 0 - 48)) (now.end + 1)
next c = sizing-next c.loop-at.invariant.0 (digit c)

pub returns-then-end-at-ge-MOST_DIGITS : goal.returns-then-end-at-ge-MOST_DIGITS
returns-then-end-at-ge-MOST_DIGITS c = sizing-most c.loop-at.invariant.0 (digit (goal.at.returns-then-end-at-ge-MOST_DIGITS c).In-loop-at) c.if-end-at-ge-MOST_DIGITS.true

pub loop-at-smaller : goal.loop-at-smaller
loop-at-smaller c = omega (arith, (next (goal.at.loop-at-smaller c).In-loop-at).place.found.low)

pub loop-at-preserved : goal.loop-at-preserved
loop-at-preserved c = (rw c.from.ensures (next (goal.at.loop-at-preserved c).In-loop-at), omega arith)

pub returns : goal.returns
returns c =
    let no_digit = ascii-digit _ ∙ sym c.is_ascii_digit.ensures.value ∙ c.loop-at-test.false in
    rw c.then_some.ensures (sizing-last c.loop-at.invariant.0 _ no_digit
    (λ over. elim c.if-n-le-LARGEST.branch [ then-n-le-LARGEST w ↦ absurd (omega (arith, w.if-n-le-LARGEST.true)) | else-n-le-LARGEST w ↦ w.then_some-is ∙ lt-leb _ _ over ])
    (λ small. elim c.if-n-le-LARGEST.branch [ then-n-le-LARGEST w ↦ w.then_some-is ∙ w.is_end.ensures | else-n-le-LARGEST w ↦ absurd (omega (arith, w.if-n-le-LARGEST.false)) ]))
