-- The numbers of the fields before the one at `at` stand: with the fields that are left they say what all fields say.
use mathlib.Core.Path.{◌≡◌}
use Prim.Native.Nat.{◌+◌}
use mir.Syntax.{w64}
use mir.Val.{to_z, of_z}
use lib.ListN.{set}
use Rattle.text.specs.Number.{NumberYield}
use Rattle.std.specs.Prelude.{None}
use Rattle.lines.specs.Parsed.{NumbersYield, Stored, leading_numbers}
use Rattle.text.specs.Place.{Found, end_of, up_to, fields_from}
use Rattle.meaning.specs.Text.{fields_of}
use Rattle.text.proofs.Places.{parts_after, fields-from, fields-found, parts_more, parts_none}
use Rattle.text.proofs.Ends.{InLine, in-line, place_inside, cut-length, before-end, place-next, place-later, same_line, ends-line}
use Rattle.text.proofs.Numbers.{number-is-none, number_is, number-ends}
use Rattle.lines.proofs.Lines.{ReadingNumbers, reading-start, reading-end, reading-none, reading-full, reading-turn}
use borrow.Author.Rules.{rules}
use native.Mathlib.Omega.{arith}
use Rattle.lines.proofs.numbers_from.Goals as goal
use Rattle.lines.proofs.numbers_from.Goals.{In-Some, In_default}

pub loop-count-init : goal.loop-count-init
loop-count-init c = (
  in-line c.args.text.bytes.now c.args.text.ended c.args.from c.requires,
  reading-start _ _ c.told-numbers,
)

-- where no number is read
stopped : (c : In_default) → let now = c.loop-count in
    (NumbersYield (up_to c.args.text.bytes.now c.args.from) c.args.from now.numbers None)
    × (Stored (leading_numbers (fields_from (up_to c.args.text.bytes.now c.args.from) c.args.from)) c.args.numbers.now now.numbers)
unfolding NumbersYield fields_of
stopped c =
    let now = c.loop-count in
    let line = up_to c.args.text.bytes.now c.args.from in
    reading-none now.invariant.1 (omega arith) (fields-from line now.at) (number-is-none _ _ (rw (same_line now.invariant.0) at c.number_at.ensures) c.in_default.is)

pub returns-in_default-clause-yields : goal.returns-in_default-clause-yields
returns-in_default-clause-yields c = (stopped c).0

pub returns-in_default-clause-left : goal.returns-in_default-clause-left
returns-in_default-clause-left c = (stopped c).1

-- what `number_at` answered, in the line
number : (c : In-Some) → let s = c.args in
    NumberYield (up_to s.text.bytes.now s.from) c.loop-count.at c.number_at.result
number c = rw (same_line c.loop-count.invariant.0) at c.number_at.ensures

-- after a number: where its field ends, which is in the line
ends : (c : In-Some) → let s = c.args in
    Found 9 (up_to s.text.bytes.now s.from) c.loop-count.at c.in-Some.number.end
ends c = number-ends _ _ (number c) c.in-Some.is

place : (c : In-Some) → let s = c.args in
    InLine s.text.bytes.now c.in-Some.number.end (end_of s.text.bytes.now s.from)
place c = let l = c.loop-count.invariant.0 in place-later l (ends c).low (omega (arith, cut-length l, (ends c).high))

-- and what is read with it
turn : (c : In-Some) → let s = c.args in
    let now = c.loop-count in
    let line = up_to s.text.bytes.now s.from in
    ReadingNumbers (fields_from line s.from) (parts_after 9 line c.in-Some.number.end) s.numbers.now (set now.numbers now.count c.in-Some.number.value) (now.count + 1)
unfolding fields_of
turn c =
    let s = c.args in
    let now = c.loop-count in
    let line = up_to s.text.bytes.now s.from in
    reading-turn now.invariant.1 (omega arith) (fields-found line (ends c)) (number_is _ _ (number c) c.in-Some.is)
    c.loop-count-test.true

-- the number that was read is what its bits say
kept : (c : In-Some) → to_z w64 (of_z w64 c.in-Some.number.value) ≡ c.in-Some.number.value
kept c = search rules

pub bounds-text-end : goal.bounds-text-end
bounds-text-end c = omega (arith, place_inside (place (goal.at.bounds-text-end c).In-Some))

pub returns-then-text-end-ne-TAB : goal.returns-then-text-end-ne-TAB
unfolding NumbersYield
returns-then-text-end-ne-TAB c =
    let at-of = (goal.at.returns-then-text-end-ne-TAB c).In-Some in
    let line = up_to c.args.text.bytes.now c.args.from in
    let l = place at-of in
    let end = c.in-Some.number.end in
    let last = ends-line l (ends at-of) c.if-text-end-ne-TAB.true in
    let all = reading-end (turn at-of) (omega arith) (parts_none 9 line end (omega (arith, cut-length l, last))) in
    record { yields = rw (kept at-of) (all.0, omega arith, omega (arith, cut-length l, last, l.found.low)); left = rw (kept at-of) all.1 }

pub loop-count-preserved : goal.loop-count-preserved
unfolding fields_of
loop-count-preserved c =
    let s = c.args in
    let line = up_to s.text.bytes.now s.from in
    let l = place (goal.at.loop-count-preserved c).In-Some in
    let end = c.in-Some.number.end in
    let inside = before-end l (λ e. omega (arith, c.if-text-end-ne-TAB.false)) in (
      place-next l (λ e. omega (arith, c.if-text-end-ne-TAB.false)),
      rw (kept (goal.at.loop-count-preserved c).In-Some) (rw (parts_more 9 line end (omega (arith, cut-length l, inside))) at (turn (goal.at.loop-count-preserved c).In-Some)),
    )

pub returns : goal.returns
unfolding NumbersYield fields_of
returns c =
    let now = c.loop-count in
    let full = reading-full now.invariant.1 (omega arith) (fields-from (up_to c.args.text.bytes.now c.args.from) now.at) c.loop-count-test.false in
    record { yields = full.0; left = full.1 }
