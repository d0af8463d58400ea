-- Each way out is one law of `Signed`. Where the digits start tells the sign: after the first byte, where that is a minus.
use native.Mathlib.Omega.{arith}
use Rattle.text.specs.Place.{end_of}
use Rattle.text.proofs.Ends.{InLine, in-line}
use Rattle.text.proofs.Numbers.{size_fits, size-fits-minus}
use Rattle.text.proofs.Signed.{next-inside, minus-inside, reads-zero-if, reads-minus-none, reads-minus, reads-plain-none, reads_plain}
use Rattle.text.proofs.number_at.Goals as goal
use Rattle.text.proofs.number_at.Goals.{Start, then-first-eq45, else-first-eq45}

line : (c : Start) → InLine c.args.text.bytes.now c.args.at (end_of c.args.text.bytes.now c.args.at)
line c = in-line c.args.text.bytes.now c.args.text.ended c.args.at c.requires

pub bounds-text-end : goal.bounds-text-end
bounds-text-end c = next-inside (line (goal.at.bounds-text-end c).Start) c.if-first-eq48.true

pub returns-then-first-eq48 : goal.returns-then-first-eq48
returns-then-first-eq48 c =
    rw c.then_some.ensures (reads-zero-if (line (goal.at.returns-then-first-eq48 c).Start) c.if-first-eq48.true _ c.is_end.ensures)

pub size_from-requires : goal.size_from-requires
size_from-requires c = elim c.if-first-eq45.branch [
  | then-first-eq45 w ↦ omega (arith, w.from-is, minus-inside (line (goal.at.size_from-requires c).Start) w.if-first-eq45.true)
  | else-first-eq45 w ↦ omega (arith, w.from-is, c.requires)
]

pub returns-in_err-size : goal.returns-in_err-size
returns-in_err-size c =
    let l = line (goal.at.returns-in_err-size c).Start in
    rw c.from_residual.ensures (elim c.if-first-eq45.branch [
      | then-first-eq45 w ↦ reads-minus-none l w.if-first-eq45.true (rw w.from-is at c.size_from.ensures) c.in_err-size.was
      | else-first-eq45 w ↦ reads-plain-none l c.if-first-eq48.false w.if-first-eq45.false (rw w.from-is at c.size_from.ensures) c.in_err-size.was
    ])

pub overflow_cast-n : goal.overflow_cast-n
overflow_cast-n c = size_fits _ _ c.size_from.ensures c.in_ok-size.was

pub overflow_sub-result : goal.overflow_sub-result
overflow_sub-result c = size-fits-minus _ _ c.size_from.ensures c.in_ok-size.was

pub returns-then-from-at : goal.returns-then-from-at
returns-then-from-at c =
    let l = line (goal.at.returns-then-from-at c).Start in
    elim c.if-first-eq45.branch [
      | then-first-eq45 w ↦ let z : ⊥ = omega (arith, w.from-is, c.if-from-at.true) in absurd z
      | else-first-eq45 w ↦ reads_plain l c.if-first-eq48.false w.if-first-eq45.false (rw w.from-is at c.size_from.ensures) c.in_ok-size.was
    ]

pub returns-else-from-at : goal.returns-else-from-at
returns-else-from-at c =
    let l = line (goal.at.returns-else-from-at c).Start in
    elim c.if-first-eq45.branch [
      | then-first-eq45 w ↦ reads-minus l w.if-first-eq45.true (rw w.from-is at c.size_from.ensures) c.in_ok-size.was
      | else-first-eq45 w ↦ absurd (c.if-from-at.false w.from-is)
    ]
