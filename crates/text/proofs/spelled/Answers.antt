-- The one word that the field may be is compared with it, byte by byte.
use mathlib.Core.Path.{◌≡◌, ap, ◌∙◌}
use mathlib.Core.Bool.{◌||◌}
use Prim.Native.Nat.{ℕ, ◌+◌}
use native.Mathlib.Omega.{arith}
use lib.Dec.{eqb}
use lib.ListN.{length, get_or}
use Rattle.meaning.specs.Word.{kind_of}
use Rattle.text.specs.Word.{word_of}
use Rattle.text.proofs.Ends.{in-line}
use Rattle.text.proofs.Words.{spelling-start, byte_differs, byte_same, word_there}
use Rattle.text.proofs.spelled.Goals as goal

pub loop-i-init : goal.loop-i-init
loop-i-init c = spelling-start (in-line c.args.text.bytes.now c.args.text.ended c.args.at c.requires.0) (kind_of (word_of c.args.word)).spelling

pub returns-then-text-at : goal.returns-then-text-at
returns-then-text-at c =
    byte_differs c.args.text.bytes.now c.args.at c.args.text.ended c.requires.0 _ c.requires.1 c.loop-i.invariant
    (rw c.spelling-spelling.ensures at c.loop-i-test.true) (rw c.spelling-spelling.ensures at c.if-text-at.true)

pub loop-i-preserved : goal.loop-i-preserved
loop-i-preserved c =
    byte_same c.args.text.bytes.now c.args.at c.args.text.ended c.requires.0 _ c.requires.1 c.loop-i.invariant
    (rw c.spelling-spelling.ensures at c.loop-i-test.true) (rw c.spelling-spelling.ensures at c.if-text-at.false)

pub returns : goal.returns
returns c =
    let text = c.args.text.bytes.now in
    let size = ap length c.spelling-spelling.ensures in
    let all : c.loop-i.i ≡ length (kind_of (word_of c.args.word)).spelling = omega (arith, size, c.loop-i-test.false, c.loop-i.auto.i-end) in
    let after = ap (λ (n : ℕ). eqb (get_or text (c.args.at + n) 0) 9 || eqb (get_or text (c.args.at + n) 0) 10) size in
    rw (c.then_some.ensures, c.spelling-spelling.ensures)
    (word_there text c.args.at c.args.text.ended c.requires.0 _ c.requires.1 (rw all at c.loop-i.invariant) _ (c.is_end.ensures ∙ after))
