-- Each arm has the tests of `word_by_bytes`, whose word is the only one that the field may be.
use Prim.Native.Nat.{ℕ, ◌+◌, ◌<◌}
use mathlib.Core.Bool.{false}
use lib.Dec.{eqb}
use mathlib.Core.Path.{◌≡◌}
use lib.ListN.{length, get_or}
use native.Mathlib.Omega.{arith}
use borrow.Author.Tests.{ne_eqb}
use Rattle.text.specs.Place.{up_to}
use Rattle.text.specs.Word.{word_of, OnlyWord}
use Rattle.text.specs.declared.Word.{Word}
use Rattle.text.specs.declared.Word.TheVariants.{Field, In, Span, Sum, Relu, Which, Max, Root}
use Rattle.text.proofs.Words.{word_by_bytes, only_by_bytes}
use Rattle.text.proofs.word_at.Goals as goal
use Rattle.text.proofs.word_at.Goals.{Start}

only : (c : Start) (w : Word) → let text = c.args.text.bytes.now in let at = c.args.at in
    word_by_bytes (get_or text at 0) (get_or text (at + 1) 0) ≡ word_of w → (at < length text) × OnlyWord (up_to text at) at w
only c w is = (c.requires, only_by_bytes c.args.text.bytes.now c.args.at c.args.text.ended c.requires w is)

pub spelled-requires : goal.spelled-requires
unfolding word_by_bytes word_of
spelled-requires c = only (goal.at.spelled-requires c).Start Field (rw c.in-102.is)

pub spelled-requires-in-105 : goal.spelled-requires-in-105
unfolding word_by_bytes word_of
spelled-requires-in-105 c = only (goal.at.spelled-requires-in-105 c).Start In (rw c.in-105.is)

pub spelled-requires-in-115 : goal.spelled-requires-in-115
unfolding word_by_bytes word_of
spelled-requires-in-115 c = only (goal.at.spelled-requires-in-115 c).Start Sum (rw (c.in-115.is, c.if-text-at-eq117.true))

pub spelled-requires-in-115-2 : goal.spelled-requires-in-115-2
unfolding word_by_bytes word_of
spelled-requires-in-115-2 c = only (goal.at.spelled-requires-in-115-2 c).Start Span (rw c.in-115.is (simp (ne_eqb _ _ c.if-text-at-eq117.false)))

pub spelled-requires-in-114 : goal.spelled-requires-in-114
unfolding word_by_bytes word_of
spelled-requires-in-114 c = only (goal.at.spelled-requires-in-114 c).Start Relu (rw (c.in-114.is, c.if-text-at-eq101.true))

pub spelled-requires-in-114-2 : goal.spelled-requires-in-114-2
unfolding word_by_bytes word_of
spelled-requires-in-114-2 c = only (goal.at.spelled-requires-in-114-2 c).Start Root (rw c.in-114.is (simp (ne_eqb _ _ c.if-text-at-eq101.false)))

pub spelled-requires-in-119 : goal.spelled-requires-in-119
unfolding word_by_bytes word_of
spelled-requires-in-119 c = only (goal.at.spelled-requires-in-119 c).Start Which (rw c.in-119.is)

pub spelled-requires-in_default : goal.spelled-requires-in_default
unfolding word_by_bytes word_of
spelled-requires-in_default c =
    let first = get_or c.args.text.bytes.now c.args.at 0 in
    let differs : (x : ℕ) → (first ≡ x → ⊥) → eqb first x ≡ false = λ x. ne_eqb first x in
    only (goal.at.spelled-requires-in_default c).Start Max
    (simp (differs 115 (λ e. omega arith), differs 114 (λ e. omega arith), differs 102 (λ e. omega arith), differs 105 (λ e. omega arith), differs 119 (λ e. omega arith)))
