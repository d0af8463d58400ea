-- Each way out is one law of `LineFields`, by whether the first field is a word.
use mathlib.Core.Path.{◌≡◌, sym, ◌∙◌}
use mathlib.Core.Logic.{◌⊎◌, inl, inr, ⊎_elim}
use native.Mathlib.Omega.{arith}
use Prim.Native.Nat.{ℕ, ◌+◌, ◌<◌}
use lib.ListN.{length, get_or}
use Rattle.text.specs.declared.Word.{Word}
use Rattle.std.specs.Prelude.{Some, None}
use Rattle.text.specs.declared.Field.{Field}
use Rattle.lines.specs.Parsed.{NumbersYield}
use Rattle.text.specs.Place.{end_of, up_to}
use Rattle.meaning.specs.Text.{is_ended}
use mathlib.Core.Bool.{true}
use mathlib.Core.List.{List}
use lib.IntN.{ℤ}
use Rattle.text.proofs.Ends.{InLine, in-line, place_inside, cut-length, place-next}
use Rattle.lines.proofs.LineFields.{word-place, word-alone, word-alone-stored, word-stored, word-numbers, word-no-numbers, bare-stored, bare-numbers, bare-no-numbers}
use borrow.Author.Rules.{rules}
use Rattle.lines.proofs.fields_of.Goals as goal
use Rattle.lines.proofs.fields_of.Goals.{Joined-spelled, In_ok-read, Start, in-Some+else-text-word-ne-TAB, in_default}

line : (c : Start) → InLine c.args.text.bytes.now c.args.at (end_of c.args.text.bytes.now c.args.at)
line c = in-line c.args.text.bytes.now c.args.text.ended c.args.at c.requires

pub bounds-text-word : goal.bounds-text-word
bounds-text-word c =
    omega (arith, place_inside (word-place (line (goal.at.bounds-text-word c).Start) c.word_at-spelled.ensures c.in-Some.is))

pub worded-requires : goal.worded-requires
worded-requires c =
    let inside = place_inside (word-place (line (goal.at.worded-requires c).Start) c.word_at-spelled.ensures c.in-Some.is) in
    search (rules, inside)

same_field : {f g : Field Word} → Some f ≡ Some g → f ≡ g
same_field q = cc

no-word-known : {f : Field Word} → None ≡ Some f → ⊥
no-word-known q = let z : ◌≡◌ {A = ℕ} 0 1 = cc in omega arith

-- where the numbers start: after the tab that follows a word, or where the line does
Started : Joined-spelled → Type 0
Started c =
    let s = c.args in
    ((f : Field Word) × (c.word_at-spelled.result ≡ Some f) × (get_or s.text.bytes.now f.end 0 ≡ 9) × (c.match-spelled.spelled ≡ Some f) × (c.match-spelled.from ≡ f.end + 1))
    ⊎ ((c.word_at-spelled.result ≡ None) × (c.match-spelled.spelled ≡ None) × (c.match-spelled.from ≡ s.at))

started : (c : Joined-spelled) → Started c
unfolding Started
started c = elim c.match-spelled.branch [
  | in-Some+else-text-word-ne-TAB w ↦ inl (w.in-Some.word, w.in-Some.is, w.if-text-word-ne-TAB.false, w.spelled-is, w.from-is)
  | in_default w ↦ inr (w.in_default.is, w.spelled-is ∙ w.in_default.is, w.from-is)
]

start-inside : (c : Joined-spelled) → c.match-spelled.from < length c.args.text.bytes.now
unfolding Started
start-inside c =
    let l = in-line c.args.text.bytes.now c.args.text.ended c.args.at c.requires in
    ⊎_elim
    (λ w. omega (arith, w.4, place_inside (place-next (word-place l c.word_at-spelled.ensures w.1) (λ e. omega (arith, w.2)))))
    (λ w. omega (arith, w.2, c.requires))
    (started c)

pub numbers_from-requires : goal.numbers_from-requires
numbers_from-requires c = start-inside (goal.at.numbers_from-requires c).Joined-spelled

pub returns-then-text-word-ne-TAB : goal.returns-then-text-word-ne-TAB
returns-then-text-word-ne-TAB c =
    let l = line (goal.at.returns-then-text-word-ne-TAB c).Start in
    let no-tab = c.if-text-word-ne-TAB.true in
    record {
      yields = word-alone l c.word_at-spelled.ensures c.in-Some.is no-tab _ c.told-numbers _ c.worded.ensures;
      left = word-alone-stored l c.word_at-spelled.ensures c.in-Some.is no-tab _;
    }

pub returns-in_err-read : goal.returns-in_err-read
unfolding Started
returns-in_err-read c =
    let l = line (goal.at.returns-in_err-read c).Start in
    ⊎_elim
    (λ w. record {
      yields = rw c.from_residual.ensures (word-no-numbers l c.word_at-spelled.ensures w.1 w.2 _ (rw w.4 at c.numbers_from.ensures.yields) c.in_err-read.was);
      left = word-stored l c.word_at-spelled.ensures w.1 w.2 (rw w.4 at c.numbers_from.ensures.left);
    })
    (λ w. record {
      yields = rw c.from_residual.ensures (bare-no-numbers l c.word_at-spelled.ensures w.0 _ (rw w.2 at c.numbers_from.ensures.yields) c.in_err-read.was);
      left = bare-stored l c.word_at-spelled.ensures w.0 (rw w.2 at c.numbers_from.ensures.left);
    })
    (started (goal.at.returns-in_err-read c).Joined-spelled)

-- the line of the numbers ends before the text does
end-inside : (text : List ℕ) {from : ℕ} (f : Field ℕ) (after : List ℤ) → is_ended text ≡ true → from < length text
    → NumbersYield (up_to text from) from after (Some f) → f.end < length text
unfolding NumbersYield
end-inside text {from} f after ended h yields =
    let l = in-line text ended from h in
    omega (arith, yields.2, cut-length l, l.inside)

from-read : (c : In_ok-read) → NumbersYield (up_to c.args.text.bytes.now c.match-spelled.from) c.match-spelled.from c.numbers_from.new.numbers (Some c.in_ok-read.read)
from-read c = rw c.in_ok-read.was at c.numbers_from.ensures.yields

read-inside : (c : In_ok-read) → c.match-spelled.from < length c.args.text.bytes.now → c.in_ok-read.read.end < length c.args.text.bytes.now
read-inside c inside = end-inside c.args.text.bytes.now c.in_ok-read.read c.numbers_from.new.numbers c.args.text.ended inside (from-read c)

pub worded-requires-in-Some-spelled : goal.worded-requires-in-Some-spelled
worded-requires-in-Some-spelled c = let p = goal.at.worded-requires-in-Some-spelled c in let inside = read-inside p.In_ok-read (start-inside p.Joined-spelled) in search (rules, inside)

pub overflow_add-result : goal.overflow_add-result
overflow_add-result c = let p = goal.at.overflow_add-result c in let inside = read-inside p.In_ok-read (start-inside p.Joined-spelled) in search (rules, inside)

pub returns-in-Some-spelled : goal.returns-in-Some-spelled
unfolding Started
returns-in-Some-spelled c =
    let l = line (goal.at.returns-in-Some-spelled c).Start in
    let is = c.in-Some-spelled.is in
    ⊎_elim
    (λ w. record {
      yields = word-numbers l c.word_at-spelled.ensures w.1 w.2 _ (rw w.4 at c.numbers_from.ensures.yields)
          (c.numbers_from.ensures.left.kept ∙ c.told-numbers) c.in_ok-read.was _ (rw (same_field (sym is ∙ w.3)) at c.worded-in-Some-spelled.ensures);
      left = word-stored l c.word_at-spelled.ensures w.1 w.2 (rw w.4 at c.numbers_from.ensures.left);
    })
    (λ w. absurd (no-word-known (sym w.1 ∙ is)))
    (started (goal.at.returns-in-Some-spelled c).Joined-spelled)

pub returns-in-None : goal.returns-in-None
unfolding Started
returns-in-None c =
    let l = line (goal.at.returns-in-None c).Start in
    let is = c.in-None.is in
    ⊎_elim
    (λ w. absurd (no-word-known (sym is ∙ w.3)))
    (λ w. record {
      yields = bare-numbers l c.word_at-spelled.ensures w.0 _ (rw w.2 at c.numbers_from.ensures.yields)
          (c.numbers_from.ensures.left.kept ∙ c.told-numbers) c.in_ok-read.was;
      left = bare-stored l c.word_at-spelled.ensures w.0 (rw w.2 at c.numbers_from.ensures.left);
    })
    (started (goal.at.returns-in-None c).Joined-spelled)
