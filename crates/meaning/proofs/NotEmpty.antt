-- The claims speak of something: there are read lists with a line of each kind whose true table exists, and the list of a field line
-- alone has just the empty table.
use mathlib.Core.Path.{◌≡◌, refl, sym, ap, ◌∙◌}
use mathlib.Core.Bool.{Bool, false, ◌||◌}
use mathlib.Core.List.{List, [], ◌∷◌, ◌++◌}
use mathlib.Core.Logic.{◌↔◌, ⊎_elim}
use Prim.Native.Nat.{ℕ, ◌+◌}
use native.Mathlib.Omega.{arith}
use lib.Dec.{T}
use lib.ListN.{length}
use lib.IntN.{ℤ, pos}
use Rattle.algebra.proofs.Test.{false-not}
use Rattle.meaning.specs.Text.{same_bytes}
use Rattle.meaning.specs.Word.{Word, field, input, span, sum, relu, which, max, root, words, kind_of}
use Rattle.meaning.specs.Line.{Line}
use Rattle.meaning.specs.Known.{Known, fresh}
use Rattle.meaning.specs.Gadget.Field.{field_line}
use Rattle.meaning.specs.Meaning.{gadget, after}
use Rattle.meaning.specs.Refusal.{all, is_placed, read, reading}
use Rattle.meaning.specs.Row.{Row}
use Rattle.meaning.specs.Work.{true-table, work}
use Rattle.meaning.specs.Reply.{reply, rows_from, rows_of, check_reply}
use Rattle.meaning.specs.Claims.{known_after}
use Rattle.meaning.specs.Write.{list_text}
use Rattle.meaning.proofs.Compute.{computing}
use Rattle.meaning.specs.Kept.{Keeps}
use Rattle.meaning.proofs.Kept.{keeps-all}
use Rattle.meaning.proofs.Lines.{field-or-not}
use Rattle.meaning.proofs.Reading.{read_kept}
use Rattle.meaning.proofs.Rows.{accepted-iff}
use Rattle.meaning.proofs.Induction.{values_in, cells_in}

-- ---- a line of each kind

unfoldable pub occurs : List Line → Word → Bool
occurs [] w = false
occurs (l ∷ ls) w = same_bytes (kind_of l.word).spelling (kind_of w).spelling || occurs ls w

-- over p there is a read list with each word, and a column that it is worked from without a false statement
pub record HasTrueTable (p : ℕ) : Type 0 where
  pub text : List ℕ
  pub lines : List Line
  pub known : Known
  pub column : List ℤ
  pub values : List ℤ
  pub table : List ℕ
  pub is_read : reading text ≡ read lines known
  pub over-p : known.p ≡ p
  pub each_word : T (all (occurs lines) words)
  pub is-worked : work lines column ≡ true-table values table
  pub is-accepted : check_reply text table ≡ reply 0 0

abbrev line : Word → List ℤ → Line
line w ns = record { word = w; numbers = ns }

-- two inputs, spanned to 0..3, then a line of each other kind over them
abbrev lines-over : ℕ → List Line
lines-over p =
    line field (pos p ∷ []) ∷ line input [] ∷ line input []
    ∷ line span (pos 0 ∷ pos 2 ∷ pos 2 ∷ pos 0 ∷ []) ∷ line span (pos 1 ∷ pos 2 ∷ pos 2 ∷ pos 0 ∷ [])
    ∷ line sum (pos 0 ∷ pos 1 ∷ pos 0 ∷ pos 1 ∷ pos 1 ∷ []) ∷ line relu (pos 0 ∷ pos 2 ∷ pos 3 ∷ [])
    ∷ line which (pos 0 ∷ pos 1 ∷ pos 2 ∷ pos 3 ∷ []) ∷ line max (pos 0 ∷ pos 1 ∷ pos 2 ∷ pos 2 ∷ [])
    ∷ line root (pos 0 ∷ pos 3 ∷ pos 1 ∷ []) ∷ []

abbrev column-of : List ℤ
column-of = pos 2 ∷ pos 1 ∷ []

over : (p : ℕ) → reading (list_text (lines-over p)) ≡ read (lines-over p) (known_after after fresh (lines-over p))
    → (known_after after fresh (lines-over p)).p ≡ p
    → work (lines-over p) column-of ≡ true-table (values_in (work (lines-over p) column-of)) (cells_in (work (lines-over p) column-of))
    → check_reply (list_text (lines-over p)) (cells_in (work (lines-over p) column-of)) ≡ reply 0 0 → HasTrueTable p
unfolding computing occurs
over p r o w a = record {
  text = list_text (lines-over p);
  lines = lines-over p;
  known = known_after after fresh (lines-over p);
  column = column-of;
  values = values_in (work (lines-over p) column-of);
  table = cells_in (work (lines-over p) column-of);
  is_read = r;
  over-p = o;
  each_word = tt;
  is-worked = w;
  is-accepted = a;
}

-- 17 is the least p that a root line allows: c ≥ 3 and c² ≤ M+1
pub true-table-17 : HasTrueTable 17
unfolding computing known_after
true-table-17 = over 17 refl refl refl refl

pub true-table-31 : HasTrueTable 31
unfolding computing known_after
true-table-31 = over 31 refl refl refl refl

pub true-table-101 : HasTrueTable 101
unfolding computing known_after
true-table-101 = over 101 refl refl refl refl

-- ---- the field line alone

-- line 0 is a field line, which has neither a cell nor a row
module _ (s : Known) (l : Line) (keeps : Keeps 0 s l) where
  field-first : l.word ≡ field
  unfolding is_placed
  field-first = ⊎_elim (λ e. e) (λ h. absurd (false-not (kind_of l.word).is_field h.0 keeps.placed)) (field-or-not l.word 0 l.numbers)

  no_cell : (gadget s l).width ≡ 0
  unfolding gadget kind_of field_line
  no_cell = ap (λ (w : Word). ((kind_of w).gadget s l.numbers).width) field-first

  no_row : (gadget s l).rows ≡ []
  unfolding gadget kind_of field_line
  no_row = ap (λ (w : Word). ((kind_of w).gadget s l.numbers).rows) field-first

empty : (t : List ℕ) → length t ≡ 0 → t ≡ []
empty [] h = refl
empty (x ∷ t) h = absurd (omega arith)

-- a list of the field line alone accepts the empty table and no other (FORMAT 8.15)
pub field-alone : (text : List ℕ) (l : Line) (s : Known) → reading text ≡ read (l ∷ []) s
    → (t : List ℕ) → check_reply text t ≡ reply 0 0 ↔ (t ≡ [])
unfolding rows_of rows_from after fresh
field-alone text l s is_read t =
    let kept = read_kept text (l ∷ []) s is_read in
    let keeps = keeps-all 0 fresh l kept.0 in
    let cells : 0 + (gadget fresh l).width ≡ s.cells = ap (λ (q : Known). q.cells) kept.1 in
    let none : s.cells ≡ 0 = omega (arith, no_cell fresh l keeps) in
    let yields = accepted-iff text (l ∷ []) s t is_read in (
      λ a. empty t ((yields.0 a).0.long ∙ none),
      λ e. yields.1 (
        record { long = rw e (sym none); below = λ i h. absurd (omega (arith, ap (λ (q : List ℕ). length q) e)) },
        λ i h. absurd (omega (arith, ap (λ (q : List Row). length q) (ap (λ (q : List Row). q ++ []) (no_row fresh l keeps)))),
      ),
    )
