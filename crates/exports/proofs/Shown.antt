-- What is shown of a table lies at the same cells in every table of its length. So a table whose cells are their own numbers tells where:
-- its first shown cell is the one that the stretch starts at. Where nothing is shown, that is 0, as only the field line has no cell.
use mathlib.Core.Path.{◌≡◌, refl, sym, ap, ◌∙◌}
use mathlib.Core.Bool.{Bool, true, false}
use mathlib.Core.List.{List, [], ◌∷◌}
use mathlib.Core.Option.{none}
use Prim.Native.Nat.{ℕ, zero, suc, ◌+◌, ◌≤◌, ◌<◌}
use native.Mathlib.Omega.{arith}
use lib.Dec.{T, eqb}
use lib.IntN.{ℤ}
use lib.ListN.{length, get_or, take, drop, length-drop, get_or-eq_default}
use lib.Seq.{get_or-take, get_or-drop, length-take-le}
use borrow.Author.Tests.{eqb-true}
use Rattle.program.proofs.Limits.{read-most}
use Rattle.meaning.specs.Word.{Word, field, input, span, sum, relu, which, max, root, kind_of}
use Rattle.meaning.specs.Line.{Line}
use Rattle.meaning.specs.Known.{Known, fresh}
use Rattle.meaning.specs.Meaning.{gadget, after}
use Rattle.meaning.specs.Refusal.{is_placed, is_ranged, rules, first_broken, Reading, refused, read, on_reading, reading, cell_limit}
use Rattle.meaning.specs.Gadget.Input.{input_line}
use Rattle.meaning.specs.Gadget.Span.{span_line}
use Rattle.meaning.specs.Gadget.Sum.{sum_line}
use Rattle.meaning.specs.Gadget.Relu.{relu_line}
use Rattle.meaning.specs.Gadget.Which.{which_line}
use Rattle.meaning.specs.Gadget.Max.{max_line}
use Rattle.meaning.specs.Gadget.Root.{root_line}
use Rattle.meaning.specs.Reply.{stretch, shown, start_from, shown_from}
use Rattle.meaning.specs.Kept.{Kept, Keeps}
use Rattle.meaning.proofs.Kept.{keeps-all}
use Rattle.meaning.proofs.Lines.{digits-ranged}
use Rattle.meaning.proofs.Induction.{cells-grow}
use Rattle.meaning.proofs.Reading.{read_kept}
use Rattle.std.specs.List.{range_with_len}
use Rattle.std.proofs.lemmas.List.FromFn.{length-range_with_len, get_or-range_with_len}
use Rattle.exports.proofs.Numbered.{take-up}

-- ---- where the cells of a line are

length-stretch : (first count : ℕ) (t : List ℕ) → first + count ≤ length t → length (take count (drop first t)) ≡ count
length-stretch first count t inside = length-take-le count (drop first t) (omega (arith, length-drop first t))

-- in every table of so many cells they are those from first on, so many; first is where the stretch starts, and 0 where it is empty
record ShownAt (cells start : ℕ) (show : List ℕ → List ℕ) : Type 0 where
  first : ℕ
  count : ℕ
  inside : first + count ≤ cells
  is : (t : List ℕ) → length t ≡ cells → show t ≡ take count (drop first t)
  starts : first ≡ start
  empty : count ≡ 0 → first ≡ 0

empty-at : (cells start : ℕ) (show : List ℕ → List ℕ) → ((t : List ℕ) → length t ≡ cells → show t ≡ []) → 0 ≡ start → ShownAt cells start show
empty-at cells start show h e = record { first = 0; count = 0; inside = omega arith; is = h; starts = e; empty = λ q. refl }

-- every line but line 0 has a cell
has-cell : (n : ℕ) (s : Known) (l : Line) → Keeps (suc n) s l → 1 ≤ (gadget s l).width
unfolding gadget kind_of input_line span_line sum_line relu_line which_line max_line root_line is_placed
has-cell n s l k = by l.word l.numbers k.placed k.ranged
  where
    by : (w : Word) (ns : List ℤ) → T (is_placed (suc n) w) → T (is_ranged s.p w ns) → 1 ≤ ((kind_of w).gadget s ns).width
    by field ns t r = absurd t
    by input ns t r = omega arith
    by span ns t r = (digits-ranged s.p 1 span ns refl r).1
    by sum ns t r = omega arith
    by relu ns t r = omega arith
    by which ns t r = omega arith
    by max ns t r = omega arith
    by root ns t r = omega arith

-- before line 0 there is no cell
stretch-at : (ls : List Line) (n : ℕ) (s last : Known) (line : ℕ) → Kept n s ls last → (n ≡ 0 → s.cells ≡ 0)
    → ShownAt last.cells (start_from s ls line) (stretch s ls line)
unfolding stretch start_from after
stretch-at [] n s last line k before = empty-at _ _ _ (λ t long. refl) refl
stretch-at (l ∷ ls) n s last zero k before = record {
  first = s.cells;
  count = (gadget s l).width;
  inside = cells-grow ls (suc n) (after s l) last k.1;
  is = λ t long. refl;
  starts = refl;
  empty = at_zero n k.0 before;
}
  where
    at_zero : (n : ℕ) → first_broken rules n s l ≡ none → (n ≡ 0 → s.cells ≡ 0) → (gadget s l).width ≡ 0 → s.cells ≡ 0
    at_zero zero k before e = before refl
    at_zero (suc m) k before e = absurd (omega (arith, has-cell m s l (keeps-all (suc m) s l k)))
stretch-at (l ∷ ls) n s last (suc line) k before = stretch-at ls (suc n) (after s l) last line k.1 (λ e. absurd (omega arith))

shown-at : (list t : List ℕ) (line : ℕ) → ShownAt (length t) (shown_from list t line) (λ u. shown list u line)
unfolding shown shown_from on_reading fresh
shown-at list t line = by (reading list) refl
  where
    by : (r : Reading) → reading list ≡ r → ShownAt (length t) (shown_from list t line) (λ u. shown list u line)
    by (refused n at) e = empty-at _ _ _ (λ u long. rw e refl) (rw e refl)
    by (read ls s) e = by_length (eqb (length t) s.cells) refl
      where
        by_length : (b : Bool) → eqb (length t) s.cells ≡ b → ShownAt (length t) (shown_from list t line) (λ u. shown list u line)
        by_length true q =
            let same : length t ≡ s.cells = eqb-true (length t) s.cells q in
            let w = stretch-at ls 0 fresh s line (read_kept list ls s e) (λ z. refl) in
            record {
              first = w.first;
              count = w.count;
              inside = let h = w.inside in omega arith;
              is = λ u long. rw (e, long, q) (w.is u (long ∙ same));
              starts = rw (e, q) w.starts;
              empty = w.empty;
            }
        by_length false q = empty-at _ _ _ (λ u long. rw (e, long, q) refl) (rw (e, q) refl)

-- ---- no list has so many cells

shown-too-long : (list t : List ℕ) (line : ℕ) → cell_limit < length t → shown list t line ≡ []
unfolding shown on_reading fresh
shown-too-long list t line long = by (reading list) refl
  where
    by : (r : Reading) → reading list ≡ r → shown list t line ≡ []
    by (refused n at) e = rw e refl
    by (read ls s) e = by_length (eqb (length t) s.cells) refl
      where
        by_length : (b : Bool) → eqb (length t) s.cells ≡ b → shown list t line ≡ []
        by_length true q =
            let same = eqb-true (length t) s.cells q in
            let most = (read-most list ls s e).cells-most in
            absurd (omega arith)
        by_length false q = rw (e, q) refl

-- ---- what the numbered table tells

-- how many cells are shown, and from which on
pub record ShownPart (list t : List ℕ) (line first count : ℕ) : Type 0 where
  pub part : take count (drop first t) ≡ shown list t line
  pub counted : count ≡ length (shown list t line)
  pub starts : first ≡ shown_from list t line
  pub inside : first + count ≤ length t

module _ (list t : List ℕ) (line : ℕ) where
  w : ShownAt (length t) (shown_from list t line) (λ u. shown list u line)
  w = shown-at list t line

  so-many-shown : length (shown list t line) ≡ w.count
  so-many-shown = ap (λ (r : List ℕ). length r) (w.is t refl) ∙ length-stretch w.first w.count t w.inside

  pub too-long-shown : cell_limit < length t → ShownPart list t line 0 0
  too-long-shown long = record {
    part = sym (shown-too-long list t line long);
    counted = sym (ap (λ (r : List ℕ). length r) (shown-too-long list t line long));
    starts = sym (w.empty (sym so-many-shown ∙ ap (λ (r : List ℕ). length r) (shown-too-long list t line long))) ∙ w.starts;
    inside = omega arith;
  }

  module _ (part : List ℕ) (e : part ≡ shown list (range_with_len 0 (length t)) line) where
    is-part : part ≡ take w.count (drop w.first (range_with_len 0 (length t)))
    is-part = e ∙ w.is (range_with_len 0 (length t)) (length-range_with_len 0 (length t))

    so-many : length part ≡ w.count
    so-many =
        ap (λ (r : List ℕ). length r) is-part
        ∙ length-stretch w.first w.count (range_with_len 0 (length t)) (rw (length-range_with_len 0 (length t)) w.inside)

    -- the part starts with its first cell's number, and an empty one is read as 0
    starts_with : (m : ℕ) → w.count ≡ m → get_or part 0 0 ≡ w.first
    starts_with zero q =
        let none : length part ≡ 0 = so-many ∙ q in
        get_or-eq_default part 0 {n = 0} (omega arith) ∙ sym (w.empty q)
    starts_with (suc m) q =
        let h : 0 < w.count = omega arith in
        let numbered = range_with_len 0 (length t) in
        let inside = w.inside in
        let here = get_or-range_with_len 0 (length t) (w.first + 0) 0 (omega arith) in
        ap (λ (r : List ℕ). get_or r 0 0) is-part ∙ get_or-take w.count (drop w.first numbered) 0 0 h ∙ get_or-drop w.first numbered 0 0
        ∙ here ∙ omega arith

    numbered-shown : ShownPart list t line (get_or part 0 0) (length part)
    numbered-shown =
        let first : get_or part 0 0 ≡ w.first = starts_with w.count refl in
        record {
          part = rw (so-many, first) (sym (w.is t refl));
          counted = so-many ∙ sym so-many-shown;
          starts = first ∙ w.starts;
          inside = omega (arith, so-many, first, w.inside);
        }

  -- the part is that of a longer numbered table's first cells, and its first cell was read
  pub first-shown : (numbered part : List ℕ) (n first : ℕ) → numbered ≡ range_with_len 0 n → length t ≤ n
      → part ≡ shown list (take (length t) numbered) line → first ≡ get_or part 0 0 → ShownPart list t line first (length part)
  first-shown numbered part n first is most shows reads = rw reads (numbered-shown part (shows ∙ ap (λ (r : List ℕ). shown list r line) taken))
    where
      taken : take (length t) numbered ≡ range_with_len 0 (length t)
      taken = rw is (take-up 0 n (length t) most)

-- ---- the same of a table that is too long, as the check applies it

pub nothing_shown : (list t : List ℕ) (line : ℕ) → cell_limit < length t → shown list t line ≡ []
nothing_shown list t line long = shown-too-long list t line long

pub shown_from_nothing : (list t : List ℕ) (line : ℕ) → cell_limit < length t → shown_from list t line ≡ 0
shown_from_nothing list t line long = sym (too-long-shown list t line long).starts
