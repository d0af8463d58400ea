-- Checking a table: the replies by its length, its cells and its rows, and what holds before each line of the walk over the rows.
use mathlib.Core.Path.{◌≡◌, refl, sym, ap, ap₂, ◌∙◌}
use mathlib.Core.Bool.{Bool, not}
use mathlib.Core.List.{List, [], ◌∷◌}
use mathlib.Core.Option.{Option, none, some}
use Prim.Native.Nat.{ℕ, suc, ◌+◌, ◌≤◌, ◌<◌}
use native.Mathlib.Omega.{arith}
use borrow.Author.Tests.{eq-eqb, ne_eqb}
use lib.Dec.{T, leb, ltb, leb→le}
use Rattle.std.specs.List.{position}
use Rattle.std.specs.Prelude.{Some, None}
use Rattle.std.specs.Prelude.{Option as Perhaps}
use Rattle.std.proofs.lemmas.Bool.Decides.{nat_tests}
use lib.IntN.{ℤ}
use lib.ListN.{length, get_or, take}
use lib.Seq.{length-take-le, get_or-take}
use Rattle.meaning.specs.Machine.{past_u64}
use Rattle.algebra.specs.Digits.{Below}
use Rattle.algebra.proofs.Test.{ltb_iff}
use Rattle.meaning.specs.Line.{Line}
use Rattle.meaning.specs.Known.{Known, fresh}
use Rattle.meaning.specs.Row.{Row, among, holds}
use Rattle.meaning.specs.Meaning.{gadget, after}
use Rattle.meaning.specs.Refusal.{cell_limit, on_some, refused, on_reading, reading, value_limit}
use Rattle.meaning.specs.Reply.{Reply, reply, first_fail, refusal_at, is_cell, rows_from, rows_of, checked, check_reply}
use Rattle.meaning.specs.Kept.{Keeps}
use Rattle.meaning.proofs.Lists.{all_pass}
use Rattle.meaning.proofs.Results.{refusal-none, refusal-place}
use Rattle.text.specs.Word.{word_of}
use Rattle.number.specs.declared.cell.Cell.{Cell}
use Rattle.reader.specs.Size.{counted}
use Rattle.reader.specs.declared.counts.Counts.{Counts}
use Rattle.reader.proofs.Steps.{few}
use Rattle.groups.specs.Rows.{rows_meaning, first_refusal, first_of}
use Rattle.std.specs.Prelude.{Result, Ok, Err}
use Rattle.groups.proofs.RowsFirst.{first-append}
use Rattle.table.specs.LineRows.{RowsGiven}
use Rattle.refusal.specs.declared.refused.Refusal.TheVariants.{RowFails}
use Rattle.refusal.specs.declared.refused.Refused.{Refused}
use Rattle.refusal.specs.Refusal.{refused_reply}
use Rattle.service.specs.Walk.{Stands, Placed, ListRead}
use Rattle.service.specs.Taken.{taken, Took}
use Rattle.service.specs.declared.walk.Taken.{Taken}
use Rattle.service.specs.Check.{cells_meaning, TableGiven, rows_reply}
use Rattle.service.proofs.ReadList.{same_lines, same-last}
use Rattle.service.proofs.Standing.{stands-first, nothing_left, line_kept, prime-here, cells-inside}
use Rattle.service.proofs.Places.{placed_first, place_inside}
use Rattle.service.proofs.Scan.{place_in, first-position, first-from, none_from, found_inside}

-- ---- the cells

-- a cell is p or more where it is not below
not-below : (p x : ℕ) → leb p x ≡ not (is_cell p x)
unfolding is_cell
not-below p x = grind (arith, nat_tests)

-- the first cell of p or more, as it is found
pub cells_found : (p : ℕ) (t : List ℕ) (place : Perhaps ℕ) (r : Perhaps Cell) → place ≡ position (leb p) t → (place ≡ None → r ≡ None) → ((i : ℕ) → place ≡ Some i → (cell : Cell) × (r ≡ Some cell) × (cell.0 ≡ i))
    → cells_meaning r ≡ refusal_at 14 (first_fail (is_cell p) 0 t)
unfolding cells_meaning refusal_at
cells_found p t place r e none-is some-is = by place refl
  where
    found : (o : Perhaps ℕ) → place ≡ o → first_fail (is_cell p) 0 t ≡ place_in o
    found o q = first-position (is_cell p) (leb p) (not-below p) t ∙ ap place_in (sym e ∙ q)

    by : (o : Perhaps ℕ) → place ≡ o → cells_meaning r ≡ refusal_at 14 (first_fail (is_cell p) 0 t)
    by None q = rw (none-is q, found None q) refl
    by (Some i) q = let h = some-is i q in rw (h.1, found (Some i) q, h.2) refl

-- all cells are below p where none of p or more is found
pub all-below : (p : ℕ) (t : List ℕ) → first_fail (is_cell p) 0 t ≡ none → Below p t
unfolding is_cell
all-below p t e = each t (λ i h. (ltb_iff (get_or t i 0) p).0 (passed i h))
  where
    passed : (i : ℕ) → i < length t → T (ltb (get_or t i 0) p)
    passed = (all_pass (is_cell p) 0 0 t).0 e

    each : (xs : List ℕ) → ((i : ℕ) → i < length xs → get_or xs i 0 < p) → Below p xs
    each [] h = tt
    each (x ∷ xs) h = (h 0 (omega arith), each xs (λ i k. h (suc i) (omega arith)))

module _ (t : List ℕ) (p : ℕ) (x : Perhaps Cell) (yields : cells_meaning x ≡ refusal_at 14 (first_fail (is_cell p) 0 t)) where
  pub large-found : (cell : Cell) → x ≡ Some cell → first_fail (is_cell p) 0 t ≡ some cell.0
  unfolding cells_meaning
  large-found cell is = refusal-place 14 _ (sym yields ∙ ap cells_meaning is)

  pub none-large : x ≡ None → first_fail (is_cell p) 0 t ≡ none
  unfolding cells_meaning
  none-large is = refusal-none 14 _ (sym yields ∙ ap cells_meaning is)

-- ---- the replies

module _ (s : Known) (ls : List Line) (t : List ℕ) where
  pub checked-wrong-length : (length t ≡ s.cells → ⊥) → reply 13 0 ≡ checked s ls t
  unfolding checked
  checked-wrong-length h = rw (ne_eqb (length t) s.cells h) refl

  module _ (long : length t ≡ s.cells) where
    pub checked-cell : (i : ℕ) → first_fail (is_cell s.p) 0 t ≡ some i → reply 14 i ≡ checked s ls t
    unfolding checked on_some
    checked-cell i e = rw (eq-eqb (length t) s.cells long, e) refl

    pub checked-rows : first_fail (is_cell s.p) 0 t ≡ none → rows_reply s ls t ≡ checked s ls t
    unfolding checked on_some rows_reply
    checked-rows e = rw (eq-eqb (length t) s.cells long, e) refl

module _ (list t : List ℕ) where
  pub check-refused : (n i : ℕ) → reading list ≡ refused n i → reply n i ≡ check_reply list t
  unfolding check_reply on_reading
  check-refused n i e = rw e refl

  pub check-read : (l : ListRead list) → checked l.last l.lines t ≡ check_reply list t
  unfolding check_reply on_reading
  check-read l = rw l.is_read refl

-- ---- the walk over the rows

pub record Checking (list table : List ℕ) (p : ℕ) (places : List ℕ) (c : Counts) (at n : ℕ) : Type 0 where
  pub given : TableGiven list table p
  pub state : Known
  pub left : List Line
  pub stands : Stands list given.listed.last state left c at n
  pub placed : Placed state places
  pub rows_left : first_fail (holds p table) 0 (rows_of given.listed.lines) ≡ first_fail (holds p table) c.rows (rows_from state left)

pub checking-first : (list table : List ℕ) (p : ℕ) (places : List ℕ) → length places ≡ value_limit → TableGiven list table p
    → Checking list table p places (counted 0 0 0 0) 0 0
unfolding rows_of fresh
checking-first list table p places k a = record {
  given = a;
  state = fresh;
  left = a.listed.lines;
  stands = stands-first list a.listed.lines a.listed.last a.listed.is_read a.listed.p-most;
  placed = placed_first places k;
  rows_left = refl;
}

-- what the rows reply, by the first that fails
abbrev replied : Option ℕ → Reply
replied o = on_some o (reply 15) (reply 0 0)

module _ {list table : List ℕ} {p : ℕ} {places : List ℕ} {c : Counts} {at n : ℕ} (w : Checking list table p places c at n) where
  abbrev test : Row → Bool
  test = holds p table

  -- whatever is found in the rows is replied
  found-replied : (o : Option ℕ) → first_fail test 0 (rows_of w.given.listed.lines) ≡ o → (m : ListRead list) → replied o ≡ rows_reply m.last m.lines table
  unfolding rows_reply
  found-replied o e m =
      ap replied (sym e)
      ∙ ap₂ (λ (q : ℕ) (ls : List Line). replied (first_fail (holds q table) 0 (rows_of ls)))
      (sym w.given.prime ∙ ap (λ (z : Known). z.p) (same-last w.given.listed m)) (same_lines w.given.listed m)

  pub checking-end : length list ≤ at → (m : ListRead list) → reply 0 0 ≡ rows_reply m.last m.lines table
  unfolding rows_from first_fail on_some
  checking-end h m = found-replied none (w.rows_left ∙ rw (nothing_left w.stands h) refl) m

  module _ (l : Line) (rest : List Line) (left_is : w.left ≡ l ∷ rest) where
    rows-here : first_fail test 0 (rows_of w.given.listed.lines)
        ≡ first_of (first_fail test c.rows (gadget w.state l).rows) (first_fail test (c.rows + length (gadget w.state l).rows) (rows_from (after w.state l) rest))
    unfolding rows_from
    rows-here = w.rows_left ∙ rw left_is (first-append test c.rows (gadget w.state l).rows (rows_from (after w.state l) rest))

    module _ (r : Result (Unit {0}) ℕ) (yields : rows_meaning r ≡ first_refusal test 0 (gadget w.state l).rows) where
      fails-at : (i : ℕ) → r ≡ Err i → first_fail test 0 (gadget w.state l).rows ≡ some i
      fails-at i is = refusal-place 15 (first_fail test 0 (gadget w.state l).rows) (sym yields ∙ ap rows_meaning is)

      pub row_inside : (i : ℕ) → r ≡ Err i → i < length (gadget w.state l).rows
      row_inside i is = found_inside test (among 0 0) (gadget w.state l).rows i (fails-at i is)

      checking-fails : (i : ℕ) → r ≡ Err i → (m : ListRead list) → reply 15 (c.rows + i) ≡ rows_reply m.last m.lines table
      unfolding first_of on_some
      checking-fails i is m =
          found-replied (some (c.rows + i)) (rows-here ∙ rw (first-from test (among 0 0) (gadget w.state l).rows c.rows i (fails-at i is)) refl) m

      pub row-replied : (i : ℕ) → r ≡ Err i → (b : Refused) → b.refusal ≡ RowFails → b.place ≡ c.rows + i → (m : ListRead list)
          → refused_reply b ≡ rows_reply m.last m.lines table
      row-replied i is b refusal place m = rw (refusal, place) (checking-fails i is m)

      none-fails : r ≡ Ok tt → first_fail test c.rows (gadget w.state l).rows ≡ none
      none-fails is =
          none_from test (among 0 0) (gadget w.state l).rows c.rows
          (refusal-none 15 (first_fail test 0 (gadget w.state l).rows) (sym yields ∙ ap rows_meaning is))

      pub checking-next : r ≡ Ok tt → {next : Counts} {at' : ℕ} (places' : List ℕ)
          → Stands list w.given.listed.last (after w.state l) rest next at' (n + 1) → Placed (after w.state l) places'
          → Checking list table p places' next at' (n + 1)
      unfolding first_of after
      checking-next is {next} places' stands placed = record {
        given = w.given;
        state = after w.state l;
        left = rest;
        stands = stands;
        placed = placed;
        rows_left = rows-here ∙ rw (none-fails is) (ap (λ (i : ℕ). first_fail test i (rows_from (after w.state l) rest)) so-many);
      }
        where
          so-many : c.rows + length (gadget w.state l).rows ≡ next.rows
          so-many = omega (arith, w.stands.counted.rows_are, stands.counted.rows_are)

  -- the number of a row in the list is small
  pub row_fits : (l : Line) → Keeps n w.state l → {i : ℕ} → i < length (gadget w.state l).rows → c.rows + i < past_u64
  row_fits l keeps h = omega (
    arith,
    (few n w.state l keeps).1,
    leb→le (w.state.cells + (gadget w.state l).width) cell_limit keeps.cells_fit,
    w.stands.few.rows-most,
    w.stands.few.cells-most,
  )

  -- ---- what the rows of a line are given

  module _ {numbers : List ℤ} {t : Taken} {next : ℕ} (took : Took w.stands numbers t next) where
    pub room-here : c.cells.0 + (gadget w.state (taken numbers t)).width ≤ length table
    room-here = omega (
      arith,
      cells-inside took,
      w.given.long,
      w.stands.counted.cells_are,
    )

    pub place_here : (v : ℕ) → v < length w.state.known → get_or places v 0 < length table
    place_here v h = omega (
      arith,
      place_inside w.state places w.placed v h (omega (arith, w.stands.counted.values-are, w.stands.few.values-most)),
      w.stands.counted.cells_are,
      room-here,
    )

    abbrev pub rows-given : RowsGiven p (word_of t.word) (take t.count numbers) table c.cells.0 (take c.values places)
    rows-given = record {
      kept = line_kept took;
      prime = λ plain. prime-here took plain ∙ w.given.prime;
      cells_are = w.stands.counted.cells_are;
      room = room-here;
      places-long = length-take-le c.values places (omega (arith, w.stands.few.values-most, w.placed.long)) ∙ sym w.stands.counted.values-are;
      places-are = rw (← w.stands.counted.values-are) w.placed.are;
      inside = λ v h. rw (get_or-take c.values places v 0 (omega (arith, h, w.stands.counted.values-are))) (place_here v h);
    }
