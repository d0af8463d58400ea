-- Showing a line: what holds before each line of the walk to it, and what the walk answers.
use mathlib.Core.Path.{◌≡◌, refl, sym, ap, ap₂, ◌∙◌}
use mathlib.Core.List.{List, [], ◌∷◌}
use Prim.Native.Nat.{ℕ, suc, ◌+◌, ◌-◌, ◌≤◌}
use native.Mathlib.Omega.{arith}
use borrow.Author.Tests.{eq-eqb, ne_eqb}
use lib.ListN.{length, take, drop}
use Rattle.meaning.specs.Line.{Line}
use Rattle.meaning.specs.Known.{Known, fresh}
use Rattle.meaning.specs.Meaning.{gadget, after}
use Rattle.meaning.specs.Refusal.{refused, on_reading, reading}
use Rattle.meaning.specs.Reply.{stretch, shown, start_from, shown_from}
use Rattle.meaning.proofs.Induction.{cells-grow}
use Rattle.number.specs.declared.cell.Cell.{Cell}
use Rattle.reader.specs.Size.{counted}
use Rattle.reader.specs.declared.counts.Counts.{Counts}
use Rattle.service.specs.Walk.{Stands, ListRead}
use Rattle.service.specs.Show.{IsStretch}
use Rattle.std.specs.declared.ops.Range.{Range}
use Rattle.service.proofs.ReadList.{same_lines, same-last}
use Rattle.service.proofs.Standing.{stands-first, nothing_left}

-- before line n, the line that is asked for is still to come
pub record Showing (list : List ℕ) (line : ℕ) (c : Counts) (at n : ℕ) : Type 0 where
  pub listed : ListRead list
  pub state : Known
  pub left : List Line
  pub stands : Stands list listed.last state left c at n
  pub to-come : n ≤ line
  pub is : (t : List ℕ) → stretch fresh listed.lines line t ≡ stretch state left (line - n) t
  pub starts : start_from fresh listed.lines line ≡ start_from state left (line - n)

pub showing-first : (list : List ℕ) (line : ℕ) → ListRead list → Showing list line (counted 0 0 0 0) 0 0
showing-first list line l = record {
  listed = l;
  state = fresh;
  left = l.lines;
  stands = stands-first list l.lines l.last l.is_read l.p-most;
  to-come = omega arith;
  is = λ t. ap (λ (i : ℕ). stretch fresh l.lines i t) (omega arith);
  starts = ap (start_from fresh l.lines) (omega arith);
}

-- a stretch of one reading of the list is that of another
same-stretch : (list : List ℕ) (line : ℕ) (l m : ListRead list) (r : Range Cell) → IsStretch list line l r → IsStretch list line m r
same-stretch list line l m r s = record {
  ordered = s.ordered;
  inside = omega (arith, s.inside, ap (λ (q : Known). q.cells) (same-last l m));
  is = λ t. s.is t ∙ ap (λ (ls : List Line). stretch fresh ls line t) (same_lines l m);
  starts = s.starts ∙ ap (λ (ls : List Line). start_from fresh ls line) (same_lines l m);
}

module _ {list : List ℕ} {line : ℕ} {c : Counts} {at n : ℕ} (w : Showing list line c at n) where
  -- the line is not there
  pub showing-end : (none : Cell) → none.0 ≡ 0 → length list ≤ at → (m : ListRead list) → IsStretch list line m (record { start = none; end = none })
  unfolding stretch start_from
  showing-end none first h m = same-stretch list line w.listed m _ (record {
    ordered = omega arith;
    inside = omega (arith, first);
    is = λ t. rw first (sym (w.is t ∙ rw (nothing_left w.stands h) refl));
    starts = first ∙ sym (w.starts ∙ rw (nothing_left w.stands h) refl);
  })

  module _ (l : Line) (rest : List Line) (left_is : w.left ≡ l ∷ rest) {next : Counts} {at' : ℕ}
      (stands : Stands list w.listed.last (after w.state l) rest next at' (n + 1)) where
    -- this is the line
    pub showing-line : n ≡ line → (m : ListRead list) → IsStretch list line m (record { start = c.cells; end = next.cells })
    unfolding after stretch start_from
    showing-line here m =
        let from_is = w.stands.counted.cells_are in
        let to_is = stands.counted.cells_are in
        let wide : next.cells.0 - c.cells.0 ≡ (gadget w.state l).width = omega (arith, from_is, to_is) in
        let first : line - n ≡ 0 = omega (arith, here) in
        same-stretch list line w.listed m _ (record {
          ordered = omega (arith, from_is, to_is);
          inside = omega (arith, to_is, cells-grow rest (n + 1) (after w.state l) w.listed.last stands.kept);
          is = λ t. sym (w.is t ∙ rw (left_is, first) (ap₂ (λ (i j : ℕ). take i (drop j t)) (sym wide) from_is));
          starts = sym (w.starts ∙ rw (left_is, first) from_is);
        })

    -- it is a later one
    pub showing-next : (n ≡ line → ⊥) → Showing list line next at' (n + 1)
    unfolding stretch start_from
    showing-next other = record {
      listed = w.listed;
      state = after w.state l;
      left = rest;
      stands = stands;
      to-come = later;
      is = λ t. w.is t ∙ rw (left_is, one_less) refl;
      starts = w.starts ∙ rw (left_is, one_less) refl;
    }
      where
        later : n + 1 ≤ line
        later = let h = w.to-come in omega arith

        one_less : line - n ≡ suc (line - (n + 1))
        one_less = let h = later in omega arith

-- ---- the answer

module _ (list t : List ℕ) (line : ℕ) where
  pub shown-refused : (n i : ℕ) → reading list ≡ refused n i → [] ≡ shown list t line
  unfolding shown on_reading
  shown-refused n i e = rw e refl

  pub from-refused : (n i : ℕ) → reading list ≡ refused n i → 0 ≡ shown_from list t line
  unfolding shown_from on_reading
  from-refused n i e = rw e refl

  module _ (l : ListRead list) where
    pub shown-wrong-length : (length t ≡ l.last.cells → ⊥) → [] ≡ shown list t line
    unfolding shown on_reading
    shown-wrong-length h = rw (l.is_read, ne_eqb (length t) l.last.cells h) refl

    pub shown-stretch : length t ≡ l.last.cells → (r : Range Cell) → IsStretch list line l r → take (r.end.0 - r.start.0) (drop r.start.0 t) ≡ shown list t line
    unfolding shown on_reading
    shown-stretch h r s = rw (l.is_read, eq-eqb (length t) l.last.cells h) (s.is t)

    pub from-wrong-length : (length t ≡ l.last.cells → ⊥) → 0 ≡ shown_from list t line
    unfolding shown_from on_reading
    from-wrong-length h = rw (l.is_read, ne_eqb (length t) l.last.cells h) refl

    pub from-stretch : length t ≡ l.last.cells → (r : Range Cell) → IsStretch list line l r → r.start.0 ≡ shown_from list t line
    unfolding shown_from on_reading
    from-stretch h r s = rw (l.is_read, eq-eqb (length t) l.last.cells h) s.starts
