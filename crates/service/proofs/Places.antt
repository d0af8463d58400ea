-- The cells of the values, as a walk over the list fills them in line by line.
use mathlib.Core.Path.{◌≡◌, refl, sym, ap, ◌∙◌, subst}
use mathlib.Core.Bool.{cond}
use mathlib.Core.List.{List, [], ◌∷◌, ◌++◌, append-nil}
use Prim.Native.Nat.{ℕ, zero, suc, ◌+◌, ◌≤◌, ◌<◌}
use native.Mathlib.Omega.{arith}
use native.Mathlib.Nat.{add-zero}
use native.Mathlib.Numerals.{add-one}
use borrow.Author.Tests.{lt-ltb, le-ltb}
use lib.Dec.{ltb}
use lib.IntN.{pos}
use lib.ListN.{length, get_or, take, set, length-append, length-map, length-set, length-take}
use lib.Seq.{take-suc-set, get_or-take, length-take-le}
use Rattle.algebra.specs.Congruence.{remainder}
use Rattle.algebra.specs.Digits.{Below}
use Rattle.meaning.specs.Line.{Line}
use Rattle.meaning.specs.Known.{Ends, Known, fresh}
use Rattle.meaning.specs.Gadget.Interface.{Gadget}
use Rattle.meaning.specs.Meaning.{gadget, places_from, after}
use Rattle.meaning.specs.Kept.{Keeps, Sound}
use Rattle.meaning.proofs.Law.{Law, below_at, below-append}
use Rattle.meaning.proofs.Lines.{line-law}
use Rattle.reader.specs.declared.counts.Counts.{Counts}
use Rattle.reader.proofs.Steps.{few}
use Rattle.service.specs.Walk.{CountsOf, with_place, Placed}
use Rattle.meaning.specs.Refusal.{value_limit}

pub placed_first : (places : List ℕ) → length places ≡ value_limit → Placed fresh places
unfolding fresh
placed_first places h = record { long = h; are = refl; below = tt }

-- ---- after a line

below_more : (m n : ℕ) (xs : List ℕ) → m ≤ n → Below m xs → Below n xs
below_more m n [] h b = tt
below_more m n (x ∷ xs) h b = (omega (arith, b.0), below_more m n xs h b.1)

-- a line has a cell for each value that it makes
room-for-values : (p : ℕ) (s : Known) (g : Gadget) → Law p s g → length g.made ≤ g.width
room-for-values p s g law =
    let m : ℕ = length g.made in
    omega (
      arith,
      length-take m (g.cells [] (pos 0)),
      law.cells_count [] (pos 0),
      law.values-count [] (pos 0),
      length-map (g.values [] (pos 0)) (remainder p),
      ap (λ (q : List ℕ). length q) (law.values-first [] (pos 0)),
    )

-- the places with those of the new values: none, or one
module _ (places : List ℕ) (c d : Counts) (long : length places ≡ value_limit) (few-values : d.values ≤ value_limit) where
  places-with : (es : List Ends) (cells : ℕ) → cells ≡ c.cells.0 → c.values + length es ≡ d.values → length es ≤ 1
      → take c.values places ++ places_from cells es ≡ take (c.values + length es) (with_place places c d)
  unfolding with_place places_from
  places-with [] cells e h k = rw (le-ltb c.values d.values (omega arith), add-zero c.values) (append-nil (take c.values places))
  places-with (x ∷ []) cells e h k =
      rw (lt-ltb c.values d.values (omega arith), add-one c.values, take-suc-set places c.values c.cells.0 (omega (arith, long)), e) refl
  places-with (x ∷ (y ∷ es)) cells e h k = absurd (omega arith)

  with-long : length (with_place places c d) ≡ value_limit
  unfolding with_place
  with-long = cond-long (ltb c.values d.values)
    where
      cond-long : (t : mathlib.Core.Bool.Bool) → length (cond t (set places c.values c.cells.0) places) ≡ value_limit
      cond-long mathlib.Core.Bool.true = length-set places c.values c.cells.0 ∙ long
      cond-long mathlib.Core.Bool.false = long

places-below : (cells width : ℕ) (es : List Ends) → length es ≤ width → Below (cells + width) (places_from cells es)
unfolding places_from
places-below cells width [] h = tt
places-below cells zero (e ∷ es) h = absurd (omega arith)
places-below cells (suc width) (e ∷ es) h =
    (omega arith, subst (λ (n : ℕ). Below n (places_from (suc cells) es)) (omega arith) (places-below (suc cells) width es (omega arith)))

pub placed-next : (n : ℕ) (s : Known) (l : Line) (places : List ℕ) (c d : Counts) → Sound n s → Keeps n s l → Placed s places → CountsOf s c
    → CountsOf (after s l) d → d.values ≤ c.values + 1 → d.values ≤ value_limit → Placed (after s l) (with_place places c d)
unfolding after
placed-next n s l places c d sound keeps placed was now-counted one_more few-values =
    let g = gadget s l in
    let kept-count = (few n s l keeps).2 in
    let grown = length-append g.narrowed g.made in
    let made-count : c.values + length g.made ≡ d.values = omega (arith, kept-count, grown, was.values-are, now-counted.values-are) in
    let count : length (g.narrowed ++ g.made) ≡ c.values + length g.made = omega (arith, grown, kept-count, was.values-are) in
    record {
      long = with-long places c d placed.long few-values;
      are = ap (λ (q : List ℕ). q ++ places_from s.cells g.made) (placed.are ∙ ap (λ (i : ℕ). take i places) was.values-are)
          ∙ places-with places c d placed.long few-values g.made s.cells was.cells_are made-count (omega (arith, made-count))
          ∙ ap (λ (i : ℕ). take i (with_place places c d)) (sym count);
      below = below-append (s.cells + g.width) s.places (places_from s.cells g.made)
          (below_more s.cells (s.cells + g.width) s.places (omega arith) placed.below)
          (places-below s.cells g.width g.made (room-for-values _ s g (line-law n s l sound keeps)));
    }

-- ---- a place

-- the place of a known value is a cell of what is known
pub place_inside : (s : Known) (places : List ℕ) → Placed s places → (v : ℕ) → v < length s.known → length s.known ≤ value_limit → get_or places v 0 < s.cells
place_inside s places placed v h most =
    let there : get_or s.places v 0 ≡ get_or places v 0 = ap (λ (q : List ℕ). get_or q v 0) placed.are ∙ get_or-take (length s.known) places v 0 h in
    let many : length s.places ≡ length s.known = ap (λ (q : List ℕ). length q) placed.are ∙ length-take-le (length s.known) places (omega (arith, placed.long)) in
    omega (arith, below_at s.cells s.places v placed.below (omega (arith, many)), there)

-- ---- what the code writes

pub place_taken : (places : List ℕ) (c d : Counts) → c.values < d.values → set places c.values c.cells.0 ≡ with_place places c d
unfolding with_place
place_taken places c d h = rw (lt-ltb c.values d.values h) refl

pub place_not_taken : (places : List ℕ) (c d : Counts) → d.values ≤ c.values → places ≡ with_place places c d
unfolding with_place
place_not_taken places c d h = rw (le-ltb c.values d.values h) refl
