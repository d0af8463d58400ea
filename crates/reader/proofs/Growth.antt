-- A line's answer taken into the state: what the rules tell of the line is what stepping over it does, the array with one more entry stands for the
-- state after the line, and the array is left as it was past the values.
use mathlib.Core.Path.{◌≡◌, refl, sym, ap, ap₂, ◌∙◌}
use mathlib.Core.Logic.{⊎_elim}
use mathlib.Core.List.{List, [], ◌∷◌, ◌++◌, map}
use mathlib.Core.Option.{Option, none, some}
use Prim.Native.Nat.{ℕ, ◌+◌, ◌≤◌, ◌<◌}
use native.Mathlib.Omega.{arith}
use native.Mathlib.Numerals.{add-one}
use lib.Dec.{leb→le}
use lib.ListN.{length, get_or, take, set, length-set}
use lib.Seq.{take-suc-set, drop-set-lt, length-take-le}
use Rattle.std.proofs.lemmas.List.{length-map, map-append, get_or-set_other}
use Rattle.std.proofs.lemmas.Grind.{get_or-set_at}
use Rattle.std.proofs.lemmas.Bool.{cases_eq}
use Rattle.std.proofs.Math.Arith.{lt_of_le-ne}
use Rattle.std.specs.Prelude.{Ok}
use Rattle.meaning.specs.Line.{Line}
use Rattle.meaning.specs.Known.{Ends, Known}
use Rattle.meaning.specs.Meaning.{gadget, places_from, after}
use Rattle.meaning.specs.Refusal.{value_limit, on_some, rules, first_broken}
use Rattle.meaning.specs.Kept.{Keeps}
use Rattle.meaning.proofs.Kept.{keeps-all}
use Rattle.rules.specs.Ready.{BoundedEnds, greatest}
use Rattle.rules.specs.Yield.{refuses, makes, yield_of, ends_meaning}
use Rattle.rules.specs.declared.ends.Ends.{Ends as ReadEnds}
use Rattle.rules.proofs.Rules.{yield_with}
use Rattle.reader.specs.State.{known_of, state_of, WithinLimits, Ordered}
use Rattle.reader.specs.Size.{added, Adds}
use Rattle.reader.specs.Step.{stops, goes, step_of, placed_at, Stepped}
use Rattle.reader.specs.declared.counts.Counts.{Counts}
use Rattle.reader.specs.declared.state.State.{State}

-- ---- what a line yields, taken apart

yield-refused : (o : Option ℕ) (es : List Ends) (a : Known) (n : ℕ) → refuses n ≡ on_some o refuses (makes es) → stops n ≡ on_some o stops (goes a)
unfolding on_some
yield-refused none es a n e = let z : ◌≡◌ {A = ℕ} 0 1 = cc in absurd (omega arith)
yield-refused (some r) es a n e = cc

yield-made : (o : Option ℕ) (es : List Ends) (e : Ends) → makes (e ∷ []) ≡ on_some o refuses (makes es) → (o ≡ none) × (es ≡ e ∷ [])
unfolding on_some
yield-made none es e q = (refl, cc)
yield-made (some r) es e q = let z : ◌≡◌ {A = ℕ} 0 1 = cc in absurd (omega arith)

module _ (s : Known) (l : Line) (es : List Ends) where
  pub refused-step : (n : ℕ) → refuses n ≡ yield_with s l es → stops n ≡ step_of 1 s l
  unfolding step_of
  refused-step n e = yield-refused (first_broken rules 1 s l) es (after s l) n e

  -- no rule is broken, and these are the ends
  pub kept-ends : {e : Ends} → makes (e ∷ []) ≡ yield_with s l es → (first_broken rules 1 s l ≡ none) × (es ≡ e ∷ [])
  kept-ends {e} q = yield-made (first_broken rules 1 s l) es e q

-- ---- the state with one more entry

-- the state after a line with these ends, which are those of the value called `at`
abbrev pub entered : State → (at : ℕ) → ReadEnds → (size : Counts) → State
entered st at e size = record { p = st.p; counts = added st.counts size; ends = set st.ends at e }

-- what is known is a state, all of it
pub record Held (s : Known) (st : State) (places : List ℕ) : Type 0 where
  pub is : s ≡ state_of st places
  pub sized : WithinLimits st

known-grown : (n : ℕ) (es : List ReadEnds) (e : ReadEnds) → n < length es
    → map ends_meaning (take (n + 1) (set es n e)) ≡ map ends_meaning (take n es) ++ ends_meaning e ∷ []
known-grown n es e inside = rw (add-one n, take-suc-set es n e inside, map-append ends_meaning (take n es) (e ∷ []))

same-state : {a b : Known} → a.p ≡ b.p → a.known ≡ b.known → a.places ≡ b.places → a.inputs ≡ b.inputs → a.cells ≡ b.cells
    → a.rows ≡ b.rows → a ≡ b
same-state e f g h k m = λ i. record { p = e i; known = f i; places = g i; inputs = h i; cells = k i; rows = m i }

-- the ends that count stay small where they are few more
pub sized-entered : (st : State) (at n : ℕ) (e : ReadEnds) → ((i : ℕ) (d : ReadEnds) → i < st.counts.values → BoundedEnds greatest (get_or st.ends i d))
    → BoundedEnds greatest e → at < length st.ends → ((i : ℕ) → i < n → (i ≡ at → ⊥) → i < st.counts.values)
    → (i : ℕ) (d : ReadEnds) → i < n → BoundedEnds greatest (get_or (set st.ends at e) i d)
sized-entered st at n e small here inside others i d h = by_place st.ends at i d inside small-others
  where
    small-others : (i ≡ at → ⊥) → BoundedEnds greatest (get_or st.ends i d)
    small-others o = small i d (others i h o)

    by_place : (es : List ReadEnds) (a i : ℕ) (d : ReadEnds) → a < length es → ((i ≡ a → ⊥) → BoundedEnds greatest (get_or es i d)) → BoundedEnds greatest (get_or (set es a e) i d)
    by_place es a i d l o = ⊎_elim (λ q. rw (get_or-set_at es a i e d q l) here) (λ q. rw (get_or-set_other es a i e d q) (o q)) (cases_eq i a)

module _ {s : Known} {st : State} {places : List ℕ} (held : Held s st places) (l : Line) where
  -- as many values are known as the code counts
  pub values-are : length s.known ≡ st.counts.values
  values-are =
      rw held.is (length-map (take st.counts.values st.ends) ends_meaning ∙ length-take-le st.counts.values st.ends (omega (arith, held.sized.few.values-most, held.sized.long)))

  -- what a line does that breaks no rule
  module _ (size : Counts) (adds : Adds s l size) (prime-is : (after s l).p ≡ s.p) (kept : first_broken rules 1 s l ≡ none) where
    pub stepped : (es : List ReadEnds)
        → map ends_meaning (take (st.counts.values + size.values) es) ≡ (gadget s l).narrowed ++ (gadget s l).made
        → take (st.counts.values + size.values) (placed_at st.counts places) ≡ s.places ++ places_from s.cells (gadget s l).made
        → goes (state_of (record { p = st.p; counts = added st.counts size; ends = es }) (placed_at st.counts places)) ≡ step_of 1 s l
    unfolding after step_of on_some
    stepped es known-is places_is =
        rw kept (ap goes (same-state
        (ap (λ (z : Known). z.p) (sym held.is) ∙ sym prime-is)
        known-is
        places_is
        (ap₂ (λ (x y : ℕ). x + y) (ap (λ (z : Known). z.inputs) (sym held.is)) (sym adds.inputs_are))
        (ap₂ (λ (x y : ℕ). x + y) (ap (λ (z : Known). z.cells) (sym held.is)) (sym adds.cells_are))
        (ap₂ (λ (x y : ℕ). x + y) (ap (λ (z : Known). z.rows) (sym held.is)) (sym adds.rows_are))))

  -- no more than 256 values, by the line's own rules
  pub few-values : (size : Counts) → (Keeps 1 s l → Adds s l size) → (es : List Ends) {e : Ends} → makes (e ∷ []) ≡ yield_with s l es → st.counts.values + size.values ≤ value_limit
  few-values size adds es yields =
      let kept = keeps-all 1 s l (kept-ends s l es yields).0 in
      omega (arith, leb→le (length s.known + length (gadget s l).made) value_limit kept.values-fit, values-are, (adds kept).values-are)

-- ---- a line that makes a value

-- it adds these counts and narrows no ends
pub record Grows (s : Known) (l : Line) (size : Counts) : Type 0 where
  pub adds : Adds s l size
  pub narrowed-is : (gadget s l).narrowed ≡ s.known
  pub prime-is : (after s l).p ≡ s.p

module _ {s : Known} {st : State} {places : List ℕ} (held : Held s st places) (l : Line) {e : ReadEnds} (yields : makes (ends_meaning e ∷ []) ≡ yield_of s l) where
  parts : (first_broken rules 1 s l ≡ none) × ((gadget s l).made ≡ ends_meaning e ∷ [])
  unfolding yield_of
  parts = kept-ends s l (gadget s l).made yields

  kept : Keeps 1 s l
  kept = keeps-all 1 s l parts.0

  -- value 257 is refused by the line's own rules
  pub room : st.counts.values < value_limit
  room = omega (arith, leb→le (length s.known + length (gadget s l).made) value_limit kept.values-fit, values-are held l, ap (λ (es : List Ends). length es) parts.1)

  module _ (size : Counts) (grows-so : Keeps 1 s l → Grows s l size) where
    grows : Grows s l size
    grows = grows-so kept

    one : size.values ≡ 1
    one = sym grows.adds.values-are ∙ ap (λ (es : List Ends). length es) parts.1

    pub grown : length places ≡ value_limit → goes (state_of (entered st st.counts.values e size) (placed_at st.counts places)) ≡ step_of 1 s l
    unfolding placed_at places_from
    grown long = stepped held l size grows.adds grows.prime-is parts.0 (set st.ends st.counts.values e)
        (rw one (known-grown st.counts.values st.ends e (omega (arith, room, held.sized.long))
        ∙ ap₂ (λ (xs ys : List Ends). xs ++ ys) (sym (grows.narrowed-is ∙ ap (λ (z : Known). z.known) held.is)) (sym parts.1)))
        (rw (one, add-one st.counts.values, take-suc-set places st.counts.values st.counts.cells.0 (omega (arith, room, long)))
        (ap₂ (λ (xs ys : List ℕ). xs ++ ys) (ap (λ (z : Known). z.places) (sym held.is))
        (ap (λ (i : ℕ). i ∷ []) (ap (λ (z : Known). z.cells) (sym held.is)) ∙ ap (places_from s.cells) (sym parts.1))))

    pub grown-left : BoundedEnds greatest e → (Ordered (known_of st) → Ordered (known_of (entered st st.counts.values e size)))
        → Stepped (Ok tt) st (entered st st.counts.values e size)
    unfolding yield_of
    grown-left small ordered = record {
      prime = refl;
      long = length-set st.ends st.counts.values e;
      left = (few-values held l size (λ k. (grows-so k).adds) (gadget s l).made yields, drop-set-lt (st.counts.values + size.values) st.ends st.counts.values e (omega (arith, one)));
      sized = sized-entered st st.counts.values (st.counts.values + size.values) e held.sized.sized small (omega (arith, room, held.sized.long)) (λ i h o. lt_of_le-ne (omega (arith, one)) o);
      ordered = ordered;
    }
