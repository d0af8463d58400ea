-- The induction over the list, by the law of a line alone: the rows of a list hold in a table exactly where working from the table's own
-- inputs meets no false statement and gives the table's cells.
use mathlib.Core.Path.{◌≡◌, refl, sym, ap, ◌∙◌, subst}
use mathlib.Core.Bool.{Bool, true, false, cond}
use mathlib.Core.List.{List, [], ◌∷◌, ◌++◌, map}
use mathlib.Core.Logic.{◌↔◌}
use Prim.Native.Nat.{ℕ, zero, suc, ◌+◌, ◌≤◌, ◌<◌}
use native.Mathlib.Omega.{arith}
use lib.Dec.{T}
use lib.ListN.{length, get_or, take, drop, length-take, length-drop, length-map, take-append-drop}
use lib.Seq.{take-take, drop-drop, drop-cons, drop-length, drop_at, take_at}
use lib.IntN.{ℤ, pos}
use Rattle.algebra.specs.Congruence.{remainder}
use Rattle.algebra.specs.Digits.{Below}
use Rattle.meaning.specs.Number.{in_range, signed, OddPrime}
use Rattle.meaning.specs.Line.{Line}
use Rattle.meaning.specs.Known.{Ends, Known, Within}
use Rattle.meaning.specs.Gadget.Interface.{Gadget}
use Rattle.meaning.specs.Meaning.{gadget, places_from, after}
use Rattle.meaning.specs.Work.{Worked, false-at, true-table, with_cells, work_from}
use Rattle.meaning.specs.Reply.{rows_from}
use Rattle.meaning.specs.Claims.{input_cells_from, signed_at}
use Rattle.meaning.proofs.Number.{positive, signed_range}
use Rattle.meaning.proofs.Cells.{cells_at, head-equal, tail-equal}
use Rattle.meaning.proofs.Hold.{Hold, hold-append}
use Rattle.meaning.proofs.Law.{InCells, cells-append, below-any, TableBefore, Law}
use Rattle.meaning.specs.Kept.{Kept, Sound}
use Rattle.meaning.proofs.Kept.{keeps-all}
use Rattle.meaning.proofs.Lines.{line-law, sound-after, same-prime}

-- ---- along the list

pub prime-kept : (ls : List Line) (n : ℕ) (s s' : Known) → Kept (suc n) s ls s' → s.p ≡ s'.p
prime-kept [] n s s' k = ap (λ (q : Known). q.p) k
prime-kept (l ∷ ls) n s s' k = sym (same-prime n s l (keeps-all (suc n) s l k.0)) ∙ prime-kept ls (suc n) (after s l) s' k.1

-- the law of the first line, at the prime of the whole list
pub first-law : (l : Line) (ls : List Line) (n : ℕ) (s s' : Known) → Kept n s (l ∷ ls) s' → Sound n s → Law s'.p s (gadget s l)
first-law l ls n s s' k h =
    subst (λ (p : ℕ). Law p s (gadget s l)) (prime-kept ls n (after s l) s' k.1) (line-law n s l h (keeps-all n s l k.0))

pub cells-grow : (ls : List Line) (n : ℕ) (s s' : Known) → Kept n s ls s' → s.cells ≤ s'.cells
unfolding after
cells-grow [] n s s' k = omega (arith, ap (λ (q : Known). q.cells) k)
cells-grow (l ∷ ls) n s s' k = omega (arith, cells-grow ls (suc n) (after s l) s' k.1)

-- ---- the values of a line stand in its first cells

module _ (p : ℕ) (t : List ℕ) where
  first-cells : (c : ℕ) (es : List Ends) (ys : List ℤ) → length ys ≡ length es → take (length es) (drop c t) ≡ map (remainder p) ys
      → InCells p t (places_from c es) ys
  unfolding places_from
  first-cells c [] [] l e = tt
  first-cells c [] (y ∷ ys) l e = absurd (omega arith)
  first-cells c (d ∷ es) [] l e = absurd (omega arith)
  first-cells c (d ∷ es) (y ∷ ys) l e =
      let inside : c < length t = omega (arith, length-take (suc (length es)) (drop c t), length-drop c t, ap (λ (q : List ℕ). length q) e) in
      let q : get_or t c 0 ∷ take (length es) (drop (suc c) t) ≡ remainder p y ∷ map (remainder p) ys = rw (drop-cons t c 0 inside) at e in
      (head-equal q, first-cells (suc c) es ys (omega arith) (tail-equal q))

  made-stand : (s : Known) (g : Gadget) → Law p s g → (vs : List ℤ) (next : ℤ) → cells_at t s.cells g.width ≡ g.cells vs next
      → InCells p t (places_from s.cells g.made) (g.values vs next)
  unfolding cells_at
  made-stand s g law vs next e =
      let m : ℕ = length g.made in
      let first = law.values-first vs next in
      let enough : m ≤ g.width = omega (
        arith,
        length-take m (g.cells vs next),
        law.cells_count vs next,
        law.values-count vs next,
        length-map (g.values vs next) (remainder p),
        ap (λ (q : List ℕ). length q) first,
      ) in
      first-cells s.cells g.made (g.values vs next) (law.values-count vs next)
      (sym (take-take m g.width (drop s.cells t) enough) ∙ ap (take m) e ∙ first)

-- ---- a column of inputs, its first and its others

module _ (f : ℕ → ℤ) (c : ℕ) (rest : List ℕ) where
  next-input : (i : ℕ) → 1 ≤ i → get_or (map f (take i (c ∷ []) ++ rest)) 0 (pos 0) ≡ f c
  next-input zero h = absurd (omega arith)
  next-input (suc i) h = refl

  other-inputs : (i : ℕ) → i ≤ 1 → drop i (map f (take i (c ∷ []) ++ rest)) ≡ map f rest
  other-inputs zero h = refl
  other-inputs (suc zero) h = refl
  other-inputs (suc (suc i)) h = absurd (omega arith)

-- ---- a line worked, then the rest

abbrev pub values_in : Worked → List ℤ
values_in (false-at n) = []
values_in (true-table vs cs) = vs

abbrev pub cells_in : Worked → List ℕ
cells_in (false-at n) = []
cells_in (true-table vs cs) = cs

abbrev pub IsTrue : Worked → Type 0
IsTrue (false-at n) = ⊥
IsTrue (true-table vs cs) = Unit {0}

-- a line and the rest of a list, worked without a false statement: the line's is true, and its cells come before those of the rest
pub split-worked : (b : Bool) (n : ℕ) (cs : List ℕ) (rest : Worked) (ws : List ℤ) (ds : List ℕ)
    → cond b (with_cells cs rest) (false-at n) ≡ true-table ws ds
    → T b × ((es : List ℕ) × (rest ≡ true-table ws es) × (cs ++ es ≡ ds))
unfolding with_cells
split-worked false n cs rest ws ds e = absurd (subst IsTrue (sym e) tt)
split-worked true n cs (false-at m) ws ds e = absurd (subst IsTrue (sym e) tt)
split-worked true n cs (true-table vs es) ws ds e = (tt, (es, ap (λ (xs : List ℤ). true-table xs es) (ap values_in e), ap cells_in e))

pub join-worked : (b : Bool) (n : ℕ) (cs : List ℕ) (rest : Worked) (ws : List ℤ) (ds es : List ℕ)
    → T b → rest ≡ true-table ws es → cs ++ es ≡ ds → cond b (with_cells cs rest) (false-at n) ≡ true-table ws ds
unfolding with_cells
join-worked false n cs rest ws ds es t r e = absurd t
join-worked true n cs rest ws ds es t r e = rw (r, ← e) refl

-- ---- one line, in a table

-- the stretch of a line and the cells after it, joined and parted
module _ (t : List ℕ) (c w : ℕ) (cs es : List ℕ) (long : length cs ≡ w) where
  pub join_cells : cells_at t c w ≡ cs → es ≡ drop (c + w) t → cs ++ es ≡ drop c t
  unfolding cells_at
  join_cells a b = rw (← a, b, ← drop-drop w c t) (take-append-drop w (drop c t))

  pub line-cells : cs ++ es ≡ drop c t → cells_at t c w ≡ cs
  unfolding cells_at
  line-cells e = rw (← e) (take_at cs es w long)

  pub later-cells : cs ++ es ≡ drop c t → es ≡ drop (c + w) t
  later-cells e = sym (drop_at cs es w long) ∙ ap (drop w) e ∙ drop-drop w c t

-- after a true line whose cells are in the table, the values with its own lie between their ends and stand in their cells
module _ (p : ℕ) (t : List ℕ) (s : Known) (l : Line) (law : Law p s (gadget s l)) (vs : List ℤ) (next : ℤ)
    (within : Within s.known vs) (in_cells : InCells p t s.places vs) (holds : T ((gadget s l).statement vs))
    (in-range : 1 ≤ (gadget s l).inputs → T (in_range p next)) where
  pub within-after : Within (after s l).known (vs ++ (gadget s l).values vs next)
  unfolding after
  within-after = law.within vs next within holds in-range

  pub cells-after : cells_at t s.cells (gadget s l).width ≡ (gadget s l).cells vs next
      → InCells p t (after s l).places (vs ++ (gadget s l).values vs next)
  unfolding after
  cells-after e = cells-append p t s.places (places_from s.cells (gadget s l).made) vs ((gadget s l).values vs next) in_cells
      (made-stand p t s (gadget s l) law vs next e)

-- ---- the rows of a list

module _ (s' : Known) (t : List ℕ) (long : length t ≡ s'.cells) (below : Below s'.p t) where
  -- the inputs of the lines from here on
  abbrev inputs : Known → List Line → List ℤ
  inputs s ls = map (signed_at s'.p t) (input_cells_from s ls)

  -- what the induction shows of the lines from line n on, the values at its end included
  abbrev ExactFrom : ℕ → Known → List ℤ → List Line → Type 0
  ExactFrom n s vs ls =
      (Hold s'.p t (rows_from s ls) → (ws : List ℤ) × (work_from n s vs (inputs s ls) ls ≡ true-table ws (drop s.cells t))
      × Within s'.known ws × InCells s'.p t s'.places ws)
      × ((ws : List ℤ) → work_from n s vs (inputs s ls) ls ≡ true-table ws (drop s.cells t) → Hold s'.p t (rows_from s ls))

  module _ (l : Line) (ls : List Line) (n : ℕ) (s : Known) (vs : List ℤ) (k : Kept n s (l ∷ ls) s') (h : Sound n s)
      (within : Within s.known vs) (in_cells : InCells s'.p t s.places vs) where
    abbrev g : Gadget
    g = gadget s l

    abbrev next : ℤ
    next = get_or (inputs s (l ∷ ls)) 0 (pos 0)

    law : Law s'.p s g
    law = first-law l ls n s s' k h

    odd : OddPrime s'.p
    odd = subst OddPrime (prime-kept ls n (after s l) s' k.1) ((sound-after n s l h (keeps-all n s l k.0)).prime (omega arith))

    before : TableBefore s'.p s g t vs
    unfolding after
    before = record { room = omega (arith, cells-grow ls (suc n) (after s l) s' k.1); below = below; within = within; in_cells = in_cells }

    is_signed : 1 ≤ g.inputs → next ≡ signed s'.p (get_or t s.cells 0)
    unfolding input_cells_from signed_at
    is_signed i = next-input (signed_at s'.p t) s.cells (input_cells_from (after s l) ls) g.inputs i

    in-range : 1 ≤ g.inputs → T (in_range s'.p next)
    in-range i = rw (is_signed i) (signed_range odd (get_or t s.cells 0) (below-any s'.p t s.cells (positive odd) below))

    others : drop g.inputs (inputs s (l ∷ ls)) ≡ inputs (after s l) ls
    unfolding input_cells_from
    others = other-inputs (signed_at s'.p t) s.cells (input_cells_from (after s l) ls) g.inputs law.one_input

    -- the first line and the later ones, worked apart and together
    abbrev values-after : List ℤ
    values-after = vs ++ g.values vs next

    abbrev Later : List ℤ → Type 0
    Later ws = work_from (suc n) (after s l) values-after (inputs (after s l) ls) ls ≡ true-table ws (drop (after s l).cells t)

    abbrev Whole : List ℤ → Type 0
    Whole ws = work_from n s vs (inputs s (l ∷ ls)) (l ∷ ls) ≡ true-table ws (drop s.cells t)

    work-joined : (ws : List ℤ) → T (g.statement vs) → cells_at t s.cells g.width ≡ g.cells vs next → Later ws → Whole ws
    unfolding work_from after
    work-joined ws holds cells e = join-worked (g.statement vs) n (g.cells vs next)
        (work_from (suc n) (after s l) values-after (drop g.inputs (inputs s (l ∷ ls))) ls) ws (drop s.cells t)
        (drop (s.cells + g.width) t) holds (rw others e)
        (join_cells t s.cells g.width (g.cells vs next) (drop (s.cells + g.width) t) (law.cells_count vs next) cells refl)

    work-parted : (ws : List ℤ) → Whole ws → T (g.statement vs) × (cells_at t s.cells g.width ≡ g.cells vs next) × Later ws
    unfolding work_from after
    work-parted ws e =
        let q = split-worked (g.statement vs) n (g.cells vs next)
        (work_from (suc n) (after s l) values-after (drop g.inputs (inputs s (l ∷ ls))) ls) ws (drop s.cells t) e in
        let es : List ℕ = q.1.0 in
        let long-enough = law.cells_count vs next in (
          q.0,
          line-cells t s.cells g.width (g.cells vs next) es long-enough q.1.2,
          rw (← others) (q.1.1 ∙ ap (true-table ws) (later-cells t s.cells g.width (g.cells vs next) es long-enough q.1.2)),
        )

    -- the first line by its law, and the later lines by the induction
    first-exact : ((vs' : List ℤ) → Within (after s l).known vs' → InCells s'.p t (after s l).places vs' → ExactFrom (suc n) (after s l) vs' ls)
        → ExactFrom n s vs (l ∷ ls)
    unfolding rows_from
    first-exact later = (
      λ r. let a = split.0 r in let q = rows.0 a.0 in
          let e = (yields q.0 q.1).0 a.1 in (e.0, work-joined e.0 q.0 q.1 e.1, e.2, e.3),
      λ ws e. let q = work-parted ws e in split.1 (rows.1 (q.0, q.1), (yields q.0 q.1).1 ws q.2),
    )
      where
        rows : Hold s'.p t g.rows ↔ (T (g.statement vs) × (cells_at t s.cells g.width ≡ g.cells vs next))
        rows = law.rows-hold t vs next before is_signed

        split : Hold s'.p t (g.rows ++ rows_from (after s l) ls) ↔ (Hold s'.p t g.rows × Hold s'.p t (rows_from (after s l) ls))
        split = hold-append s'.p t g.rows (rows_from (after s l) ls)

        yields : T (g.statement vs) → cells_at t s.cells g.width ≡ g.cells vs next → ExactFrom (suc n) (after s l) values-after ls
        yields holds cells = later values-after (within-after s'.p t s l law vs next within in_cells holds in-range)
            (cells-after s'.p t s l law vs next within in_cells holds in-range cells)

  pub rows-iff : (ls : List Line) (n : ℕ) (s : Known) (vs : List ℤ) → Kept n s ls s' → Sound n s → Within s.known vs
      → InCells s'.p t s.places vs → ExactFrom n s vs ls
  unfolding rows_from work_from
  rows-iff [] n s vs k h w c = (
    λ _. (
      vs,
      ap (true-table vs) (sym nothing_left),
      subst (λ (q : Known). Within q.known vs) k w,
      subst (λ (q : Known). InCells s'.p t q.places vs) k c,
    ),
    λ _ _. tt,
  )
    where
      nothing_left : drop s.cells t ≡ []
      nothing_left = rw (ap (λ (q : Known). q.cells) k, ← long) (drop-length t)
  rows-iff (l ∷ ls) n s vs k h w c =
      first-exact l ls n s vs k h w c (λ vs'. rows-iff ls (suc n) (after s l) vs' k.1 (sound-after n s l h (keeps-all n s l k.0)))
