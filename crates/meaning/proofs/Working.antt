-- What working a list without a false statement gives: a table of the list's length with all cells below p, whose values lie between
-- their known ends, and in whose cells the inputs and the values stand. By the law of a line alone.
use mathlib.Core.Path.{◌≡◌, refl, sym, ap, ap₂, ◌∙◌, subst}
use mathlib.Core.List.{List, [], ◌∷◌, ◌++◌, map}
use Prim.Native.Nat.{ℕ, zero, suc, ◌+◌, ◌≤◌, ◌<◌}
use native.Mathlib.Omega.{arith}
use native.Mathlib.Nat.{add-zero}
use lib.Dec.{T}
use lib.ListN.{length, get_or, take, drop, length-take, length-drop, length-append}
use lib.Seq.{get_or-take, get_or-drop}
use lib.IntN.{ℤ, pos}
use Rattle.algebra.specs.Congruence.{remainder}
use Rattle.algebra.specs.Digits.{Below}
use Rattle.meaning.specs.Number.{in_range, signed, OddPrime}
use Rattle.meaning.specs.Line.{Line}
use Rattle.meaning.specs.Known.{Known, Within}
use Rattle.meaning.specs.Gadget.Interface.{Gadget}
use Rattle.meaning.specs.Meaning.{gadget, after}
use Rattle.meaning.specs.Work.{true-table, work_from}
use Rattle.meaning.specs.Claims.{input_cells_from, signed_at}
use Rattle.meaning.proofs.Number.{signed-remainder}
use Rattle.meaning.proofs.Cells.{cells_at}
use Rattle.meaning.proofs.Law.{InCells, below-append, Law}
use Rattle.meaning.specs.Kept.{Kept, Sound}
use Rattle.meaning.proofs.Kept.{keeps-all}
use Rattle.meaning.proofs.Lines.{sound-after}
use Rattle.meaning.proofs.Induction.{prime-kept, first-law, cells_in, values_in, split-worked, line-cells, later-cells, within-after, cells-after}

pub inputs-grow : (ls : List Line) (n : ℕ) (s s' : Known) → Kept n s ls s' → s.inputs ≤ s'.inputs
unfolding after
inputs-grow [] n s s' k = omega (arith, ap (λ (q : Known). q.inputs) k)
inputs-grow (l ∷ ls) n s s' k = omega (arith, inputs-grow ls (suc n) (after s l) s' k.1)

-- the first input stands in its cell, and the others in theirs
inputs-joined : (f : ℕ → ℤ) (c : ℕ) (rest : List ℕ) (xs : List ℤ) (i : ℕ) → i ≤ 1 → i ≤ length xs → (1 ≤ i → f c ≡ get_or xs 0 (pos 0))
    → map f rest ≡ drop i xs → map f (take i (c ∷ []) ++ rest) ≡ xs
inputs-joined f c rest xs zero h l first others = others
inputs-joined f c rest [] (suc zero) h l first others = absurd (omega arith)
inputs-joined f c rest (x ∷ xs) (suc zero) h l first others = ap₂ (λ (y : ℤ) (ys : List ℤ). y ∷ ys) (first (omega arith)) others
inputs-joined f c rest xs (suc (suc i)) h l first others = absurd (omega arith)

-- every input is in the signed range
abbrev pub AllInRange : ℕ → List ℤ → Type 0
AllInRange p xs = (i : ℕ) → i < length xs → T (in_range p (get_or xs i (pos 0)))

drop-in-range : (p i : ℕ) (xs : List ℤ) → AllInRange p xs → AllInRange p (drop i xs)
drop-in-range p i xs h j l = rw (get_or-drop i xs j (pos 0)) (h (i + j) (omega (arith, length-drop i xs)))

module _ (s' : Known) (t : List ℕ) where
  -- what the lines from here on yield
  pub record MadeValues (s : Known) (xs : List ℤ) (ls : List Line) (ws : List ℤ) : Type 0 where
    pub inputs-stand : map (signed_at s'.p t) (input_cells_from s ls) ≡ xs
    pub within : Within s'.known ws
    pub in_cells : InCells s'.p t s'.places ws
    pub below : Below s'.p (drop s.cells t)
    pub long : s.cells + length (drop s.cells t) ≡ s'.cells

  nothing-made : (n : ℕ) (s : Known) (vs xs : List ℤ) → s ≡ s' → Within s.known vs → InCells s'.p t s.places vs
      → s.inputs + length xs ≡ s'.inputs → (ws : List ℤ) → true-table vs [] ≡ true-table ws (drop s.cells t) → MadeValues s xs [] ws
  unfolding input_cells_from
  nothing-made n s vs xs k w c i ws e =
      let same : vs ≡ ws = ap values_in e in
      let none : [] ≡ drop s.cells t = ap cells_in e in
      record {
        inputs-stand = sym (empty xs (omega (arith, ap (λ (q : Known). q.inputs) k)));
        within = rw (← k, ← same) w;
        in_cells = rw (← same) (subst (λ (q : Known). InCells s'.p t q.places vs) k c);
        below = rw (← none) tt;
        long = rw (← none) (omega (arith, ap (λ (q : Known). q.cells) k));
      }
    where
      empty : (xs : List ℤ) → length xs ≡ 0 → xs ≡ []
      empty [] l = refl
      empty (x ∷ xs) l = absurd (omega arith)

  module _ (l : Line) (ls : List Line) (n : ℕ) (s : Known) (vs xs : List ℤ) (k : Kept n s (l ∷ ls) s') (h : Sound n s)
      (within : Within s.known vs) (in_cells : InCells s'.p t s.places vs)
      (count : s.inputs + length xs ≡ s'.inputs) (ranged : AllInRange s'.p xs) (ws : List ℤ)
      (worked : work_from n s vs xs (l ∷ ls) ≡ true-table ws (drop s.cells t)) where
    abbrev g : Gadget
    g = gadget s l

    abbrev next : ℤ
    next = get_or xs 0 (pos 0)

    law : Law s'.p s g
    law = first-law l ls n s s' k h

    odd : OddPrime s'.p
    odd = subst OddPrime (prime-kept ls n (after s l) s' k.1) ((sound-after n s l h (keeps-all n s l k.0)).prime (omega arith))

    enough : g.inputs ≤ length xs
    unfolding after
    enough = omega (arith, inputs-grow ls (suc n) (after s l) s' k.1)

    in-range : 1 ≤ g.inputs → T (in_range s'.p next)
    in-range i = ranged 0 (omega (arith, enough))

    parted : T (g.statement vs) × ((es : List ℕ)
        × (work_from (suc n) (after s l) (vs ++ g.values vs next) (drop g.inputs xs) ls ≡ true-table ws es)
        × (g.cells vs next ++ es ≡ drop s.cells t))
    unfolding work_from
    parted = split-worked (g.statement vs) n (g.cells vs next)
        (work_from (suc n) (after s l) (vs ++ g.values vs next) (drop g.inputs xs) ls) ws (drop s.cells t) worked

    cells_are : cells_at t s.cells g.width ≡ g.cells vs next
    cells_are = line-cells t s.cells g.width (g.cells vs next) parted.1.0 (law.cells_count vs next) parted.1.2

    rest-are : parted.1.0 ≡ drop (s.cells + g.width) t
    rest-are = later-cells t s.cells g.width (g.cells vs next) parted.1.0 (law.cells_count vs next) parted.1.2

    -- an input line's first cell is the input's remainder, and so reads as the input
    first-stands : 1 ≤ g.inputs → signed_at s'.p t s.cells ≡ next
    unfolding signed_at cells_at
    first-stands i =
        let first = law.input-first vs next i in
        let wide : 1 ≤ g.width = omega (arith, length-take 1 (g.cells vs next), ap (λ (q : List ℕ). length q) first, law.cells_count vs next) in
        let cell-is : get_or t s.cells 0 ≡ get_or (g.cells vs next) 0 0 =
        sym (get_or-take g.width (drop s.cells t) 0 0 wide ∙ get_or-drop s.cells t 0 0 ∙ ap (λ (j : ℕ). get_or t j 0) (add-zero s.cells))
        ∙ ap (λ (q : List ℕ). get_or q 0 0) cells_are in
        let input-is : get_or (g.cells vs next) 0 0 ≡ remainder s'.p next =
        sym (get_or-take 1 (g.cells vs next) 0 0 (omega arith)) ∙ ap (λ (q : List ℕ). get_or q 0 0) first in
        ap (signed s'.p) (cell-is ∙ input-is) ∙ signed-remainder odd next (in-range i)

    count-after : (after s l).inputs + length (drop g.inputs xs) ≡ s'.inputs
    unfolding after
    count-after = omega (arith, length-drop g.inputs xs, enough)

    line_made : ((vs' : List ℤ) → Within (after s l).known vs' → InCells s'.p t (after s l).places vs'
        → work_from (suc n) (after s l) vs' (drop g.inputs xs) ls ≡ true-table ws (drop (after s l).cells t)
        → MadeValues (after s l) (drop g.inputs xs) ls ws) → MadeValues s xs (l ∷ ls) ws
    unfolding input_cells_from after
    line_made later =
        let m = later (vs ++ g.values vs next) (within-after s'.p t s l law vs next within in_cells parted.0 in-range)
        (cells-after s'.p t s l law vs next within in_cells parted.0 in-range cells_are)
        (parted.1.1 ∙ ap (true-table ws) rest-are) in
        let all_are : g.cells vs next ++ drop (s.cells + g.width) t ≡ drop s.cells t =
        ap (λ (q : List ℕ). g.cells vs next ++ q) (sym rest-are) ∙ parted.1.2 in
        record {
          inputs-stand = inputs-joined (signed_at s'.p t) s.cells (input_cells_from (after s l) ls) xs g.inputs law.one_input enough
              first-stands m.inputs-stand;
          within = m.within;
          in_cells = m.in_cells;
          below = rw (← all_are) (below-append s'.p (g.cells vs next) (drop (s.cells + g.width) t)
              (law.cells-below vs next within parted.0) m.below);
          long = rw (← all_are, length-append (g.cells vs next) (drop (s.cells + g.width) t), law.cells_count vs next) (omega (arith, m.long));
        }

  pub working-gives : (ls : List Line) (n : ℕ) (s : Known) (vs xs : List ℤ) → Kept n s ls s' → Sound n s → Within s.known vs
      → InCells s'.p t s.places vs → s.inputs + length xs ≡ s'.inputs → AllInRange s'.p xs
      → (ws : List ℤ) → work_from n s vs xs ls ≡ true-table ws (drop s.cells t) → MadeValues s xs ls ws
  unfolding work_from
  working-gives [] n s vs xs k h w c i r ws e = nothing-made n s vs xs k w c i ws e
  working-gives (l ∷ ls) n s vs xs k h w c i r ws e = line_made l ls n s vs xs k h w c i r ws e
      (λ vs' w' c' e'. working-gives ls (suc n) (after s l) vs' (drop (gadget s l).inputs xs) k.1
      (sound-after n s l h (keeps-all n s l k.0)) w' c' (count-after l ls n s vs xs k h w c i r ws e) (drop-in-range s'.p (gadget s l).inputs xs r) ws e')
