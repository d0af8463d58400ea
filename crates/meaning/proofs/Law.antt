-- The law that every kind of line keeps, over the gadget interface. In it p is the prime after the line, vs are the values before it,
-- each between its known ends and standing in its cell of a table t with all cells below p. The law says: the line's rows hold
-- exactly where its statement is true and its cells in t are its true cells; and the values that it makes lie between their ends.
use mathlib.Core.Path.{◌≡◌, refl, ap}
use mathlib.Core.List.{List, [], ◌∷◌, ◌++◌, map}
use mathlib.Core.Logic.{◌↔◌}
use Prim.Native.Nat.{ℕ, zero, suc, ◌+◌, ◌≤◌, ◌<◌}
use native.Mathlib.Omega.{arith}
use lib.Dec.{T}
use lib.ListN.{length, get_or, take}
use lib.IntN.{ℤ, pos}
use lib.Signed.{◌≤ℤ◌}
use Rattle.algebra.specs.Congruence.{Congruent, remainder}
use Rattle.algebra.specs.Digits.{Below}
use Rattle.algebra.proofs.Congruence.{congruent-≡, congruent-sym, congruent-trans, congruent-remainder}
use Rattle.meaning.specs.Number.{lowest, highest, in_range, signed}
use Rattle.meaning.specs.Known.{Ends, ends, Known, ends_of, place_of, Within, Ranged}
use Rattle.meaning.specs.Row.{cell, eval}
use Rattle.meaning.specs.Gadget.Interface.{Gadget}
use Rattle.meaning.specs.Gadget.Digits.{value_at}
use Rattle.meaning.proofs.Cells.{cells_at}
use Rattle.meaning.proofs.Hold.{Hold}

-- ---- ends, values and cells, one beside the other

-- the cell at each place is the remainder of the value
abbrev pub InCells : ℕ → List ℕ → (places : List ℕ) → List ℤ → Type 0
InCells p t [] [] = Unit {0}
InCells p t [] (v ∷ vs) = ⊥
InCells p t (i ∷ is) [] = ⊥
InCells p t (i ∷ is) (v ∷ vs) = (get_or t i 0 ≡ remainder p v) × InCells p t is vs

pub within-append : (es fs : List Ends) (vs ws : List ℤ) → Within es vs → Within fs ws → Within (es ++ fs) (vs ++ ws)
within-append [] fs [] ws h k = k
within-append [] fs (v ∷ vs) ws h k = absurd h
within-append (e ∷ es) fs [] ws h k = absurd h
within-append (e ∷ es) fs (v ∷ vs) ws h k = (h.0, h.1, within-append es fs vs ws h.2 k)

pub cells-append : (p : ℕ) (t is js : List ℕ) (vs ws : List ℤ) → InCells p t is vs → InCells p t js ws → InCells p t (is ++ js) (vs ++ ws)
cells-append p t [] js [] ws h k = k
cells-append p t [] js (v ∷ vs) ws h k = absurd h
cells-append p t (i ∷ is) js [] ws h k = absurd h
cells-append p t (i ∷ is) js (v ∷ vs) ws h k = (h.0, cells-append p t is js vs ws h.1 k)

pub ranged-append : (p : ℕ) (es fs : List Ends) → Ranged p es → Ranged p fs → Ranged p (es ++ fs)
ranged-append p [] fs h k = k
ranged-append p (e ∷ es) fs h k = (h.0, h.1, ranged-append p es fs h.2 k)

pub within-length : (es : List Ends) (vs : List ℤ) → Within es vs → length vs ≡ length es
within-length [] [] h = refl
within-length [] (v ∷ vs) h = absurd h
within-length (e ∷ es) [] h = absurd h
within-length (e ∷ es) (v ∷ vs) h = ap suc (within-length es vs h.2)

-- ---- one value among them

within-at : (es : List Ends) (vs : List ℤ) (v : ℕ) → Within es vs → v < length es
    → ((get_or es v (ends (pos 0) (pos 0))).E ≤ℤ get_or vs v (pos 0)) × (get_or vs v (pos 0) ≤ℤ (get_or es v (ends (pos 0) (pos 0))).F)
within-at [] vs v h k = absurd (omega arith)
within-at (e ∷ es) [] v h k = absurd h
within-at (e ∷ es) (x ∷ vs) zero h k = (h.0, h.1)
within-at (e ∷ es) (x ∷ vs) (suc v) h k = within-at es vs v h.2 (omega arith)

cell_at : (p : ℕ) (t is : List ℕ) (vs : List ℤ) (v : ℕ) → InCells p t is vs → v < length vs → get_or t (get_or is v 0) 0 ≡ remainder p (get_or vs v (pos 0))
cell_at p t [] [] v h k = absurd (omega arith)
cell_at p t [] (x ∷ vs) v h k = absurd h
cell_at p t (i ∷ is) [] v h k = absurd h
cell_at p t (i ∷ is) (x ∷ vs) zero h k = h.0
cell_at p t (i ∷ is) (x ∷ vs) (suc v) h k = cell_at p t is vs v h.1 (omega arith)

ranged-at : (p : ℕ) (es : List Ends) (v : ℕ) → Ranged p es → v < length es
    → (lowest p ≤ℤ (get_or es v (ends (pos 0) (pos 0))).E) × ((get_or es v (ends (pos 0) (pos 0))).F ≤ℤ highest p)
ranged-at p [] v h k = absurd (omega arith)
ranged-at p (e ∷ es) zero h k = (h.0, h.1)
ranged-at p (e ∷ es) (suc v) h k = ranged-at p es v h.2 (omega arith)

pub below_at : (p : ℕ) (t : List ℕ) (i : ℕ) → Below p t → i < length t → get_or t i 0 < p
below_at p [] i h k = absurd (omega arith)
below_at p (x ∷ t) zero h k = h.0
below_at p (x ∷ t) (suc i) h k = below_at p t i h.1 (omega arith)

-- beyond the end of a table a cell counts as 0
pub below-any : (p : ℕ) (t : List ℕ) (i : ℕ) → zero < p → Below p t → get_or t i 0 < p
below-any p [] i h b = h
below-any p (x ∷ t) zero h b = b.0
below-any p (x ∷ t) (suc i) h b = below-any p t i h b.1

pub below-append : (p : ℕ) (xs ys : List ℕ) → Below p xs → Below p ys → Below p (xs ++ ys)
below-append p [] ys h k = k
below-append p (x ∷ xs) ys h k = (h.0, below-append p xs ys h.1 k)

module _ (s : Known) (vs : List ℤ) (v : ℕ) (named : v < length s.known) where
  pub low_end : Within s.known vs → (ends_of s v).E ≤ℤ value_at vs v
  unfolding ends_of value_at
  low_end h = (within-at s.known vs v h named).0

  pub high_end : Within s.known vs → value_at vs v ≤ℤ (ends_of s v).F
  unfolding ends_of value_at
  high_end h = (within-at s.known vs v h named).1

  -- the cell of a value is congruent to it
  pub value-congruent : (p : ℕ) (t : List ℕ) → zero < p → Within s.known vs → InCells p t s.places vs
      → Congruent p (eval t (cell (place_of s v))) (value_at vs v)
  unfolding place_of value_at eval
  value-congruent p t h w c =
      let q = cell_at p t s.places vs v c (omega (arith, within-length s.known vs w)) in
      congruent-trans (congruent-≡ (ap pos q)) (congruent-sym (congruent-remainder p (get_or vs v (pos 0)) h))

module _ (p : ℕ) (s : Known) (v : ℕ) (named : v < length s.known) (r : Ranged p s.known) where
  pub low-ranged : lowest p ≤ℤ (ends_of s v).E
  unfolding ends_of
  low-ranged = (ranged-at p s.known v r named).0

  pub high-ranged : (ends_of s v).F ≤ℤ highest p
  unfolding ends_of
  high-ranged = (ranged-at p s.known v r named).1

-- ---- the law

-- a table with room for the line's cells, all cells below p, in which the values before the line stand
pub record TableBefore (p : ℕ) (s : Known) (g : Gadget) (t : List ℕ) (vs : List ℤ) : Type 0 where
  pub room : s.cells + g.width ≤ length t
  pub below : Below p t
  pub within : Within s.known vs
  pub in_cells : InCells p t s.places vs

pub record Law (p : ℕ) (s : Known) (g : Gadget) : Type 0 where
  -- its ends: those of the values before it, and of those that it makes
  pub ranged : Ranged p (g.narrowed ++ g.made)
  pub within : (vs : List ℤ) (next : ℤ) → Within s.known vs → T (g.statement vs) → (1 ≤ g.inputs → T (in_range p next))
      → Within (g.narrowed ++ g.made) (vs ++ g.values vs next)
  -- its true cells: as many as it has, remainders below p, those of its values first, an input first of all
  pub one_input : g.inputs ≤ 1
  pub values-count : (vs : List ℤ) (next : ℤ) → length (g.values vs next) ≡ length g.made
  pub cells_count : (vs : List ℤ) (next : ℤ) → length (g.cells vs next) ≡ g.width
  pub cells-below : (vs : List ℤ) (next : ℤ) → Within s.known vs → T (g.statement vs) → Below p (g.cells vs next)
  pub values-first : (vs : List ℤ) (next : ℤ) → take (length g.made) (g.cells vs next) ≡ map (remainder p) (g.values vs next)
  pub input-first : (vs : List ℤ) (next : ℤ) → 1 ≤ g.inputs → take 1 (g.cells vs next) ≡ remainder p next ∷ []
  -- its rows
  pub rows-hold : (t : List ℕ) (vs : List ℤ) (next : ℤ) → TableBefore p s g t vs → (1 ≤ g.inputs → next ≡ signed p (get_or t s.cells 0))
      → Hold p t g.rows ↔ (T (g.statement vs) × (cells_at t s.cells g.width ≡ g.cells vs next))
