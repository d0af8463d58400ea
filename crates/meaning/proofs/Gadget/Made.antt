-- A line that takes no input, narrows no ends and makes one value, whose cell comes first: its law from what is its own.
use mathlib.Core.Path.{◌≡◌, refl, sym, ap, ◌∙◌}
use mathlib.Core.Bool.{Bool}
use mathlib.Core.List.{List, [], ◌∷◌}
use mathlib.Core.Logic.{◌↔◌}
use Prim.Native.Nat.{ℕ, zero, suc, ◌+◌, ◌≤◌, ◌<◌}
use native.Mathlib.Omega.{arith}
use lib.Dec.{T}
use lib.ListN.{length, get_or}
use lib.IntN.{ℤ}
use lib.Signed.{◌≤ℤ◌}
use Rattle.algebra.specs.Congruence.{remainder}
use Rattle.algebra.specs.Digits.{Below}
use Rattle.algebra.proofs.Congruence.{remainder-below}
use Rattle.meaning.specs.Number.{lowest, highest}
use Rattle.meaning.specs.Known.{Ends, Known, Within, Ranged}
use Rattle.meaning.specs.Row.{Row}
use Rattle.meaning.specs.Gadget.Interface.{Gadget}
use Rattle.meaning.proofs.Cells.{cells_at, cons-iff}
use Rattle.meaning.proofs.Hold.{Hold}
use Rattle.meaning.proofs.Law.{within-append, ranged-append, TableBefore, Law}

module _ (s : Known) (unambiguous fits overlaps : Bool) (es : Ends) (width more : ℕ) (rows : List Row)
    (statement : List ℤ → Bool) (value : List ℤ → ℤ) (others : List ℤ → List ℕ) where
  -- the line: its value, and its cells after the value's
  abbrev pub maker : ℕ → Gadget
  maker p = record {
    unambiguous = unambiguous;
    fits = fits;
    overlaps = overlaps;
    narrowed = s.known;
    made = es ∷ [];
    width = width;
    inputs = 0;
    rows = rows;
    statement = statement;
    values = λ vs next. value vs ∷ [];
    cells = λ vs next. remainder p (value vs) ∷ others vs;
  }

  -- what is the line's own
  pub record Makes (p : ℕ) : Type 0 where
    pub positive : zero < p
    pub width_is : width ≡ suc more
    pub low-range : lowest p ≤ℤ es.E
    pub high-range : es.F ≤ℤ highest p
    pub low : (vs : List ℤ) → Within s.known vs → T (statement vs) → es.E ≤ℤ value vs
    pub high : (vs : List ℤ) → Within s.known vs → T (statement vs) → value vs ≤ℤ es.F
    pub others-count : (vs : List ℤ) → length (others vs) ≡ more
    pub others_below : (vs : List ℤ) → Within s.known vs → T (statement vs) → Below p (others vs)
    pub hold : (t : List ℕ) (vs : List ℤ) → suc s.cells + more ≤ length t → TableBefore p s (maker p) t vs
        → Hold p t rows ↔ (T (statement vs) × (get_or t s.cells 0 ≡ remainder p (value vs)) × (cells_at t (suc s.cells) more ≡ others vs))

  pub made-law : (p : ℕ) → Ranged p s.known → Makes p → Law p s (maker p)
  made-law p r m = record {
    ranged = ranged-append p s.known (es ∷ []) r (m.low-range, m.high-range, tt);
    within = λ vs next w t i. within-append s.known (es ∷ []) vs (value vs ∷ []) w (m.low vs w t, m.high vs w t, tt);
    one_input = omega arith;
    values-count = λ vs next. refl;
    cells_count = λ vs next. ap suc (m.others-count vs) ∙ sym m.width_is;
    cells-below = λ vs next w t. (remainder-below p (value vs) m.positive, m.others_below vs w t);
    values-first = λ vs next. refl;
    input-first = λ vs next i. absurd (omega arith);
    rows-hold = λ t vs next b i. holding t vs b;
  }
    where
      holding : (t : List ℕ) (vs : List ℤ) → TableBefore p s (maker p) t vs
          → Hold p t rows ↔ (T (statement vs) × (cells_at t s.cells width ≡ remainder p (value vs) ∷ others vs))
      holding t vs b =
          let room : suc s.cells + more ≤ length t = omega (arith, b.room, m.width_is) in
          let own = m.hold t vs room b in
          let cells = cons-iff t s.cells more (remainder p (value vs)) (others vs) (omega arith) in
          rw m.width_is (
            λ h. let k = own.0 h in (k.0, cells.1 (k.1, k.2)),
            λ h. let k = cells.0 h.1 in own.1 (h.0, k.0, k.1),
          )
