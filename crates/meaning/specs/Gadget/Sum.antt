-- `sum c0 c1 v1 c2 v2 ..`: a constant and weighted values. Its ends are added up term by term, so that no step leaves the signed range.
use Rattle.std.specs.Prelude.{ℕ, Bool, true, ◌&&◌, List, [], ◌∷◌, ℤ, nat_abs, ◌+ℤ◌, ◌*ℤ◌}
use Rattle.meaning.specs.Number.{in_range, remainder}
use Rattle.meaning.specs.Known.{Known, Ends, ends, ends_of, place_of, larger, smaller}
use Rattle.meaning.specs.Row.{Form, cell, constant, ◌⊕◌, ◌⊗◌, ◌≅◌}
use Rattle.meaning.specs.Gadget.Interface.{Gadget}
use Rattle.meaning.specs.Gadget.Digits.{value_at}

-- a pair: a coefficient, and the value that it multiplies. FORMAT 3.8
pub record Term : Type 0 where
  pub coefficient : ℤ
  pub value : ℕ

-- the pairs, from the numbers after the constant. FORMAT 3.8
unfoldable pub terms_of : List ℤ → List Term
terms_of [] = []
terms_of (c ∷ []) = []
terms_of (c ∷ (v ∷ ns)) = record { coefficient = c; value = nat_abs v } ∷ terms_of ns

-- ---- the known ends of a sum

-- a term's own ends. FORMAT 5.3
unfoldable pub scaled : ℤ → Ends → Ends
scaled c es = ends (smaller (c *ℤ es.E) (c *ℤ es.F)) (larger (c *ℤ es.E) (c *ℤ es.F))

-- two pairs of ends, added end by end. FORMAT 5.4
unfoldable pub added : Ends → Ends → Ends
added a b = ends (a.E +ℤ b.E) (a.F +ℤ b.F)

-- the ends with those of the terms, one by one as written. FORMAT 5.4
unfoldable pub sum_ends : Known → Ends → List Term → Ends
sum_ends s es [] = es
sum_ends s es (t ∷ ts) = sum_ends s (added es (scaled t.coefficient (ends_of s t.value))) ts

-- do both ends lie in the signed range? FORMAT 5.5
unfoldable pub ends_in_range : ℕ → Ends → Bool
ends_in_range p es = in_range p es.E && in_range p es.F

-- do they, before the first term and after each? FORMAT 5.5
unfoldable pub sum_fits : Known → Ends → List Term → Bool
sum_fits s es [] = ends_in_range s.p es
sum_fits s es (t ∷ ts) = ends_in_range s.p es && sum_fits s (added es (scaled t.coefficient (ends_of s t.value))) ts

-- ---- the sum over cells, and over whole numbers

-- the right side of its row: the constant and the terms over cells. FORMAT 7.8
unfoldable pub sum_form : Known → Form → List Term → Form
sum_form s f [] = f
sum_form s f (t ∷ ts) = sum_form s (f ⊕ constant t.coefficient ⊗ cell (place_of s t.value)) ts

-- the constant and the terms over values. FORMAT 3.8
unfoldable pub sum_value : List ℤ → ℤ → List Term → ℤ
sum_value vs x [] = x
sum_value vs x (t ∷ ts) = sum_value vs (x +ℤ t.coefficient *ℤ value_at vs t.value) ts

-- one cell and one row. FORMAT 3.8, 5.4, 7.8
unfoldable pub sum_line : Known → ℤ → List Term → Gadget
sum_line s c0 ts = record {
  unambiguous = true;
  fits = sum_fits s (ends c0 c0) ts;
  overlaps = true;
  narrowed = s.known;
  made = sum_ends s (ends c0 c0) ts ∷ [];
  width = 1;
  inputs = 0;
  rows = cell s.cells ≅ sum_form s (constant c0) ts ∷ [];
  statement = λ vs. true;
  values = λ vs next. sum_value vs c0 ts ∷ [];
  cells = λ vs next. remainder s.p (sum_value vs c0 ts) ∷ [];
}
