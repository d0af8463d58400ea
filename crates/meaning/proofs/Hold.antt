-- Rows that hold, as propositions: all rows of a list, a row of two sides as a congruence, a row of a digit as an order.
use mathlib.Core.List.{List, [], ◌∷◌, ◌++◌}
use mathlib.Core.Logic.{◌↔◌}
use Prim.Native.Nat.{ℕ, zero, suc, ◌<◌}
use native.Mathlib.Omega.{arith}
use lib.Dec.{T}
use lib.ListN.{length, get_or}
use Rattle.algebra.specs.Congruence.{Congruent, remainder}
use Rattle.algebra.proofs.Test.{eqb-iff, ltb_iff}
use Rattle.algebra.proofs.Congruence.{remainder-iff}
use Rattle.meaning.specs.Row.{Form, eval, Row, among, ◌≅◌, holds}

-- every row of the list holds
abbrev pub Hold : ℕ → List ℕ → List Row → Type 0
Hold p t [] = Unit {0}
Hold p t (r ∷ rs) = T (holds p t r) × Hold p t rs

module _ (p : ℕ) (t : List ℕ) where
  pub hold-append : (rs qs : List Row) → Hold p t (rs ++ qs) ↔ (Hold p t rs × Hold p t qs)
  hold-append [] qs = (λ h. (tt, h), λ h. h.1)
  hold-append (r ∷ rs) qs =
      (λ h. let k = (hold-append rs qs).0 h.1 in ((h.0, k.0), k.1), λ h. (h.0.0, (hold-append rs qs).1 (h.0.1, h.1)))

  pub row-holds : (f g : Form) → zero < p → T (holds p t (f ≅ g)) ↔ Congruent p (eval t f) (eval t g)
  unfolding holds
  row-holds f g h = (
    λ k. (remainder-iff p (eval t f) (eval t g) h).1 ((eqb-iff (remainder p (eval t f)) (remainder p (eval t g))).0 k),
    λ c. (eqb-iff (remainder p (eval t f)) (remainder p (eval t g))).1 ((remainder-iff p (eval t f) (eval t g) h).0 c),
  )

  pub digit-holds : (i b : ℕ) → T (holds p t (among i b)) ↔ (get_or t i 0 < b)
  unfolding holds
  digit-holds i b = ltb_iff (get_or t i 0) b

  -- all rows hold, told by their numbers
  pub hold-each : (rs : List Row) → Hold p t rs ↔ ((i : ℕ) → i < length rs → T (holds p t (get_or rs i (among 0 0))))
  hold-each [] = (λ h i k. absurd (omega arith), λ h. tt)
  hold-each (r ∷ rs) =
      (λ h. each h.0 ((hold-each rs).0 h.1), λ h. (h zero (omega arith), (hold-each rs).1 (λ i k. h (suc i) (omega arith))))
    where
      each : T (holds p t r) → ((i : ℕ) → i < length rs → T (holds p t (get_or rs i (among 0 0))))
          → (i : ℕ) → i < suc (length rs) → T (holds p t (get_or (r ∷ rs) i (among 0 0)))
      each h later zero k = h
      each h later (suc i) k = later i (omega arith)
