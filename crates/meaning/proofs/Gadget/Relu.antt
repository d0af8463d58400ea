-- The law of a relu line: the group tells v and its sign, and the last row f·v ≡ y makes y the greater of 0 and v.
use mathlib.Core.Path.{refl, sym, ◌∙◌}
use mathlib.Core.List.{[], ◌∷◌}
use mathlib.Core.Logic.{⊎_elim}
use Prim.Native.Nat.{ℕ, zero, suc, ◌≤◌, ◌<◌}
use native.Mathlib.Omega.{arith}
use lib.Dec.{T}
use lib.ListN.{length, get_or}
use lib.IntN.{ℤ, pos, ◌*ℤ◌}
use lib.Signed.{≤ℤ_refl}
use Rattle.algebra.specs.Congruence.{Congruent}
use Rattle.algebra.proofs.Integer.Linear.{linear}
use Rattle.algebra.proofs.Integer.Ring.{var, lit, ◌⊗◌ as ◌⊠◌, ring}
use Rattle.algebra.proofs.Congruence.{congruent-≡, congruent-sym, congruent-trans, residue-iff}
use Rattle.meaning.specs.Number.{highest, OddPrime}
use Rattle.meaning.specs.Known.{Known, Ends, ends, ends_of, place_of, larger, Ranged}
use Rattle.meaning.specs.Row.{Form, cell, ◌⊗◌, eval, Row, ◌≅◌}
use Rattle.meaning.specs.Gadget.Digits.{value_at}
use Rattle.meaning.specs.Gadget.Relu.{relu_line}
use Rattle.meaning.proofs.Number.{positive, lowest-zero, one-highest}
use Rattle.meaning.proofs.Order.{larger-left, larger-least, larger-keeps, larger-is-left, larger-is-right}
use Rattle.meaning.proofs.Hold.{row-holds}
use Rattle.meaning.proofs.Law.{low_end, high_end, high-ranged, value-congruent, Law}
use Rattle.meaning.proofs.Gadget.Sign.{Flag, sign-law}

-- f·v is the greater of 0 and v, whatever congruent number stands for v
product-larger : (p : ℕ) (v x : ℤ) (f : ℕ) → Congruent p v x → Flag x f → Congruent p (pos f *ℤ v) (larger (pos 0) x)
product-larger p v x f c = ⊎_elim
    (λ h. congruent-trans (congruent-≡ (rw h.0 (ring (v ∷ []) (lit (pos 1) ⊠ var 0) (var 0) refl)))
    (congruent-trans c (congruent-≡ (sym (larger-is-right (pos 0) x h.1)))))
    (λ h. congruent-≡ (rw h.0 (ring (v ∷ []) (lit (pos 0) ⊠ var 0) (lit (pos 0)) refl) ∙ sym (larger-is-left (pos 0) x (omega (linear, h.1)))))

module _ (s : Known) (P : OddPrime s.p) (r : Ranged s.p s.known) (v b : ℕ) (named : v < length s.known) (base : 2 ≤ b) where
  law-suc : (j : ℕ) → T (relu_line s v b (suc j)).unambiguous → Law s.p s (relu_line s v b (suc j))
  unfolding relu_line eval
  law-suc j u =
      let p : ℕ = s.p in
      let old : Ends = ends_of s v in
      let last : Form → Row = λ f. f ⊗ cell (place_of s v) ≅ cell s.cells in
      sign-law s P r b j base (cell (place_of s v)) (λ vs. value_at vs v) old (ends (larger (pos 0) old.E) (larger (pos 0) old.F)) last
      (λ vs. larger (pos 0) (value_at vs v)) (record {
        congruent = λ t vs w c. value-congruent s vs v named p t (positive P) w c;
        low = λ vs w. low_end s vs v named w;
        high = λ vs w. high_end s vs v named w;
        allowed = u;
        made-low-range = let a = lowest-zero P in let c = larger-left (pos 0) old.E in omega linear;
        made-high-range = let a = one-highest P in larger-least (pos 0) old.F (highest p) (omega linear) (high-ranged p s v named r);
        made-low = λ vs w. larger-keeps (≤ℤ_refl (pos 0)) (low_end s vs v named w);
        made-high = λ vs w. larger-keeps (≤ℤ_refl (pos 0)) (high_end s vs v named w);
        last_row = λ t vs f w c below flag.
            let x : ℤ = value_at vs v in
            let row = row-holds p t (cell f ⊗ cell (place_of s v)) (cell s.cells) (positive P) in
            let product = product-larger p (eval t (cell (place_of s v))) x (get_or t f 0) (value-congruent s vs v named p t (positive P) w c) flag in
            let is = residue-iff p (get_or t s.cells 0) (larger (pos 0) x) below in (
              λ h. is.0 (congruent-trans (congruent-sym (row.0 h)) product),
              λ e. row.1 (congruent-trans product (congruent-sym (is.1 e))),
            );
      })

  pub relu-law : (k : ℕ) → 1 ≤ k → T (relu_line s v b k).unambiguous → Law s.p s (relu_line s v b k)
  relu-law zero h u = absurd (omega arith)
  relu-law (suc j) h u = law-suc j u
