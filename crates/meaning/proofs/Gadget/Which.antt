-- The law of a which line: the group tells u-v and its sign, and the last row y ≡ 1-f makes y 0 where u ≥ v, else 1.
use mathlib.Core.Path.{◌≡◌, refl, sym, ◌∙◌}
use mathlib.Core.List.{List}
use mathlib.Core.Logic.{⊎_elim}
use Prim.Native.Nat.{ℕ, zero, suc, ◌≤◌, ◌<◌}
use native.Mathlib.Omega.{arith}
use lib.Dec.{T}
use lib.ListN.{length, get_or}
use lib.IntN.{ℤ, pos, ◌-ℤ◌}
use lib.Signed.{◌≤ℤ◌, ◌<ℤ◌, le_z}
use Rattle.algebra.proofs.Test.{cond_cases, le_z-iff, le_z-false}
use Rattle.algebra.proofs.Integer.Linear.{linear}
use Rattle.algebra.proofs.Congruence.{congruent-≡, congruent-trans, congruent--, residue-iff}
use Rattle.meaning.specs.Known.{Known, ends, ends_of, place_of, apart, Ranged}
use Rattle.meaning.specs.Row.{Form, cell, constant, ◌⊖◌, eval, Row, ◌≅◌}
use Rattle.meaning.specs.Gadget.Digits.{value_at}
use Rattle.meaning.specs.Gadget.Which.{which_value, which_line}
use Rattle.meaning.specs.Number.{OddPrime}
use Rattle.meaning.proofs.Number.{positive, lowest-zero, one-highest}
use Rattle.meaning.proofs.Hold.{row-holds}
use Rattle.meaning.proofs.Law.{low_end, high_end, value-congruent, Law}
use Rattle.meaning.proofs.Gadget.Sign.{Flag, Signs, sign-law}

-- 1-f is the value
flag-value : (u v : ℤ) (f : ℕ) → Flag (u -ℤ v) f → pos 1 -ℤ pos f ≡ which_value u v
unfolding which_value
flag-value u v f flag = cond_cases (λ z. pos 1 -ℤ pos f ≡ z) _ _ _ (λ t. not-less ((le_z-iff _ _).0 t)) (λ t. less (le_z-false _ _ t))
  where
    not-less : v ≤ℤ u → pos 1 -ℤ pos f ≡ pos 0
    not-less l = ⊎_elim (λ h. rw h.0 refl) (λ h. absurd (omega (linear, h.1))) flag

    less : u <ℤ v → pos 1 -ℤ pos f ≡ pos 1
    less l = ⊎_elim (λ h. absurd (omega (linear, h.1))) (λ h. rw h.0 refl) flag

value_low : (u v : ℤ) → pos 0 ≤ℤ which_value u v
unfolding which_value
value_low u v = cond_cases (λ z. pos 0 ≤ℤ z) (le_z v u) (pos 0) (pos 1) (λ _. omega linear) (λ _. omega linear)

value-high : (u v : ℤ) → which_value u v ≤ℤ pos 1
unfolding which_value
value-high u v = cond_cases (λ z. z ≤ℤ pos 1) (le_z v u) (pos 0) (pos 1) (λ _. omega linear) (λ _. omega linear)

module _ (s : Known) (P : OddPrime s.p) (r : Ranged s.p s.known) (u v b : ℕ)
    (u-named : u < length s.known) (v-named : v < length s.known) (base : 2 ≤ b) where
  abbrev x : List ℤ → ℤ
  x vs = value_at vs u -ℤ value_at vs v

  abbrev last-row-of : Form → Row
  last-row-of f = cell s.cells ≅ constant (pos 1) ⊖ f

  -- what is the line's own, for a line whose value is that of u and v
  signs : (k : ℕ) (value : List ℤ → ℤ) → ((vs : List ℤ) → value vs ≡ which_value (value_at vs u) (value_at vs v))
      → T (which_line s u v b k).unambiguous
      → Signs s b k (cell (place_of s u) ⊖ cell (place_of s v)) x (apart (ends_of s u) (ends_of s v)) (ends (pos 0) (pos 1)) last-row-of value
  unfolding which_line eval apart
  signs k value is allowed =
      let p : ℕ = s.p in
      record {
        congruent = λ t vs w c.
            congruent-- (value-congruent s vs u u-named p t (positive P) w c) (value-congruent s vs v v-named p t (positive P) w c);
        low = λ vs w. let a = low_end s vs u u-named w in let c = high_end s vs v v-named w in omega linear;
        high = λ vs w. let a = high_end s vs u u-named w in let c = low_end s vs v v-named w in omega linear;
        allowed = allowed;
        made-low-range = lowest-zero P;
        made-high-range = one-highest P;
        made-low = λ vs w. rw (is vs) (value_low (value_at vs u) (value_at vs v));
        made-high = λ vs w. rw (is vs) (value-high (value_at vs u) (value_at vs v));
        last_row = λ t vs f w c below flag.
            let row = row-holds p t (cell s.cells) (constant (pos 1) ⊖ cell f) (positive P) in
            let cell-is = residue-iff p (get_or t s.cells 0) (value vs) below in
            let value-is : pos 1 -ℤ pos (get_or t f 0) ≡ value vs = flag-value (value_at vs u) (value_at vs v) (get_or t f 0) flag ∙ sym (is vs) in (
              λ h. cell-is.0 (congruent-trans (row.0 h) (congruent-≡ value-is)),
              λ e. row.1 (congruent-trans (cell-is.1 e) (congruent-≡ (sym value-is))),
            );
      }

  law-suc : (j : ℕ) → T (which_line s u v b (suc j)).unambiguous → Law s.p s (which_line s u v b (suc j))
  unfolding which_line
  law-suc j allowed = sign-law s P r b j base (cell (place_of s u) ⊖ cell (place_of s v)) x (apart (ends_of s u) (ends_of s v)) (ends (pos 0) (pos 1))
      last-row-of _ (signs (suc j) _ (λ vs. refl) allowed)

  pub which-law : (k : ℕ) → 1 ≤ k → T (which_line s u v b k).unambiguous → Law s.p s (which_line s u v b k)
  which-law zero h u = absurd (omega arith)
  which-law (suc j) h u = law-suc j u
