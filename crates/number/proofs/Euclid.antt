-- Euclid's algorithm modulo a prime: how it starts, what a step keeps, and what it ends with.
use mathlib.Core.Path.{◌≡◌, refl, ap}
use mathlib.Core.List.{[], ◌∷◌}
use Prim.Native.Nat.{ℕ, zero, suc, ◌+◌, ◌*◌, ◌/◌, ◌%◌, ◌≤◌, ◌<◌}
use native.Mathlib.Omega.{arith}
use native.Mathlib.Decide.{dec_lt}
use native.Mathlib.Nat.{div-add-mod', dvd_refl, dvd-zero, dvd-mod_iff, le_of_dvd, pos_of_dvd_of_pos}
use lib.IntN.{pos, negsuc, ◌-ℤ◌, ◌*ℤ◌}
use Rattle.algebra.specs.Congruence.{Congruent, remainder, inverse}
use Rattle.algebra.specs.Prime.{Prime}
use Rattle.algebra.proofs.Integer.Order.{positive_part-negation, negative_part-negation}
use Rattle.algebra.proofs.Integer.Linear.{linear}
use Rattle.algebra.proofs.Integer.Ring.{var, lit, ◌⊕◌, ◌⊖◌, ◌⊗◌, ring}
use Rattle.algebra.proofs.Congruence.{congruent-≡, combination2, combination3, congruent-remainder}
use Rattle.algebra.proofs.Prime.{inverse-unique}
use Rattle.number.specs.Euclid.{EuclidStep}

-- p is 0 times t, and t is 1 times t; and what divides p and t, which is smaller, is 1
pub euclid-start : (p t : ℕ) → Prime p → zero < t → t < p → EuclidStep p t p t 0 1
euclid-start p t P h k = record {
  prime = P;
  below = k;
  first = record {
    below = omega arith;
    times = record {
      quotient = negsuc 0;
      equation = omega (linear, positive_part-negation (pos (1 * p)), negative_part-negation (pos (1 * p)));
    };
  };
  second = record { below = omega (arith, P.above-one); times = congruent-≡ (ap pos (omega arith)) };
  coprime = λ g a b. elim (dec_lt 1 g) [
    | yes l ↦ let s : g ≤ t = le_of_dvd h b in absurd (P.no-divisor g l (omega arith) a)
    | no l ↦ let z : zero < g = pos_of_dvd_of_pos b h in omega arith
  ];
}

-- r0 = q · r1 + r, and s2 is s0 - q · s1: then r is t · s2
next_multiple : (p t q r1 r s0 s1 s2 : ℕ) → Congruent p (pos t *ℤ pos s0) (pos (q * r1 + r)) → Congruent p (pos t *ℤ pos s1) (pos r1)
    → Congruent p (pos s0 -ℤ pos q *ℤ pos s1) (pos s2) → Congruent p (pos t *ℤ pos s2) (pos r)
next_multiple p t q r1 r s0 s1 s2 a b c = combination3 (negsuc 0 *ℤ pos t) (pos 1) (negsuc 0 *ℤ pos q) c a b
    (ring (pos t ∷ pos q ∷ pos r1 ∷ pos r ∷ pos s0 ∷ pos s1 ∷ pos s2 ∷ []) (var 0 ⊗ var 6 ⊖ var 3)
    (lit (negsuc 0) ⊗ var 0 ⊗ (var 4 ⊖ var 1 ⊗ var 5 ⊖ var 6) ⊕ lit (pos 1) ⊗ (var 0 ⊗ var 4 ⊖ (var 1 ⊗ var 2 ⊕ var 3))
    ⊕ lit (negsuc 0) ⊗ var 1 ⊗ (var 0 ⊗ var 5 ⊖ var 2)) refl)

pub euclid-step : {p t r0 r1 s0 s1 m s2 : ℕ} → EuclidStep p t r0 r1 s0 s1 → m ≡ remainder p (pos (r0 / r1) *ℤ pos s1)
    → s2 < p → s2 ≡ remainder p (pos s0 -ℤ pos m) → EuclidStep p t r1 (r0 % r1) s1 s2
euclid-step {p} {t} {r0} {r1} {s0} {s1} {m} {s2} S em l es = record {
  prime = S.prime;
  below = S.below;
  first = S.second;
  second = record { below = l; times = next_multiple p t (r0 / r1) r1 (r0 % r1) s0 s1 s2 first S.second.times taken };
  coprime = λ g a b. S.coprime g ((dvd-mod_iff g a).0 b) a;
}
  where
    positive : zero < p
    positive = omega arith

    first : Congruent p (pos t *ℤ pos s0) (pos (r0 / r1 * r1 + r0 % r1))
    first = rw (div-add-mod' r0 r1) S.first.times

    product : Congruent p (pos (r0 / r1) *ℤ pos s1) (pos m)
    product = rw em (congruent-remainder p (pos (r0 / r1) *ℤ pos s1) positive)

    difference : Congruent p (pos s0 -ℤ pos m) (pos s2)
    difference = rw es (congruent-remainder p (pos s0 -ℤ pos m) positive)

    taken : Congruent p (pos s0 -ℤ pos (r0 / r1) *ℤ pos s1) (pos s2)
    taken = combination2 (pos 1) (negsuc 0) difference product
        (ring (pos s0 ∷ pos (r0 / r1) ∷ pos s1 ∷ pos m ∷ pos s2 ∷ []) (var 0 ⊖ var 1 ⊗ var 2 ⊖ var 4)
        (lit (pos 1) ⊗ (var 0 ⊖ var 3 ⊖ var 4) ⊕ lit (negsuc 0) ⊗ (var 1 ⊗ var 2 ⊖ var 3)) refl)

-- at the end r0 divides itself and 0, so it is 1, and s0 is the inverse
pub euclid-end : {p t r0 s0 s1 : ℕ} → EuclidStep p t r0 0 s0 s1 → s0 ≡ inverse p t
euclid-end {p} {t} {r0} {s0} S =
    let e : r0 ≡ 1 = S.coprime r0 (dvd_refl r0) (dvd-zero r0) in
    inverse-unique p t s0 S.prime S.below S.first.below (rw e at S.first.times)

-- p - 1 is its own inverse: its square is 1 more than p - 2 times p
pub own-inverse : (p t : ℕ) → Prime p → t + 1 ≡ p → t ≡ inverse p t
own-inverse p zero P e = absurd (omega (arith, P.above-one))
own-inverse p (suc q) P e = inverse-unique p (suc q) (suc q) P (omega arith) (omega arith)
    (record { quotient = pos q; equation = ap pos (omega (arith, ap (λ n. q * n) e)) })
