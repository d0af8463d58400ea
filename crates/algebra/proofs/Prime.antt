-- Modulo a prime p: a product is 0 only where a factor is (Euclid's lemma), so factors cancel, and every t from 1 to p − 1 has exactly
-- one inverse below p, which `inverse` finds. Last, that trying all divisors, or those up to the square root, proves a prime.
use mathlib.Core.Path.{◌≡◌, refl, sym, ap, ◌∙◌}
use mathlib.Core.Bool.{Bool, true, false}
use mathlib.Core.List.{[], ◌∷◌}
use mathlib.Core.Logic.{◌⊎◌, inl, inr, ⊎_elim, ⊎_map, ◌≢◌, ◌↔◌}
use Prim.Native.Nat.{ℕ, zero, suc, ◌+◌, ◌-◌, ◌*◌, ◌/◌, ◌%◌, ◌≤◌, ◌<◌, ◌∣◌}
use native.Mathlib.Omega.{arith}
use native.Mathlib.Decide.{ℕ_discrete, dec_le}
use native.Mathlib.Nat.{one-mul, zero-mul, mul-le-mul_left, mul-le-mul_right, div-add-mod', mod-lt, zero-mod, div-mul_cancel}
use native.Mathlib.Nat.{dvd-mul_left, dvd-mul_right, dvd-mul_left_of_dvd, dvd-add_iff_right, dvd_of_mod-eq-zero, mod-eq-zero_of_dvd}
use lib.IntN.{ℤ, pos, negsuc, neg_ℤ, nat_abs, +ℤ_idl, ◌+ℤ◌, ◌-ℤ◌, ◌*ℤ◌}
use lib.Dec.{eqb}
use Rattle.algebra.specs.Congruence.{Congruent, remainder, inverse_below, inverse}
use Rattle.algebra.specs.Prime.{Prime}
use Rattle.algebra.proofs.Test.{test-≡, eqb-iff, false-eqb}
use Rattle.algebra.proofs.Integer.Difference.{as-difference, push, difference-≡}
use Rattle.algebra.proofs.Integer.Ring.{var, lit, ◌⊕◌, ◌⊖◌, ◌⊗◌, ring}
use Rattle.algebra.proofs.Congruence.{congruent-≡, congruent-refl, congruent-sym, congruent-trans, congruent-*}
use Rattle.algebra.proofs.Congruence.{congruent-of-difference, combination1, combination2, residue-unique}
use Rattle.algebra.proofs.Congruence.{congruent-remainder, remainder-below, remainder-unique}

-- ---- Euclid's lemma

-- p ∣ a · b and 1 < a < p: the remainder of p by a is smaller than a, is not 0, and does as well as a
step : (a b p : ℕ) → Prime p → 1 < a → a < p → p ∣ a * b → (zero < p % a) × (p % a < a) × (p ∣ p % a * b)
step a b p P h k d =
    let l : p % a < a = mod-lt p {m = a} (omega arith) in
    let n : p % a ≢ zero = (λ e. P.no-divisor a (omega arith) (omega arith) (dvd_of_mod-eq-zero a e)) in
    let e : p / a * (a * b) + p % a * b ≡ p * b = omega (arith, ap (λ (n : ℕ). n * b) (div-add-mod' p a)) in
    (omega arith, l, (dvd-add_iff_right p (dvd-mul_left_of_dvd p d (p / a))).1 (rw e (dvd-mul_right p b)))

descend : (f a b p : ℕ) → Prime p → a ≤ f → zero < a → a < p → p ∣ a * b → p ∣ b
descend zero a b p P l h k d = absurd (omega arith)
descend (suc f) a b p P l h k d = elim (ℕ_discrete a 1) [
  | yes e ↦ rw one-mul at (rw e at d)
  | no n ↦ let s = step a b p P (omega arith) k d in descend f (p % a) b p P (omega arith) s.0 (omega arith) s.2
]

pub euclid : (a b p : ℕ) → Prime p → p ∣ a * b → (p ∣ a) ⊎ (p ∣ b)
euclid a b p P d = elim (ℕ_discrete (a % p) zero) [
  | yes e ↦ inl (dvd_of_mod-eq-zero p e)
  | no n ↦ let l : a % p < p = mod-lt a {m = p} (omega arith) in
      let e : p * (a / p * b) + a % p * b ≡ a * b = omega (arith, ap (λ (n : ℕ). n * b) (div-add-mod' a p)) in
      inr (descend (a % p) (a % p) b p P (omega arith) (omega arith) l
      ((dvd-add_iff_right p (dvd-mul_right p (a / p * b))).1 (rw e d)))
]

-- over ℤ, by the absolute values: a ≡ 0 says that p divides that of a
pub nat_abs-negation : (a : ℤ) → nat_abs (neg_ℤ a) ≡ nat_abs a
nat_abs-negation (pos zero) = refl
nat_abs-negation (pos (suc n)) = refl
nat_abs-negation (negsuc n) = refl

pub nat_abs-* : (a b : ℤ) → nat_abs (a *ℤ b) ≡ nat_abs a * nat_abs b
nat_abs-* (pos a) (pos b) = refl
nat_abs-* (pos a) (negsuc b) = nat_abs-negation (pos (a * suc b))
nat_abs-* (negsuc a) (pos b) = nat_abs-negation (pos (suc a * b))
nat_abs-* (negsuc a) (negsuc b) = refl

pub congruent-divides : {p : ℕ} {a : ℤ} → Congruent p a (pos 0) → p ∣ nat_abs a
congruent-divides {p} {a} c =
    rw (c.equation, +ℤ_idl (c.quotient *ℤ pos p), nat_abs-* c.quotient (pos p)) (dvd-mul_left p (nat_abs c.quotient))

negation-* : (q p : ℤ) → neg_ℤ (q *ℤ p) ≡ pos 0 +ℤ neg_ℤ q *ℤ p
negation-* q p = rw (as-difference q, as-difference p) (simp push (omega (arith, difference-≡)))

pub divides-congruent : {p : ℕ} (a : ℤ) → p ∣ nat_abs a → Congruent p a (pos 0)
divides-congruent {p} (pos n) d = record { quotient = pos (n / p); equation = ap pos (omega (arith, div-mul_cancel p d)) }
divides-congruent {p} (negsuc n) d = record {
  quotient = neg_ℤ (pos (suc n / p));
  equation = ap (λ (k : ℕ). neg_ℤ (pos k)) (sym (div-mul_cancel p d)) ∙ negation-* (pos (suc n / p)) (pos p);
}

pub euclid-integers : {p : ℕ} (a b : ℤ) → Prime p → Congruent p (a *ℤ b) (pos 0) → Congruent p a (pos 0) ⊎ Congruent p b (pos 0)
euclid-integers {p} a b P c =
    ⊎_map (divides-congruent a) (divides-congruent b) (euclid (nat_abs a) (nat_abs b) p P (rw nat_abs-* at (congruent-divides c)))

pub cancel : {p : ℕ} (k a b : ℤ) → Prime p → ¬ Congruent p k (pos 0) → Congruent p (k *ℤ a) (k *ℤ b) → Congruent p a b
cancel k a b P n h = ⊎_elim (λ z. absurd (n z)) (congruent-of-difference a b)
    (euclid-integers k (a -ℤ b) P (combination1 (pos 1) h (ring (k ∷ a ∷ b ∷ [])
    (var 0 ⊗ (var 1 ⊖ var 2) ⊖ lit (pos 0)) (lit (pos 1) ⊗ (var 0 ⊗ var 1 ⊖ var 0 ⊗ var 2)) refl)))

pub congruent-zero-iff : {p : ℕ} (n : ℕ) → n < p → Congruent p (pos n) (pos 0) ↔ (n ≡ zero)
congruent-zero-iff n h = (λ c. residue-unique c h (omega arith), λ e. congruent-≡ (ap pos e))

pub one_not_zero : {p : ℕ} → Prime p → ¬ Congruent p (pos 1) (pos 0)
one_not_zero P c = let e : ◌≡◌ {A = ℕ} 1 0 = residue-unique c (omega arith) (omega arith) in omega arith

-- ---- inverses

-- p = q · a + r, and an inverse s of r, give the inverse − q · s of a
inverse-step : (q a r : ℕ) (p : ℕ) (s : ℤ) → q * a + r ≡ p → Congruent p (pos r *ℤ s) (pos 1)
    → Congruent p (pos a *ℤ (negsuc 0 *ℤ pos q *ℤ s)) (pos 1)
inverse-step q a r p s e c =
    let z : Congruent p (pos (q * a + r)) (pos 0) = record { quotient = pos 1; equation = ap pos (omega arith) } in
    combination2 (pos 1) (negsuc 0 *ℤ s) c z (ring (pos q ∷ pos a ∷ pos r ∷ s ∷ [])
    (var 1 ⊗ (lit (negsuc 0) ⊗ var 0 ⊗ var 3) ⊖ lit (pos 1))
    (lit (pos 1) ⊗ (var 2 ⊗ var 3 ⊖ lit (pos 1)) ⊕ lit (negsuc 0) ⊗ var 3 ⊗ (var 0 ⊗ var 1 ⊕ var 2 ⊖ lit (pos 0))) refl)

inverse-by-descent : (f a p : ℕ) → Prime p → a ≤ f → zero < a → a < p → (u : ℤ) × Congruent p (pos a *ℤ u) (pos 1)
inverse-by-descent zero a p P l h k = absurd (omega arith)
inverse-by-descent (suc f) a p P l h k = elim (ℕ_discrete a 1) [
  | yes e ↦ (pos 1, congruent-≡ (ap pos (omega arith)))
  | no n ↦ let m : p % a < a = mod-lt p h in
      let z : p % a ≢ zero = (λ e. P.no-divisor a (omega arith) (omega arith) (dvd_of_mod-eq-zero a e)) in
      let s = inverse-by-descent f (p % a) p P (omega arith) (omega arith) (omega arith) in
      (negsuc 0 *ℤ pos (p / a) *ℤ s.0, inverse-step (p / a) a (p % a) p s.0 (div-add-mod' p a) s.1)
]

pub inverse-exists : (p t : ℕ) → Prime p → zero < t → t < p → (w : ℕ) × (w < p) × Congruent p (pos t *ℤ pos w) (pos 1)
inverse-exists p t P h k =
    let u = inverse-by-descent t t p P (omega arith) h k in
    let q : zero < p = omega arith in (
      remainder p u.0,
      remainder-below p u.0 q,
      congruent-trans (congruent-* (congruent-refl (pos t)) (congruent-sym (congruent-remainder p u.0 q))) u.1,
    )

-- a number is 1 modulo p where its remainder is, which is what the search tests
one-remainder : (p n : ℕ) → 1 < p → Congruent p (pos n) (pos 1) → n % p ≡ 1
unfolding remainder
one-remainder p n h c = remainder-unique p (pos n) 1 h c

remainder-one : (p n : ℕ) → 1 < p → n % p ≡ 1 → Congruent p (pos n) (pos 1)
unfolding remainder
remainder-one p n h e = congruent-trans (congruent-remainder p (pos n) (omega arith)) (congruent-≡ (ap pos e))

-- one step of the search: it ends at m exactly where t · m leaves 1
search-step : (m p t : ℕ) → (t * m % p ≡ 1 → inverse_below (suc m) p t ≡ m) × (t * m % p ≢ 1 → inverse_below (suc m) p t ≡ inverse_below m p t)
unfolding inverse_below
search-step m p t =
    let choose : Bool → ℕ = λ b. elim b [ true ↦ m | false ↦ inverse_below m p t ] in
    (λ e. ap choose (test-≡ (eqb (t * m % p) 1) ((eqb-iff (t * m % p) 1).1 e)), λ n. ap choose (false-eqb (t * m % p) 1 n))

-- the search ends below its start, at an inverse if there is one, and at 0 if there is none
search-below : (m p t : ℕ) → inverse_below m p t ≤ m - 1
unfolding inverse_below
search-below zero p t = omega arith
search-below (suc m) p t = elim (ℕ_discrete (t * m % p) 1)
    [ yes e ↦ omega (arith, (search-step m p t).0 e) | no n ↦ omega (arith, (search-step m p t).1 n, search-below m p t) ]

search-finds : (m p t w : ℕ) → w < m → t * w % p ≡ 1 → t * inverse_below m p t % p ≡ 1
search-finds zero p t w h e = absurd (omega arith)
search-finds (suc m) p t w h e = elim (ℕ_discrete (t * m % p) 1) [
  | yes q ↦ rw ((search-step m p t).0 q) q
  | no n ↦ let o : w ≢ m = (λ q. n (rw q at e)) in rw ((search-step m p t).1 n) (search-finds m p t w (omega arith) e)
]

search-fails : (m p t : ℕ) → ((w : ℕ) → t * w % p ≢ 1) → inverse_below m p t ≡ zero
unfolding inverse_below
search-fails zero p t h = refl
search-fails (suc m) p t h = (search-step m p t).1 (h m) ∙ search-fails m p t h

found : (p t w : ℕ) → 1 < p → w < p → Congruent p (pos t *ℤ pos w) (pos 1) → Congruent p (pos t *ℤ pos (inverse p t)) (pos 1)
unfolding inverse
found p t w h k c = remainder-one p (t * inverse p t) h (search-finds _ p t w (omega arith) (one-remainder p (t * w) h c))

pub inverse-below : (p t : ℕ) → zero < p → inverse p t < p
unfolding inverse
inverse-below p t h = let l : inverse p t ≤ p - 1 = search-below p p t in omega arith

pub inverse-is : (p t : ℕ) → Prime p → zero < t → t < p → Congruent p (pos t *ℤ pos (inverse p t)) (pos 1)
inverse-is p t P h k = let w = inverse-exists p t P h k in found p t w.0 (omega arith) w.1 w.2

-- w = w · (t · v) = (w · t) · v = v for the inverse v that is found
pub inverse-unique : (p t w : ℕ) → Prime p → t < p → w < p → Congruent p (pos t *ℤ pos w) (pos 1) → w ≡ inverse p t
inverse-unique p t w P h k c =
    let v : ℕ = inverse p t in
    residue-unique (combination2 (pos v) (negsuc 0 *ℤ pos w) c (found p t w (omega arith) k c) (ring (pos t ∷ pos w ∷ pos v ∷ [])
    (var 1 ⊖ var 2) (var 2 ⊗ (var 0 ⊗ var 1 ⊖ lit (pos 1)) ⊕ lit (negsuc 0) ⊗ var 1 ⊗ (var 0 ⊗ var 2 ⊖ lit (pos 1))) refl))
    k (inverse-below p t (omega arith))

pub inverse-zero : (p : ℕ) → 1 < p → inverse p 0 ≡ 0
unfolding inverse
inverse-zero p h = search-fails p p 0 (λ w e. let z : ◌≡◌ {A = ℕ} 0 1 = rw (zero-mul, zero-mod) at e in omega arith)

-- ---- primes by trial

pub prime-by-trial : (n : ℕ) → 1 < n → ((d : ℕ) → 1 < d → d < n → n % d ≢ 0) → Prime n
prime-by-trial n h t = record { above-one = h; no-divisor = λ d l k v. t d (omega arith) (omega arith) (mod-eq-zero_of_dvd d v) }

pub prime-no-remainder : (n : ℕ) → Prime n → (d : ℕ) → 1 < d → d < n → n % d ≢ 0
prime-no-remainder n P d l k e = P.no-divisor d (omega arith) (omega arith) (dvd_of_mod-eq-zero d e)

-- n = q · d with d above the root: then q is not 1 and is below the root
cofactor-above-one : (q d n : ℕ) → q * d ≡ n → 1 < d → d < n → 1 < q
cofactor-above-one zero d n e l k = omega (arith, zero-mul d)
cofactor-above-one (suc zero) d n e l k = omega arith
cofactor-above-one (suc (suc q)) d n e l k = omega arith

cofactor-square : (q d n : ℕ) → q * d ≡ n → n < d * d → q * q ≤ n
cofactor-square q d n e h = elim (dec_le q d) [
  | yes l ↦ omega (arith, mul-le-mul_left q l)
  | no l ↦ let m : d ≤ q = omega arith in absurd (omega (arith, mul-le-mul_right d m))
]

pub prime-by-roots : (n : ℕ) → 1 < n → ((d : ℕ) → 1 < d → d * d ≤ n → n % d ≢ 0) → Prime n
prime-by-roots n h t = prime-by-trial n h (λ d l k e. elim (dec_le (d * d) n) [
  | yes s ↦ t d l s e
  | no s ↦ let c : n / d * d ≡ n = div-mul_cancel d (dvd_of_mod-eq-zero d e) in
      t (n / d) (cofactor-above-one (n / d) d n c l k) (cofactor-square (n / d) d n c (omega arith))
      (mod-eq-zero_of_dvd (n / d) (rw c at (dvd-mul_right (n / d) d)))
])
