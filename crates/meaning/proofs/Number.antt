-- The signed reading: over an odd prime p = 2M+1, the remainders below p and the whole numbers in -M..M are read as each other.
use mathlib.Core.Path.{◌≡◌, refl, subst}
use mathlib.Core.Bool.{not}
use mathlib.Core.List.{[], ◌∷◌}
use mathlib.Core.Logic.{◌≢◌, ◌↔◌}
use Prim.Native.Nat.{ℕ, zero, suc, ◌-◌, ◌%◌, ◌≤◌, ◌<◌}
use native.Mathlib.Omega.{arith}
use native.Mathlib.Decide.{ℕ_discrete}
use lib.Dec.{T, eqb, leb, leb→le, T_not}
use lib.IntN.{ℤ, pos, negsuc, ◌-ℤ◌}
use lib.Signed.{◌≤ℤ◌, le_z}
use Rattle.algebra.specs.Congruence.{Congruent, remainder}
use Rattle.algebra.specs.Prime.{Prime}
use Rattle.algebra.proofs.Test.{both, left, right, cond_cases, le_z-iff, le_z-false}
use Rattle.algebra.proofs.Integer.Linear.{linear}
use Rattle.algebra.proofs.Integer.Ring.{var, lit, ◌⊕◌, ◌⊖◌, ◌⊗◌, ring}
use Rattle.algebra.proofs.Congruence.{congruent-≡, congruent-sym, congruent-trans, near-equal}
use Rattle.algebra.proofs.Congruence.{congruent-remainder, remainder-below, remainder-unique, residue-iff}
use Rattle.algebra.proofs.Prime.{prime-by-trial, prime-no-remainder}
use Rattle.meaning.specs.Number.{half, lowest, highest, between, in_range, signed, no_divisor, odd_prime, OddPrime}

-- ---- odd primes

pub no_divisor-all : (n k : ℕ) → T (no_divisor n k) → (d : ℕ) → 1 < d → d ≤ suc k → n % d ≢ 0
unfolding no_divisor
no_divisor-all n zero t d h l e = omega arith
no_divisor-all n (suc k) t d h l e = elim (ℕ_discrete d (suc (suc k))) [
  | yes q ↦ T_not (eqb (n % suc (suc k)) 0) (left (not (eqb (n % suc (suc k)) 0)) (no_divisor n k) t) (rw (← q, e) tt)
  | no q ↦ no_divisor-all n k (right (not (eqb (n % suc (suc k)) 0)) (no_divisor n k) t) d h (omega arith) e
]

pub odd-prime : (n : ℕ) → T (odd_prime n) → OddPrime n
unfolding odd_prime half
odd-prime n t =
    let l : 3 ≤ n = leb→le 3 n (left (leb 3 n) (no_divisor n (n - 2)) t) in
    let P : Prime n = prime-by-trial n (omega arith) (λ d h k. no_divisor-all n (n - 2) (right (leb 3 n) (no_divisor n (n - 2)) t) d h (omega arith)) in
    let two : n % 2 ≢ 0 = prime-no-remainder n P 2 (omega arith) (omega arith) in
    record { prime = P; odd = omega arith; three = l }

module _ {p : ℕ} (P : OddPrime p) where
  pub positive : zero < p
  positive = omega (arith, P.three)

  -- ---- the signed range

  pub range-test : (x : ℤ) → lowest p ≤ℤ x → x ≤ℤ highest p → T (in_range p x)
  unfolding in_range between
  range-test x l h = both (le_z (lowest p) x) (le_z x (highest p)) l.le h.le

  pub range-low : (x : ℤ) → T (in_range p x) → lowest p ≤ℤ x
  unfolding in_range between
  range-low x t = record { le = left (le_z (lowest p) x) (le_z x (highest p)) t }

  pub range-high : (x : ℤ) → T (in_range p x) → x ≤ℤ highest p
  unfolding in_range between
  range-high x t = record { le = right (le_z (lowest p) x) (le_z x (highest p)) t }

  -- 0 and 1 lie in it
  pub lowest-zero : lowest p ≤ℤ pos 0
  unfolding lowest
  lowest-zero = omega linear

  pub one-highest : pos 1 ≤ℤ highest p
  unfolding highest
  one-highest = omega (linear, P.odd, P.three)

  -- two congruent numbers of the signed range are equal
  pub range-equal : {x y : ℤ} → Congruent p x y → T (in_range p x) → T (in_range p y) → x ≡ y
  unfolding lowest highest
  range-equal {x} {y} c t u =
      let a = range-low x t in
      let b = range-high x t in
      let d = range-low y u in
      let e = range-high y u in
      near-equal c (omega (linear, P.odd)) (omega (linear, P.odd))

  -- ---- the signed value of a cell

  pub signed-congruent : (c : ℕ) → Congruent p (signed p c) (pos c)
  unfolding signed
  signed-congruent c = cond_cases (λ z. Congruent p z (pos c)) (le_z (pos c) (highest p)) (pos c) (pos c -ℤ pos p)
      (λ _. congruent-≡ refl)
      (λ _. record { quotient = negsuc 0; equation = ring (pos c ∷ pos p ∷ []) (var 0 ⊖ var 1) (var 0 ⊕ lit (negsuc 0) ⊗ var 1) refl })

  pub signed_range : (c : ℕ) → c < p → T (in_range p (signed p c))
  unfolding signed lowest highest
  signed_range c h = cond_cases (λ z. T (in_range p z)) (le_z (pos c) (highest p)) (pos c) (pos c -ℤ pos p)
      (λ t. let k = (le_z-iff (pos c) (highest p)).0 t in range-test (pos c) (omega linear) k)
      (λ f. let k = le_z-false (pos c) (highest p) f in range-test (pos c -ℤ pos p) (omega (linear, P.odd)) (omega linear))

  pub remainder_signed : (c : ℕ) → c < p → remainder p (signed p c) ≡ c
  remainder_signed c h = remainder-unique p (signed p c) c h (signed-congruent c)

  pub signed-remainder : (x : ℤ) → T (in_range p x) → signed p (remainder p x) ≡ x
  signed-remainder x t = range-equal
      (congruent-trans (signed-congruent (remainder p x)) (congruent-sym (congruent-remainder p x positive)))
      (signed_range (remainder p x) (remainder-below p x positive)) t

-- ---- what is told over whole numbers

-- H is about a cell below p. Where H holds, the cell is congruent to a whole number of the kind A; and at each such number, H says S,
-- that the number is y, and C of it. Then H says S, that the cell is the remainder of y, and C of y.
pub exact-by-number : {p : ℕ} (cell : ℕ) (H S : Type 0) (y : ℤ) (A C : ℤ → Type 0) → cell < p
    → (H → (x : ℤ) × A x × Congruent p (pos cell) x) → (S → A y)
    → ((x : ℤ) → A x → Congruent p (pos cell) x → H ↔ (S × (x ≡ y) × C x))
    → H ↔ (S × (cell ≡ remainder p y) × C y)
exact-by-number {p} cell H S y A C below find kind tell =
    let is = residue-iff p cell y below in (
      λ h. let f = find h in
          let r = (tell f.0 f.1 f.2).0 h in
          (r.0, is.0 (congruent-trans f.2 (congruent-≡ r.1)), subst C r.1 r.2),
      λ r. (tell y (kind r.0) (is.1 r.1)).1 (r.0, refl, r.2),
    )
