-- Congruence modulo p is an equivalence that the operations of ℤ keep, and every class modulo p > 0 has exactly one remainder.
-- Two congruent numbers nearer to each other than p are equal: so a congruence and two ranges give an equation.
-- A congruence is most often proved from others as a combination of them: the factors, and one ring identity.
use mathlib.Core.Path.{◌≡◌, refl, sym, ap, ◌∙◌}
use mathlib.Core.List.{[], ◌∷◌}
use mathlib.Core.Logic.{◌↔◌}
use Prim.Native.Nat.{ℕ, zero, suc, ◌-◌, ◌*◌, ◌/◌, ◌%◌, ◌<◌}
use native.Mathlib.Omega.{arith}
use native.Mathlib.Nat.{div-add-mod', mod-lt, mod-eq_of_lt}
use lib.IntN.{ℤ, pos, negsuc, neg_ℤ, ◌+ℤ◌, ◌-ℤ◌, ◌*ℤ◌}
use lib.Signed.{◌<ℤ◌}
use Rattle.algebra.specs.Congruence.{Congruent, remainder}
use Rattle.algebra.proofs.Integer.Order.{positive_part, plus, positive_part-negation, negative_part-negation, integer}
use Rattle.algebra.proofs.Integer.Difference.{as-difference, push, difference-≡}
use Rattle.algebra.proofs.Integer.Ring.{var, lit, ◌⊕◌, ◌⊖◌, ◌⊗◌, ring}

-- by the sign of the quotient: at 0 the two are equal, and otherwise they are p or more apart
near : (p : ℕ) (k a b : ℤ) → a ≡ b +ℤ k *ℤ pos p → a <ℤ (b +ℤ pos p) → b <ℤ (a +ℤ pos p) → a ≡ b
near p (pos zero) a b e h₁ h₂ = omega (integer, plus b (pos 0 *ℤ pos p))
near p (pos (suc n)) a b e h₁ h₂ = absurd (omega (integer, plus b (pos (suc n) *ℤ pos p), plus b (pos p)))
near p (negsuc n) a b e h₁ h₂ = absurd (omega (
  integer,
  plus b (negsuc n *ℤ pos p),
  plus a (pos p),
  positive_part-negation (pos (suc n * p)),
  negative_part-negation (pos (suc n * p)),
))

module _ {p : ℕ} where
  -- ---- an equivalence

  pub congruent-≡ : {a b : ℤ} → a ≡ b → Congruent p a b
  congruent-≡ {a} {b} h = record {
    quotient = pos 0;
    equation = h ∙ ring (b ∷ pos p ∷ []) (var 0) (var 0 ⊕ lit (pos 0) ⊗ var 1) refl;
  }

  pub congruent-refl : (a : ℤ) → Congruent p a a
  congruent-refl a = congruent-≡ refl

  pub congruent-sym : {a b : ℤ} → Congruent p a b → Congruent p b a
  congruent-sym {a} {b} h = record { quotient = neg_ℤ h.quotient; equation = rw h.equation (undo b h.quotient) }
    where
      undo : (b k : ℤ) → b ≡ b +ℤ k *ℤ pos p +ℤ neg_ℤ k *ℤ pos p
      undo b k = rw (as-difference b, as-difference k) (simp push (omega (arith, difference-≡)))

  pub congruent-trans : {a b c : ℤ} → Congruent p a b → Congruent p b c → Congruent p a c
  congruent-trans {a} {b} {c} h k = record {
    quotient = k.quotient +ℤ h.quotient;
    equation = h.equation ∙ rw k.equation (ring (c ∷ k.quotient ∷ h.quotient ∷ pos p ∷ [])
        (var 0 ⊕ var 1 ⊗ var 3 ⊕ var 2 ⊗ var 3) (var 0 ⊕ (var 1 ⊕ var 2) ⊗ var 3) refl);
  }

  -- ---- that the operations keep

  pub congruent-+ : {a b c d : ℤ} → Congruent p a b → Congruent p c d → Congruent p (a +ℤ c) (b +ℤ d)
  congruent-+ {a} {b} {c} {d} h k = record {
    quotient = h.quotient +ℤ k.quotient;
    equation = rw (h.equation, k.equation) (ring (b ∷ d ∷ h.quotient ∷ k.quotient ∷ pos p ∷ [])
        ((var 0 ⊕ var 2 ⊗ var 4) ⊕ (var 1 ⊕ var 3 ⊗ var 4)) (var 0 ⊕ var 1 ⊕ (var 2 ⊕ var 3) ⊗ var 4) refl);
  }

  pub congruent-- : {a b c d : ℤ} → Congruent p a b → Congruent p c d → Congruent p (a -ℤ c) (b -ℤ d)
  congruent-- {a} {b} {c} {d} h k = record {
    quotient = h.quotient -ℤ k.quotient;
    equation = rw (h.equation, k.equation) (ring (b ∷ d ∷ h.quotient ∷ k.quotient ∷ pos p ∷ [])
        ((var 0 ⊕ var 2 ⊗ var 4) ⊖ (var 1 ⊕ var 3 ⊗ var 4)) (var 0 ⊖ var 1 ⊕ (var 2 ⊖ var 3) ⊗ var 4) refl);
  }

  pub congruent-* : {a b c d : ℤ} → Congruent p a b → Congruent p c d → Congruent p (a *ℤ c) (b *ℤ d)
  congruent-* {a} {b} {c} {d} h k = record {
    quotient = h.quotient *ℤ d +ℤ b *ℤ k.quotient +ℤ h.quotient *ℤ k.quotient *ℤ pos p;
    equation = rw (h.equation, k.equation) (ring (b ∷ d ∷ h.quotient ∷ k.quotient ∷ pos p ∷ [])
        ((var 0 ⊕ var 2 ⊗ var 4) ⊗ (var 1 ⊕ var 3 ⊗ var 4))
        (var 0 ⊗ var 1 ⊕ (var 2 ⊗ var 1 ⊕ var 0 ⊗ var 3 ⊕ var 2 ⊗ var 3 ⊗ var 4) ⊗ var 4) refl);
  }

  pub congruent-neg : {a b : ℤ} → Congruent p a b → Congruent p (neg_ℤ a) (neg_ℤ b)
  congruent-neg {a} {b} h = record { quotient = neg_ℤ h.quotient; equation = rw h.equation (spread b h.quotient) }
    where
      spread : (b k : ℤ) → neg_ℤ (b +ℤ k *ℤ pos p) ≡ neg_ℤ b +ℤ neg_ℤ k *ℤ pos p
      spread b k = rw (as-difference b, as-difference k) (simp push (omega (arith, difference-≡)))

  -- ---- from a congruence to an equation

  pub near-equal : {a b : ℤ} → Congruent p a b → a <ℤ (b +ℤ pos p) → b <ℤ (a +ℤ pos p) → a ≡ b
  near-equal {a} {b} c h₁ h₂ = near p c.quotient a b c.equation h₁ h₂

  pub residue-unique : {m n : ℕ} → Congruent p (pos m) (pos n) → m < p → n < p → m ≡ n
  residue-unique {m} {n} c h₁ h₂ = ap positive_part (near-equal c (omega integer) (omega integer))

  -- ---- a ≡ b as a − b ≡ 0, and combinations of congruences

  pub congruent-of-difference : (a b : ℤ) → Congruent p (a -ℤ b) (pos 0) → Congruent p a b
  congruent-of-difference a b c = record {
    quotient = c.quotient;
    equation = ring (a ∷ b ∷ []) (var 0) (var 0 ⊖ var 1 ⊕ var 1) refl
        ∙ rw c.equation (ring (b ∷ c.quotient ∷ pos p ∷ []) (lit (pos 0) ⊕ var 1 ⊗ var 2 ⊕ var 0) (var 0 ⊕ var 1 ⊗ var 2) refl);
  }

  pub difference-congruent : {a b : ℤ} → Congruent p a b → Congruent p (a -ℤ b) (pos 0)
  difference-congruent {a} {b} c =
      congruent-trans (congruent-- c (congruent-refl b)) (congruent-≡ (ring (b ∷ []) (var 0 ⊖ var 0) (lit (pos 0)) refl))

  multiple : {a b : ℤ} (k : ℤ) → Congruent p a b → Congruent p (k *ℤ (a -ℤ b)) (pos 0)
  multiple k c = congruent-trans (congruent-* (congruent-refl k) (difference-congruent c))
      (congruent-≡ (ring (k ∷ []) (var 0 ⊗ lit (pos 0)) (lit (pos 0)) refl))

  pub combination1 : {a b c d : ℤ} (k : ℤ) → Congruent p c d → a -ℤ b ≡ k *ℤ (c -ℤ d) → Congruent p a b
  combination1 {a} {b} k h e = congruent-of-difference a b (congruent-trans (congruent-≡ e) (multiple k h))

  pub combination2 : {a b c d x y : ℤ} (k l : ℤ) → Congruent p c d → Congruent p x y
      → a -ℤ b ≡ k *ℤ (c -ℤ d) +ℤ l *ℤ (x -ℤ y) → Congruent p a b
  combination2 {a} {b} k l h g e =
      congruent-of-difference a b (congruent-trans (congruent-≡ e) (congruent-+ (multiple k h) (multiple l g)))

  pub combination3 : {a b c d x y u v : ℤ} (k l m : ℤ) → Congruent p c d → Congruent p x y → Congruent p u v
      → a -ℤ b ≡ k *ℤ (c -ℤ d) +ℤ l *ℤ (x -ℤ y) +ℤ m *ℤ (u -ℤ v) → Congruent p a b
  combination3 {a} {b} k l m h g f e = congruent-of-difference a b
      (congruent-trans (congruent-≡ e) (congruent-+ (congruent-+ (multiple k h) (multiple l g)) (multiple m f)))

-- ---- the remainder

module _ (p : ℕ) where
  pub remainder-below : (z : ℤ) → zero < p → remainder p z < p
  unfolding remainder
  remainder-below (pos n) h = mod-lt n h
  remainder-below (negsuc n) h = omega arith

  pub congruent-remainder : (z : ℤ) → zero < p → Congruent p z (pos (remainder p z))
  unfolding remainder
  congruent-remainder (pos n) h = record { quotient = pos (n / p); equation = ap pos (omega (arith, div-add-mod' n p)) }
  congruent-remainder (negsuc n) h = record {
    quotient = negsuc (n / p);
    equation = omega (
      integer,
      plus (pos (p - suc (n % p))) (negsuc (n / p) *ℤ pos p),
      positive_part-negation (pos (suc (n / p) * p)),
      negative_part-negation (pos (suc (n / p) * p)),
      div-add-mod' n p,
      mod-lt n h,
    );
  }

  pub remainder-iff : (a b : ℤ) → zero < p → Congruent p a b ↔ (remainder p a ≡ remainder p b)
  remainder-iff a b h = (
    λ c. residue-unique (congruent-trans (congruent-trans (congruent-sym (congruent-remainder a h)) c) (congruent-remainder b h))
        (remainder-below a h) (remainder-below b h),
    λ e. congruent-trans (congruent-remainder a h) (congruent-trans (congruent-≡ (ap pos e)) (congruent-sym (congruent-remainder b h))),
  )

  pub remainder-of-residue : (n : ℕ) → n < p → remainder p (pos n) ≡ n
  unfolding remainder
  remainder-of-residue n h = mod-eq_of_lt h

  pub remainder-unique : (z : ℤ) (n : ℕ) → n < p → Congruent p z (pos n) → remainder p z ≡ n
  remainder-unique z n h c = (remainder-iff z (pos n) (omega arith)).0 c ∙ remainder-of-residue n h

  -- a number below p is the remainder of exactly the integers that are congruent to it
  pub residue-iff : (n : ℕ) (z : ℤ) → n < p → Congruent p (pos n) z ↔ (n ≡ remainder p z)
  residue-iff n z h = (
    λ c. sym (remainder-unique z n h (congruent-sym c)),
    λ e. congruent-trans (congruent-≡ (ap pos e)) (congruent-sym (congruent-remainder z (omega arith))),
  )
