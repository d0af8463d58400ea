-- Digits in base b, lowest first: k digits below b and a number below b ^ k determine each other, digit i of n is n / b ^ i % b,
-- and the digit rule: a congruence modulo p and ranges nearer than p tell the digits of an integer in its range.
use mathlib.Core.Path.{◌≡◌, refl, sym, ap, ap₂, ◌∙◌}
use mathlib.Core.List.{List, [], ◌∷◌}
use mathlib.Core.Logic.{◌↔◌}
use Prim.Native.Nat.{ℕ, zero, suc, ◌-◌, ◌*◌, ◌/◌, ◌%◌, ◌^◌, ◌≤◌, ◌<◌}
use native.Mathlib.Omega.{arith}
use native.Mathlib.Nat.{pow-zero, pow-suc, pow-succ', one-le-pow, le-mul_of_pos_right, mul-le-mul_left, mul-suc, mul_comm, zero-add}
use native.Mathlib.Nat.{div-lt_iff_lt-mul, le-div_iff_mul-le, div-add-mod', mod-lt, mod-eq_of_lt, div-eq_of_lt, div-one}
use native.Mathlib.Nat.{add-mul-mod_self_left, add-mul-div_left, div-div-eq-div-mul}
use lib.IntN.{ℤ, pos, nat_abs, ◌+ℤ◌, ◌-ℤ◌}
use lib.Signed.{◌≤ℤ◌}
use lib.ListN.{length, get_or}
use Rattle.algebra.specs.Congruence.{Congruent}
use Rattle.algebra.specs.Digits.{value, digits, Below}
use Rattle.algebra.proofs.Integer.Order.{negative_part, negative_part-zero, nat_abs-parts, plus, minus, integer}
use Rattle.algebra.proofs.Integer.Linear.{linear}
use Rattle.algebra.proofs.Congruence.{near-equal, congruent-≡}

-- ---- a list of digits and the number that it stands for

pub value-below : (b : ℕ) (ds : List ℕ) → Below b ds → value b ds < b ^ length ds
unfolding value
value-below b [] h = omega (arith, pow-zero b)
value-below b (d ∷ ds) h = omega (arith, pow-succ' b (length ds), mul-le-mul_left b (value-below b ds h.1), h.0)

pub value-digits : (b k n : ℕ) → zero < b → n < b ^ k → value b (digits b k n) ≡ n
unfolding value digits
value-digits b zero n p h = omega (arith, pow-zero b)
value-digits b (suc k) n p h =
    let lower : value b (digits b k (n / b)) ≡ n / b = value-digits b k (n / b) p ((div-lt_iff_lt-mul p).1 (rw pow-suc at h)) in
    omega (arith, ap (λ (v : ℕ). b * v) lower, div-add-mod' n b)

pub digits_value : (b : ℕ) (ds : List ℕ) → Below b ds → digits b (length ds) (value b ds) ≡ ds
unfolding value digits
digits_value b [] h = refl
digits_value b (d ∷ ds) h = ap₂ (λ (a : ℕ) (l : List ℕ). a ∷ l)
    (add-mul-mod_self_left d b (value b ds) ∙ mod-eq_of_lt h.0)
    (rw (add-mul-div_left d (value b ds) {y = b} (omega (arith, h.0)), div-eq_of_lt h.0, zero-add) (digits_value b ds h.1))

pub digits-below : (b k n : ℕ) → zero < b → Below b (digits b k n)
unfolding digits
digits-below b zero n p = tt
digits-below b (suc k) n p = (mod-lt n p, digits-below b k (n / b) p)

pub length_digits : (b k n : ℕ) → length (digits b k n) ≡ k
unfolding digits
length_digits b zero n = refl
length_digits b (suc k) n = ap suc (length_digits b k (n / b))

pub digits-unique : (b k n : ℕ) (ds : List ℕ) → length ds ≡ k → Below b ds → value b ds ≡ n → ds ≡ digits b k n
digits-unique b k n ds l h e = rw (← l, ← e) (sym (digits_value b ds h))

pub digit_at : (b k n i : ℕ) → i < k → get_or (digits b k n) i zero ≡ n / b ^ i % b
unfolding digits
digit_at b zero n i h = absurd (omega arith)
digit_at b (suc k) n zero h = rw (pow-zero, div-one) refl
digit_at b (suc k) n (suc i) h = digit_at b k (n / b) i (omega arith) ∙ rw (div-div-eq-div-mul n b (b ^ i), pow-succ' b i) refl

-- ---- powers, and the highest digit

pub power-positive : (b k : ℕ) → zero < b → zero < b ^ k
power-positive b k h = one-le-pow k b h

pub base-below-power : (b k : ℕ) → 1 ≤ k → zero < b → b ≤ b ^ k
base-below-power b zero l h = absurd (omega arith)
base-below-power b (suc k) l h = rw pow-succ' (le-mul_of_pos_right b (power-positive b k h))

-- a multiple of b less one part of it
pub less_one : (b x : ℕ) → 1 ≤ b → x * b - x ≡ (b - 1) * x
less_one zero x h = absurd (omega arith)
less_one (suc b) x h = let base : suc b - 1 ≡ b = omega arith in rw base (omega (arith, mul-suc x b, mul_comm b x))

pub top_digit : (b k n : ℕ) → n < b ^ suc k → n / b ^ k < b
top_digit zero k n h = absurd (omega (arith, pow-succ' 0 k))
top_digit (suc b) k n h = (div-lt_iff_lt-mul (power-positive (suc b) k (omega arith))).1 (rw pow-succ' at h)

pub top-digit-full : (b k n : ℕ) → n < b ^ suc k → zero < b → (n / b ^ k ≡ b - 1) ↔ ((b - 1) * b ^ k ≤ n)
top-digit-full b k n h p = (
  λ e. (le-div_iff_mul-le (power-positive b k p)).0 (omega arith),
  λ l. omega (arith, top_digit b k n h, (le-div_iff_mul-le {x = b - 1} {y = n} (power-positive b k p)).1 l),
)

-- ---- the digit rule

-- x lies between E and F, and its k digits are counted from L: they reach up to L + b ^ k − 1.
-- The last three fields say that x − L and the value of k digits are never p or more apart.
pub record DigitRule (p b k : ℕ) (E F L x : ℤ) : Type 0 where
  pub positive-base : zero < b
  pub low : E ≤ℤ x
  pub high : x ≤ℤ F
  pub power-fits : b ^ k ≤ p
  pub above : (F -ℤ L) ≤ℤ pos (p - 1)
  pub below : (L +ℤ pos (b ^ k - 1) -ℤ E) ≤ℤ pos (p - 1)

module _ {p b k : ℕ} {E F L x : ℤ} (r : DigitRule p b k E F L x) (ds : List ℕ) (l : length ds ≡ k) where
  digits-fit : Below b ds → value b ds < b ^ k
  digits-fit h = rw l at (value-below b ds h)

  -- the two numbers are nearer than p
  exact : Congruent p (x -ℤ L) (pos (value b ds)) → Below b ds → x -ℤ L ≡ pos (value b ds)
  exact c h = near-equal c
      (omega (linear, r.high, r.above, r.power-fits, digits-fit h))
      (omega (linear, r.low, r.below, r.power-fits, plus L (pos (b ^ k - 1)), minus x L, digits-fit h))

  pub digit-rule : (Congruent p (x -ℤ L) (pos (value b ds)) × Below b ds)
      ↔ ((L ≤ℤ x) × (x ≤ℤ (L +ℤ pos (b ^ k - 1))) × (ds ≡ digits b k (nat_abs (x -ℤ L))))
  digit-rule = (λ c. there c.0 c.1, λ c. back c.0 c.1 c.2)
    where
      there : Congruent p (x -ℤ L) (pos (value b ds)) → Below b ds
          → (L ≤ℤ x) × (x ≤ℤ (L +ℤ pos (b ^ k - 1))) × (ds ≡ digits b k (nat_abs (x -ℤ L)))
      there c h = let e : x -ℤ L ≡ pos (value b ds) = exact c h in
          (omega linear, omega (linear, digits-fit h), digits-unique b k (nat_abs (x -ℤ L)) ds l h (sym (ap nat_abs e)))

      back : L ≤ℤ x → x ≤ℤ (L +ℤ pos (b ^ k - 1)) → ds ≡ digits b k (nat_abs (x -ℤ L))
          → Congruent p (x -ℤ L) (pos (value b ds)) × Below b ds
      back h₁ h₂ q =
          let z : negative_part (x -ℤ L) ≡ zero = negative_part-zero (x -ℤ L) (omega (linear, minus x L)) in
          let s : nat_abs (x -ℤ L) < b ^ k = omega (linear, minus x L, nat_abs-parts (x -ℤ L), power-positive b k r.positive-base) in
          let v : value b ds ≡ nat_abs (x -ℤ L) = ap (value b) q ∙ value-digits b k (nat_abs (x -ℤ L)) r.positive-base s in
          (congruent-≡ (omega (integer, nat_abs-parts (x -ℤ L))), rw q (digits-below b k (nat_abs (x -ℤ L)) r.positive-base))
