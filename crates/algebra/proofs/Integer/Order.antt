-- An integer z is the natural number positive_part z less the natural number negative_part z, one of them 0.
-- So order, equality, sum, difference and product over ℤ are facts about natural numbers, which `omega` decides where they are linear.
-- `omega (integer, plus a b, minus c d)`: the set reads ≤ℤ, <ℤ and ≡ over ℤ, and one fact is listed for each sum or difference.
use mathlib.Core.Path.{◌≡◌, refl, ap}
use Prim.Native.Nat.{ℕ, zero, suc, ◌+◌, ◌-◌, ◌*◌, ◌≤◌, ◌<◌}
use native.Mathlib.Omega.{arith}
use native.Mathlib.Nat.{mul-le-mul_left}
use lib.IntN.{ℤ, pos, negsuc, neg_ℤ, nat_abs, ◌+ℤ◌, ◌-ℤ◌, ◌*ℤ◌, sub_ℕ}
use lib.Signed.{◌≤ℤ◌, ◌<ℤ◌, le_z, lt_z}
use lib.Dec.{T, ltb, leb→le, le→leb, ltb→lt, lt→ltb}
use Rattle.algebra.proofs.Test.{cond_cases, ltb-false}

abbrev pub positive_part : ℤ → ℕ
positive_part (pos n) = n
positive_part (negsuc n) = zero

abbrev pub negative_part : ℤ → ℕ
negative_part (pos n) = zero
negative_part (negsuc n) = suc n

-- the computing tests of order, as facts on ℕ
le_z-parts : (a b : ℤ) → T (le_z a b) → positive_part a + negative_part b ≤ positive_part b + negative_part a
le_z-parts (pos a) (pos b) t = let h : a ≤ b = leb→le a b t in omega arith
le_z-parts (pos a) (negsuc b) t = absurd t
le_z-parts (negsuc a) (pos b) t = omega arith
le_z-parts (negsuc a) (negsuc b) t = let h : b ≤ a = leb→le b a t in omega arith

parts-le_z : (a b : ℤ) → positive_part a + negative_part b ≤ positive_part b + negative_part a → T (le_z a b)
parts-le_z (pos a) (pos b) h = le→leb a b (omega arith)
parts-le_z (pos a) (negsuc b) h = absurd (omega arith)
parts-le_z (negsuc a) (pos b) h = tt
parts-le_z (negsuc a) (negsuc b) h = le→leb b a (omega arith)

lt_z-parts : (a b : ℤ) → T (lt_z a b) → positive_part a + negative_part b < positive_part b + negative_part a
lt_z-parts (pos a) (pos b) t = let h : a < b = ltb→lt a b t in omega arith
lt_z-parts (pos a) (negsuc b) t = absurd t
lt_z-parts (negsuc a) (pos b) t = omega arith
lt_z-parts (negsuc a) (negsuc b) t = let h : b < a = ltb→lt b a t in omega arith

parts-lt_z : (a b : ℤ) → positive_part a + negative_part b < positive_part b + negative_part a → T (lt_z a b)
parts-lt_z (pos a) (pos b) h = lt→ltb a b (omega arith)
parts-lt_z (pos a) (negsuc b) h = absurd (omega arith)
parts-lt_z (negsuc a) (pos b) h = tt
parts-lt_z (negsuc a) (negsuc b) h = lt→ltb b a (omega arith)

-- a hypothesis over ℤ read as a fact on ℕ (`from-`), and a goal over ℤ turned into one on ℕ (`to-`)
pub from-≤ℤ : {a b : ℤ} → a ≤ℤ b → positive_part a + negative_part b ≤ positive_part b + negative_part a
from-≤ℤ {a} {b} h = le_z-parts a b h.le

pub to-≤ℤ : {a b : ℤ} → positive_part a + negative_part b ≤ positive_part b + negative_part a → a ≤ℤ b
to-≤ℤ {a} {b} h = record { le = parts-le_z a b h }

pub from-<ℤ : {a b : ℤ} → a <ℤ b → positive_part a + negative_part b < positive_part b + negative_part a
from-<ℤ {a} {b} h = lt_z-parts a b h.lt

pub to-<ℤ : {a b : ℤ} → positive_part a + negative_part b < positive_part b + negative_part a → a <ℤ b
to-<ℤ {a} {b} h = record { lt = parts-lt_z a b h }

pub from-≡ℤ : {a b : ℤ} → a ≡ b → positive_part a + negative_part b ≡ positive_part b + negative_part a
from-≡ℤ {a} {b} h = rw h refl

parts-≡ : (a b : ℤ) → positive_part a + negative_part b ≡ positive_part b + negative_part a → a ≡ b
parts-≡ (pos a) (pos b) h = ap pos (omega arith)
parts-≡ (pos a) (negsuc b) h = absurd (omega arith)
parts-≡ (negsuc a) (pos b) h = absurd (omega arith)
parts-≡ (negsuc a) (negsuc b) h = ap negsuc (omega arith)

pub to-≡ℤ : {a b : ℤ} → positive_part a + negative_part b ≡ positive_part b + negative_part a → a ≡ b
to-≡ℤ {a} {b} h = parts-≡ a b h

pub ruleset integer = (arith, from-≤ℤ, to-≤ℤ, from-<ℤ, to-<ℤ, from-≡ℤ, to-≡ℤ)

-- the parts of the difference of two natural numbers, which is defined by a test
pub subℕ-parts : (a b : ℕ) → positive_part (sub_ℕ a b) + b ≡ negative_part (sub_ℕ a b) + a
subℕ-parts a b = cond_cases (λ z. positive_part z + b ≡ negative_part z + a) (ltb a b) (negsuc (b - suc a)) (pos (a - b))
    (λ t. let h : a < b = ltb→lt a b t in omega arith)
    (λ f. let h : b ≤ a = ltb-false a b f in omega arith)

-- the parts of a sum, a negation, a difference and a product
pub plus : (a b : ℤ) → positive_part (a +ℤ b) + (negative_part a + negative_part b) ≡ negative_part (a +ℤ b) + (positive_part a + positive_part b)
plus (pos a) (pos b) = omega arith
plus (pos a) (negsuc b) = omega (arith, subℕ-parts a (suc b))
plus (negsuc a) (pos b) = omega (arith, subℕ-parts b (suc a))
plus (negsuc a) (negsuc b) = omega arith

pub positive_part-negation : (a : ℤ) → positive_part (neg_ℤ a) ≡ negative_part a
positive_part-negation (pos zero) = refl
positive_part-negation (pos (suc a)) = refl
positive_part-negation (negsuc a) = refl

pub negative_part-negation : (a : ℤ) → negative_part (neg_ℤ a) ≡ positive_part a
negative_part-negation (pos zero) = refl
negative_part-negation (pos (suc a)) = refl
negative_part-negation (negsuc a) = refl

pub minus : (a b : ℤ) → positive_part (a -ℤ b) + (negative_part a + positive_part b) ≡ negative_part (a -ℤ b) + (positive_part a + negative_part b)
minus a b = omega (arith, plus a (neg_ℤ b), positive_part-negation b, negative_part-negation b)

pub times : (a b : ℤ) → positive_part (a *ℤ b) + (positive_part a * negative_part b + negative_part a * positive_part b)
    ≡ negative_part (a *ℤ b) + (positive_part a * positive_part b + negative_part a * negative_part b)
times (pos a) (pos b) = omega arith
times (pos a) (negsuc b) = omega (arith, positive_part-negation (pos (a * suc b)), negative_part-negation (pos (a * suc b)))
times (negsuc a) (pos b) = omega (arith, positive_part-negation (pos (suc a * b)), negative_part-negation (pos (suc a * b)))
times (negsuc a) (negsuc b) = omega arith

-- a number that is not negative has no negative part, and is its positive part
pub negative_part-zero : (z : ℤ) → negative_part z ≤ positive_part z → negative_part z ≡ zero
negative_part-zero (pos n) h = refl
negative_part-zero (negsuc n) h = omega arith

-- the absolute value is the one of the two parts that is not 0
pub nat_abs-parts : (z : ℤ) → nat_abs z ≡ positive_part z + negative_part z
nat_abs-parts (pos n) = omega arith
nat_abs-parts (negsuc n) = omega arith

-- a factor that is not negative keeps an order, and a negative one turns it round
pub product-keeps : (c : ℕ) (a b : ℤ) → a ≤ℤ b → (pos c *ℤ a) ≤ℤ (pos c *ℤ b)
product-keeps c a b h = omega (integer, times (pos c) a, times (pos c) b, mul-le-mul_left c (from-≤ℤ h))

pub product-turns : (c : ℕ) (a b : ℤ) → a ≤ℤ b → (negsuc c *ℤ b) ≤ℤ (negsuc c *ℤ a)
product-turns c a b h = omega (integer, times (negsuc c) a, times (negsuc c) b, mul-le-mul_left (suc c) (from-≤ℤ h))
