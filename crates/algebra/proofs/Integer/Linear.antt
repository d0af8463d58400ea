-- `omega linear` decides linear facts over ℤ with no fact listed: a rule reads each sum, difference or negation on either side of
-- ≤ℤ, <ℤ or ≡, one node deep (for deeper ones list `plus` and `minus`). The lemmas are one text over all pairs of shapes, written by a program.
-- The first rule that fits is taken, so differences stand before sums (a -ℤ b is a +ℤ neg_ℤ b) and plain numbers last.
use mathlib.Core.Path.{◌≡◌}
use Prim.Native.Nat.{◌+◌, ◌≤◌, ◌<◌}
use native.Mathlib.Omega.{arith}
use lib.IntN.{ℤ, neg_ℤ, ◌+ℤ◌, ◌-ℤ◌}
use lib.Signed.{◌≤ℤ◌, ◌<ℤ◌}
use Rattle.algebra.proofs.Integer.Order.{positive_part, negative_part, plus, minus, positive_part-negation, negative_part-negation}
use Rattle.algebra.proofs.Integer.Order.{integer, from-≤ℤ, to-≤ℤ, from-<ℤ, to-<ℤ, from-≡ℤ, to-≡ℤ}

pub from-difference-≤-difference : (a b c d : ℤ) → (a -ℤ b) ≤ℤ (c -ℤ d)
    → (positive_part a + negative_part b) + (negative_part c + positive_part d) ≤ (positive_part c + negative_part d) + (negative_part a + positive_part b)
from-difference-≤-difference a b c d h = omega (integer, minus a b, minus c d)

pub to-difference-≤-difference : (a b c d : ℤ)
    → (positive_part a + negative_part b) + (negative_part c + positive_part d) ≤ (positive_part c + negative_part d) + (negative_part a + positive_part b)
    → (a -ℤ b) ≤ℤ (c -ℤ d)
to-difference-≤-difference a b c d h = omega (integer, minus a b, minus c d)

pub from-difference-≤-sum : (a b c d : ℤ) → (a -ℤ b) ≤ℤ (c +ℤ d)
    → (positive_part a + negative_part b) + (negative_part c + negative_part d) ≤ (positive_part c + positive_part d) + (negative_part a + positive_part b)
from-difference-≤-sum a b c d h = omega (integer, minus a b, plus c d)

pub to-difference-≤-sum : (a b c d : ℤ)
    → (positive_part a + negative_part b) + (negative_part c + negative_part d) ≤ (positive_part c + positive_part d) + (negative_part a + positive_part b)
    → (a -ℤ b) ≤ℤ (c +ℤ d)
to-difference-≤-sum a b c d h = omega (integer, minus a b, plus c d)

pub from-difference-≤-negation : (a b c : ℤ) → (a -ℤ b) ≤ℤ (neg_ℤ c)
    → (positive_part a + negative_part b) + positive_part c ≤ negative_part c + (negative_part a + positive_part b)
from-difference-≤-negation a b c h = omega (integer, minus a b, positive_part-negation c, negative_part-negation c)

pub to-difference-≤-negation : (a b c : ℤ)
    → (positive_part a + negative_part b) + positive_part c ≤ negative_part c + (negative_part a + positive_part b) → (a -ℤ b) ≤ℤ (neg_ℤ c)
to-difference-≤-negation a b c h = omega (integer, minus a b, positive_part-negation c, negative_part-negation c)

pub from-difference-≤-number : (a b c : ℤ) → (a -ℤ b) ≤ℤ c
    → (positive_part a + negative_part b) + negative_part c ≤ positive_part c + (negative_part a + positive_part b)
from-difference-≤-number a b c h = omega (integer, minus a b)

pub to-difference-≤-number : (a b c : ℤ)
    → (positive_part a + negative_part b) + negative_part c ≤ positive_part c + (negative_part a + positive_part b) → (a -ℤ b) ≤ℤ c
to-difference-≤-number a b c h = omega (integer, minus a b)

pub from-sum-≤-difference : (a b c d : ℤ) → (a +ℤ b) ≤ℤ (c -ℤ d)
    → (positive_part a + positive_part b) + (negative_part c + positive_part d) ≤ (positive_part c + negative_part d) + (negative_part a + negative_part b)
from-sum-≤-difference a b c d h = omega (integer, plus a b, minus c d)

pub to-sum-≤-difference : (a b c d : ℤ)
    → (positive_part a + positive_part b) + (negative_part c + positive_part d) ≤ (positive_part c + negative_part d) + (negative_part a + negative_part b)
    → (a +ℤ b) ≤ℤ (c -ℤ d)
to-sum-≤-difference a b c d h = omega (integer, plus a b, minus c d)

pub from-sum-≤-sum : (a b c d : ℤ) → (a +ℤ b) ≤ℤ (c +ℤ d)
    → (positive_part a + positive_part b) + (negative_part c + negative_part d) ≤ (positive_part c + positive_part d) + (negative_part a + negative_part b)
from-sum-≤-sum a b c d h = omega (integer, plus a b, plus c d)

pub to-sum-≤-sum : (a b c d : ℤ)
    → (positive_part a + positive_part b) + (negative_part c + negative_part d) ≤ (positive_part c + positive_part d) + (negative_part a + negative_part b)
    → (a +ℤ b) ≤ℤ (c +ℤ d)
to-sum-≤-sum a b c d h = omega (integer, plus a b, plus c d)

pub from-sum-≤-negation : (a b c : ℤ) → (a +ℤ b) ≤ℤ (neg_ℤ c)
    → (positive_part a + positive_part b) + positive_part c ≤ negative_part c + (negative_part a + negative_part b)
from-sum-≤-negation a b c h = omega (integer, plus a b, positive_part-negation c, negative_part-negation c)

pub to-sum-≤-negation : (a b c : ℤ)
    → (positive_part a + positive_part b) + positive_part c ≤ negative_part c + (negative_part a + negative_part b) → (a +ℤ b) ≤ℤ (neg_ℤ c)
to-sum-≤-negation a b c h = omega (integer, plus a b, positive_part-negation c, negative_part-negation c)

pub from-sum-≤-number : (a b c : ℤ) → (a +ℤ b) ≤ℤ c
    → (positive_part a + positive_part b) + negative_part c ≤ positive_part c + (negative_part a + negative_part b)
from-sum-≤-number a b c h = omega (integer, plus a b)

pub to-sum-≤-number : (a b c : ℤ)
    → (positive_part a + positive_part b) + negative_part c ≤ positive_part c + (negative_part a + negative_part b) → (a +ℤ b) ≤ℤ c
to-sum-≤-number a b c h = omega (integer, plus a b)

pub from-negation-≤-difference : (a c d : ℤ) → (neg_ℤ a) ≤ℤ (c -ℤ d)
    → negative_part a + (negative_part c + positive_part d) ≤ (positive_part c + negative_part d) + positive_part a
from-negation-≤-difference a c d h = omega (integer, positive_part-negation a, negative_part-negation a, minus c d)

pub to-negation-≤-difference : (a c d : ℤ)
    → negative_part a + (negative_part c + positive_part d) ≤ (positive_part c + negative_part d) + positive_part a → (neg_ℤ a) ≤ℤ (c -ℤ d)
to-negation-≤-difference a c d h = omega (integer, positive_part-negation a, negative_part-negation a, minus c d)

pub from-negation-≤-sum : (a c d : ℤ) → (neg_ℤ a) ≤ℤ (c +ℤ d)
    → negative_part a + (negative_part c + negative_part d) ≤ (positive_part c + positive_part d) + positive_part a
from-negation-≤-sum a c d h = omega (integer, positive_part-negation a, negative_part-negation a, plus c d)

pub to-negation-≤-sum : (a c d : ℤ)
    → negative_part a + (negative_part c + negative_part d) ≤ (positive_part c + positive_part d) + positive_part a → (neg_ℤ a) ≤ℤ (c +ℤ d)
to-negation-≤-sum a c d h = omega (integer, positive_part-negation a, negative_part-negation a, plus c d)

pub from-negation-≤-negation : (a c : ℤ) → (neg_ℤ a) ≤ℤ (neg_ℤ c)
    → negative_part a + positive_part c ≤ negative_part c + positive_part a
from-negation-≤-negation a c h = omega (integer, positive_part-negation a, negative_part-negation a, positive_part-negation c, negative_part-negation c)

pub to-negation-≤-negation : (a c : ℤ)
    → negative_part a + positive_part c ≤ negative_part c + positive_part a → (neg_ℤ a) ≤ℤ (neg_ℤ c)
to-negation-≤-negation a c h = omega (integer, positive_part-negation a, negative_part-negation a, positive_part-negation c, negative_part-negation c)

pub from-negation-≤-number : (a c : ℤ) → (neg_ℤ a) ≤ℤ c
    → negative_part a + negative_part c ≤ positive_part c + positive_part a
from-negation-≤-number a c h = omega (integer, positive_part-negation a, negative_part-negation a)

pub to-negation-≤-number : (a c : ℤ)
    → negative_part a + negative_part c ≤ positive_part c + positive_part a → (neg_ℤ a) ≤ℤ c
to-negation-≤-number a c h = omega (integer, positive_part-negation a, negative_part-negation a)

pub from-number-≤-difference : (a c d : ℤ) → a ≤ℤ (c -ℤ d)
    → positive_part a + (negative_part c + positive_part d) ≤ (positive_part c + negative_part d) + negative_part a
from-number-≤-difference a c d h = omega (integer, minus c d)

pub to-number-≤-difference : (a c d : ℤ)
    → positive_part a + (negative_part c + positive_part d) ≤ (positive_part c + negative_part d) + negative_part a → a ≤ℤ (c -ℤ d)
to-number-≤-difference a c d h = omega (integer, minus c d)

pub from-number-≤-sum : (a c d : ℤ) → a ≤ℤ (c +ℤ d)
    → positive_part a + (negative_part c + negative_part d) ≤ (positive_part c + positive_part d) + negative_part a
from-number-≤-sum a c d h = omega (integer, plus c d)

pub to-number-≤-sum : (a c d : ℤ)
    → positive_part a + (negative_part c + negative_part d) ≤ (positive_part c + positive_part d) + negative_part a → a ≤ℤ (c +ℤ d)
to-number-≤-sum a c d h = omega (integer, plus c d)

pub from-number-≤-negation : (a c : ℤ) → a ≤ℤ (neg_ℤ c)
    → positive_part a + positive_part c ≤ negative_part c + negative_part a
from-number-≤-negation a c h = omega (integer, positive_part-negation c, negative_part-negation c)

pub to-number-≤-negation : (a c : ℤ)
    → positive_part a + positive_part c ≤ negative_part c + negative_part a → a ≤ℤ (neg_ℤ c)
to-number-≤-negation a c h = omega (integer, positive_part-negation c, negative_part-negation c)

pub from-difference-<-difference : (a b c d : ℤ) → (a -ℤ b) <ℤ (c -ℤ d)
    → (positive_part a + negative_part b) + (negative_part c + positive_part d) < (positive_part c + negative_part d) + (negative_part a + positive_part b)
from-difference-<-difference a b c d h = omega (integer, minus a b, minus c d)

pub to-difference-<-difference : (a b c d : ℤ)
    → (positive_part a + negative_part b) + (negative_part c + positive_part d) < (positive_part c + negative_part d) + (negative_part a + positive_part b)
    → (a -ℤ b) <ℤ (c -ℤ d)
to-difference-<-difference a b c d h = omega (integer, minus a b, minus c d)

pub from-difference-<-sum : (a b c d : ℤ) → (a -ℤ b) <ℤ (c +ℤ d)
    → (positive_part a + negative_part b) + (negative_part c + negative_part d) < (positive_part c + positive_part d) + (negative_part a + positive_part b)
from-difference-<-sum a b c d h = omega (integer, minus a b, plus c d)

pub to-difference-<-sum : (a b c d : ℤ)
    → (positive_part a + negative_part b) + (negative_part c + negative_part d) < (positive_part c + positive_part d) + (negative_part a + positive_part b)
    → (a -ℤ b) <ℤ (c +ℤ d)
to-difference-<-sum a b c d h = omega (integer, minus a b, plus c d)

pub from-difference-<-negation : (a b c : ℤ) → (a -ℤ b) <ℤ (neg_ℤ c)
    → (positive_part a + negative_part b) + positive_part c < negative_part c + (negative_part a + positive_part b)
from-difference-<-negation a b c h = omega (integer, minus a b, positive_part-negation c, negative_part-negation c)

pub to-difference-<-negation : (a b c : ℤ)
    → (positive_part a + negative_part b) + positive_part c < negative_part c + (negative_part a + positive_part b) → (a -ℤ b) <ℤ (neg_ℤ c)
to-difference-<-negation a b c h = omega (integer, minus a b, positive_part-negation c, negative_part-negation c)

pub from-difference-<-number : (a b c : ℤ) → (a -ℤ b) <ℤ c
    → (positive_part a + negative_part b) + negative_part c < positive_part c + (negative_part a + positive_part b)
from-difference-<-number a b c h = omega (integer, minus a b)

pub to-difference-<-number : (a b c : ℤ)
    → (positive_part a + negative_part b) + negative_part c < positive_part c + (negative_part a + positive_part b) → (a -ℤ b) <ℤ c
to-difference-<-number a b c h = omega (integer, minus a b)

pub from-sum-<-difference : (a b c d : ℤ) → (a +ℤ b) <ℤ (c -ℤ d)
    → (positive_part a + positive_part b) + (negative_part c + positive_part d) < (positive_part c + negative_part d) + (negative_part a + negative_part b)
from-sum-<-difference a b c d h = omega (integer, plus a b, minus c d)

pub to-sum-<-difference : (a b c d : ℤ)
    → (positive_part a + positive_part b) + (negative_part c + positive_part d) < (positive_part c + negative_part d) + (negative_part a + negative_part b)
    → (a +ℤ b) <ℤ (c -ℤ d)
to-sum-<-difference a b c d h = omega (integer, plus a b, minus c d)

pub from-sum-<-sum : (a b c d : ℤ) → (a +ℤ b) <ℤ (c +ℤ d)
    → (positive_part a + positive_part b) + (negative_part c + negative_part d) < (positive_part c + positive_part d) + (negative_part a + negative_part b)
from-sum-<-sum a b c d h = omega (integer, plus a b, plus c d)

pub to-sum-<-sum : (a b c d : ℤ)
    → (positive_part a + positive_part b) + (negative_part c + negative_part d) < (positive_part c + positive_part d) + (negative_part a + negative_part b)
    → (a +ℤ b) <ℤ (c +ℤ d)
to-sum-<-sum a b c d h = omega (integer, plus a b, plus c d)

pub from-sum-<-negation : (a b c : ℤ) → (a +ℤ b) <ℤ (neg_ℤ c)
    → (positive_part a + positive_part b) + positive_part c < negative_part c + (negative_part a + negative_part b)
from-sum-<-negation a b c h = omega (integer, plus a b, positive_part-negation c, negative_part-negation c)

pub to-sum-<-negation : (a b c : ℤ)
    → (positive_part a + positive_part b) + positive_part c < negative_part c + (negative_part a + negative_part b) → (a +ℤ b) <ℤ (neg_ℤ c)
to-sum-<-negation a b c h = omega (integer, plus a b, positive_part-negation c, negative_part-negation c)

pub from-sum-<-number : (a b c : ℤ) → (a +ℤ b) <ℤ c
    → (positive_part a + positive_part b) + negative_part c < positive_part c + (negative_part a + negative_part b)
from-sum-<-number a b c h = omega (integer, plus a b)

pub to-sum-<-number : (a b c : ℤ)
    → (positive_part a + positive_part b) + negative_part c < positive_part c + (negative_part a + negative_part b) → (a +ℤ b) <ℤ c
to-sum-<-number a b c h = omega (integer, plus a b)

pub from-negation-<-difference : (a c d : ℤ) → (neg_ℤ a) <ℤ (c -ℤ d)
    → negative_part a + (negative_part c + positive_part d) < (positive_part c + negative_part d) + positive_part a
from-negation-<-difference a c d h = omega (integer, positive_part-negation a, negative_part-negation a, minus c d)

pub to-negation-<-difference : (a c d : ℤ)
    → negative_part a + (negative_part c + positive_part d) < (positive_part c + negative_part d) + positive_part a → (neg_ℤ a) <ℤ (c -ℤ d)
to-negation-<-difference a c d h = omega (integer, positive_part-negation a, negative_part-negation a, minus c d)

pub from-negation-<-sum : (a c d : ℤ) → (neg_ℤ a) <ℤ (c +ℤ d)
    → negative_part a + (negative_part c + negative_part d) < (positive_part c + positive_part d) + positive_part a
from-negation-<-sum a c d h = omega (integer, positive_part-negation a, negative_part-negation a, plus c d)

pub to-negation-<-sum : (a c d : ℤ)
    → negative_part a + (negative_part c + negative_part d) < (positive_part c + positive_part d) + positive_part a → (neg_ℤ a) <ℤ (c +ℤ d)
to-negation-<-sum a c d h = omega (integer, positive_part-negation a, negative_part-negation a, plus c d)

pub from-negation-<-negation : (a c : ℤ) → (neg_ℤ a) <ℤ (neg_ℤ c)
    → negative_part a + positive_part c < negative_part c + positive_part a
from-negation-<-negation a c h = omega (integer, positive_part-negation a, negative_part-negation a, positive_part-negation c, negative_part-negation c)

pub to-negation-<-negation : (a c : ℤ)
    → negative_part a + positive_part c < negative_part c + positive_part a → (neg_ℤ a) <ℤ (neg_ℤ c)
to-negation-<-negation a c h = omega (integer, positive_part-negation a, negative_part-negation a, positive_part-negation c, negative_part-negation c)

pub from-negation-<-number : (a c : ℤ) → (neg_ℤ a) <ℤ c
    → negative_part a + negative_part c < positive_part c + positive_part a
from-negation-<-number a c h = omega (integer, positive_part-negation a, negative_part-negation a)

pub to-negation-<-number : (a c : ℤ)
    → negative_part a + negative_part c < positive_part c + positive_part a → (neg_ℤ a) <ℤ c
to-negation-<-number a c h = omega (integer, positive_part-negation a, negative_part-negation a)

pub from-number-<-difference : (a c d : ℤ) → a <ℤ (c -ℤ d)
    → positive_part a + (negative_part c + positive_part d) < (positive_part c + negative_part d) + negative_part a
from-number-<-difference a c d h = omega (integer, minus c d)

pub to-number-<-difference : (a c d : ℤ)
    → positive_part a + (negative_part c + positive_part d) < (positive_part c + negative_part d) + negative_part a → a <ℤ (c -ℤ d)
to-number-<-difference a c d h = omega (integer, minus c d)

pub from-number-<-sum : (a c d : ℤ) → a <ℤ (c +ℤ d)
    → positive_part a + (negative_part c + negative_part d) < (positive_part c + positive_part d) + negative_part a
from-number-<-sum a c d h = omega (integer, plus c d)

pub to-number-<-sum : (a c d : ℤ)
    → positive_part a + (negative_part c + negative_part d) < (positive_part c + positive_part d) + negative_part a → a <ℤ (c +ℤ d)
to-number-<-sum a c d h = omega (integer, plus c d)

pub from-number-<-negation : (a c : ℤ) → a <ℤ (neg_ℤ c)
    → positive_part a + positive_part c < negative_part c + negative_part a
from-number-<-negation a c h = omega (integer, positive_part-negation c, negative_part-negation c)

pub to-number-<-negation : (a c : ℤ)
    → positive_part a + positive_part c < negative_part c + negative_part a → a <ℤ (neg_ℤ c)
to-number-<-negation a c h = omega (integer, positive_part-negation c, negative_part-negation c)

pub from-difference-≡-difference : (a b c d : ℤ) → (a -ℤ b) ≡ (c -ℤ d)
    → (positive_part a + negative_part b) + (negative_part c + positive_part d) ≡ (positive_part c + negative_part d) + (negative_part a + positive_part b)
from-difference-≡-difference a b c d h = omega (integer, minus a b, minus c d)

pub to-difference-≡-difference : (a b c d : ℤ)
    → (positive_part a + negative_part b) + (negative_part c + positive_part d) ≡ (positive_part c + negative_part d) + (negative_part a + positive_part b)
    → (a -ℤ b) ≡ (c -ℤ d)
to-difference-≡-difference a b c d h = omega (integer, minus a b, minus c d)

pub from-difference-≡-sum : (a b c d : ℤ) → (a -ℤ b) ≡ (c +ℤ d)
    → (positive_part a + negative_part b) + (negative_part c + negative_part d) ≡ (positive_part c + positive_part d) + (negative_part a + positive_part b)
from-difference-≡-sum a b c d h = omega (integer, minus a b, plus c d)

pub to-difference-≡-sum : (a b c d : ℤ)
    → (positive_part a + negative_part b) + (negative_part c + negative_part d) ≡ (positive_part c + positive_part d) + (negative_part a + positive_part b)
    → (a -ℤ b) ≡ (c +ℤ d)
to-difference-≡-sum a b c d h = omega (integer, minus a b, plus c d)

pub from-difference-≡-negation : (a b c : ℤ) → (a -ℤ b) ≡ neg_ℤ c
    → (positive_part a + negative_part b) + positive_part c ≡ negative_part c + (negative_part a + positive_part b)
from-difference-≡-negation a b c h = omega (integer, minus a b, positive_part-negation c, negative_part-negation c)

pub to-difference-≡-negation : (a b c : ℤ)
    → (positive_part a + negative_part b) + positive_part c ≡ negative_part c + (negative_part a + positive_part b) → (a -ℤ b) ≡ neg_ℤ c
to-difference-≡-negation a b c h = omega (integer, minus a b, positive_part-negation c, negative_part-negation c)

pub from-difference-≡-number : (a b c : ℤ) → (a -ℤ b) ≡ c
    → (positive_part a + negative_part b) + negative_part c ≡ positive_part c + (negative_part a + positive_part b)
from-difference-≡-number a b c h = omega (integer, minus a b)

pub to-difference-≡-number : (a b c : ℤ)
    → (positive_part a + negative_part b) + negative_part c ≡ positive_part c + (negative_part a + positive_part b) → (a -ℤ b) ≡ c
to-difference-≡-number a b c h = omega (integer, minus a b)

pub from-sum-≡-difference : (a b c d : ℤ) → (a +ℤ b) ≡ (c -ℤ d)
    → (positive_part a + positive_part b) + (negative_part c + positive_part d) ≡ (positive_part c + negative_part d) + (negative_part a + negative_part b)
from-sum-≡-difference a b c d h = omega (integer, plus a b, minus c d)

pub to-sum-≡-difference : (a b c d : ℤ)
    → (positive_part a + positive_part b) + (negative_part c + positive_part d) ≡ (positive_part c + negative_part d) + (negative_part a + negative_part b)
    → (a +ℤ b) ≡ (c -ℤ d)
to-sum-≡-difference a b c d h = omega (integer, plus a b, minus c d)

pub from-sum-≡-sum : (a b c d : ℤ) → (a +ℤ b) ≡ (c +ℤ d)
    → (positive_part a + positive_part b) + (negative_part c + negative_part d) ≡ (positive_part c + positive_part d) + (negative_part a + negative_part b)
from-sum-≡-sum a b c d h = omega (integer, plus a b, plus c d)

pub to-sum-≡-sum : (a b c d : ℤ)
    → (positive_part a + positive_part b) + (negative_part c + negative_part d) ≡ (positive_part c + positive_part d) + (negative_part a + negative_part b)
    → (a +ℤ b) ≡ (c +ℤ d)
to-sum-≡-sum a b c d h = omega (integer, plus a b, plus c d)

pub from-sum-≡-negation : (a b c : ℤ) → (a +ℤ b) ≡ neg_ℤ c
    → (positive_part a + positive_part b) + positive_part c ≡ negative_part c + (negative_part a + negative_part b)
from-sum-≡-negation a b c h = omega (integer, plus a b, positive_part-negation c, negative_part-negation c)

pub to-sum-≡-negation : (a b c : ℤ)
    → (positive_part a + positive_part b) + positive_part c ≡ negative_part c + (negative_part a + negative_part b) → (a +ℤ b) ≡ neg_ℤ c
to-sum-≡-negation a b c h = omega (integer, plus a b, positive_part-negation c, negative_part-negation c)

pub from-sum-≡-number : (a b c : ℤ) → (a +ℤ b) ≡ c
    → (positive_part a + positive_part b) + negative_part c ≡ positive_part c + (negative_part a + negative_part b)
from-sum-≡-number a b c h = omega (integer, plus a b)

pub to-sum-≡-number : (a b c : ℤ)
    → (positive_part a + positive_part b) + negative_part c ≡ positive_part c + (negative_part a + negative_part b) → (a +ℤ b) ≡ c
to-sum-≡-number a b c h = omega (integer, plus a b)

pub from-negation-≡-difference : (a c d : ℤ) → neg_ℤ a ≡ (c -ℤ d)
    → negative_part a + (negative_part c + positive_part d) ≡ (positive_part c + negative_part d) + positive_part a
from-negation-≡-difference a c d h = omega (integer, positive_part-negation a, negative_part-negation a, minus c d)

pub to-negation-≡-difference : (a c d : ℤ)
    → negative_part a + (negative_part c + positive_part d) ≡ (positive_part c + negative_part d) + positive_part a → neg_ℤ a ≡ (c -ℤ d)
to-negation-≡-difference a c d h = omega (integer, positive_part-negation a, negative_part-negation a, minus c d)

pub from-negation-≡-sum : (a c d : ℤ) → neg_ℤ a ≡ (c +ℤ d)
    → negative_part a + (negative_part c + negative_part d) ≡ (positive_part c + positive_part d) + positive_part a
from-negation-≡-sum a c d h = omega (integer, positive_part-negation a, negative_part-negation a, plus c d)

pub to-negation-≡-sum : (a c d : ℤ)
    → negative_part a + (negative_part c + negative_part d) ≡ (positive_part c + positive_part d) + positive_part a → neg_ℤ a ≡ (c +ℤ d)
to-negation-≡-sum a c d h = omega (integer, positive_part-negation a, negative_part-negation a, plus c d)

pub from-negation-≡-negation : (a c : ℤ) → neg_ℤ a ≡ neg_ℤ c
    → negative_part a + positive_part c ≡ negative_part c + positive_part a
from-negation-≡-negation a c h = omega (integer, positive_part-negation a, negative_part-negation a, positive_part-negation c, negative_part-negation c)

pub to-negation-≡-negation : (a c : ℤ)
    → negative_part a + positive_part c ≡ negative_part c + positive_part a → neg_ℤ a ≡ neg_ℤ c
to-negation-≡-negation a c h = omega (integer, positive_part-negation a, negative_part-negation a, positive_part-negation c, negative_part-negation c)

pub from-negation-≡-number : (a c : ℤ) → neg_ℤ a ≡ c
    → negative_part a + negative_part c ≡ positive_part c + positive_part a
from-negation-≡-number a c h = omega (integer, positive_part-negation a, negative_part-negation a)

pub to-negation-≡-number : (a c : ℤ)
    → negative_part a + negative_part c ≡ positive_part c + positive_part a → neg_ℤ a ≡ c
to-negation-≡-number a c h = omega (integer, positive_part-negation a, negative_part-negation a)

pub from-number-≡-difference : (a c d : ℤ) → a ≡ (c -ℤ d)
    → positive_part a + (negative_part c + positive_part d) ≡ (positive_part c + negative_part d) + negative_part a
from-number-≡-difference a c d h = omega (integer, minus c d)

pub to-number-≡-difference : (a c d : ℤ)
    → positive_part a + (negative_part c + positive_part d) ≡ (positive_part c + negative_part d) + negative_part a → a ≡ (c -ℤ d)
to-number-≡-difference a c d h = omega (integer, minus c d)

pub from-number-≡-sum : (a c d : ℤ) → a ≡ (c +ℤ d)
    → positive_part a + (negative_part c + negative_part d) ≡ (positive_part c + positive_part d) + negative_part a
from-number-≡-sum a c d h = omega (integer, plus c d)

pub to-number-≡-sum : (a c d : ℤ)
    → positive_part a + (negative_part c + negative_part d) ≡ (positive_part c + positive_part d) + negative_part a → a ≡ (c +ℤ d)
to-number-≡-sum a c d h = omega (integer, plus c d)

pub from-number-≡-negation : (a c : ℤ) → a ≡ neg_ℤ c
    → positive_part a + positive_part c ≡ negative_part c + negative_part a
from-number-≡-negation a c h = omega (integer, positive_part-negation c, negative_part-negation c)

pub to-number-≡-negation : (a c : ℤ)
    → positive_part a + positive_part c ≡ negative_part c + negative_part a → a ≡ neg_ℤ c
to-number-≡-negation a c h = omega (integer, positive_part-negation c, negative_part-negation c)

pub ruleset linear = (
  arith,
  from-difference-≤-difference,
  from-difference-≤-sum,
  from-difference-≤-negation,
  from-difference-≤-number,
  from-sum-≤-difference,
  from-sum-≤-sum,
  from-sum-≤-negation,
  from-sum-≤-number,
  from-negation-≤-difference,
  from-negation-≤-sum,
  from-negation-≤-negation,
  from-negation-≤-number,
  from-number-≤-difference,
  from-number-≤-sum,
  from-number-≤-negation,
  from-difference-<-difference,
  from-difference-<-sum,
  from-difference-<-negation,
  from-difference-<-number,
  from-sum-<-difference,
  from-sum-<-sum,
  from-sum-<-negation,
  from-sum-<-number,
  from-negation-<-difference,
  from-negation-<-sum,
  from-negation-<-negation,
  from-negation-<-number,
  from-number-<-difference,
  from-number-<-sum,
  from-number-<-negation,
  from-difference-≡-difference,
  from-difference-≡-sum,
  from-difference-≡-negation,
  from-difference-≡-number,
  from-sum-≡-difference,
  from-sum-≡-sum,
  from-sum-≡-negation,
  from-sum-≡-number,
  from-negation-≡-difference,
  from-negation-≡-sum,
  from-negation-≡-negation,
  from-negation-≡-number,
  from-number-≡-difference,
  from-number-≡-sum,
  from-number-≡-negation,
  from-≤ℤ,
  from-<ℤ,
  from-≡ℤ,
  to-difference-≤-difference,
  to-difference-≤-sum,
  to-difference-≤-negation,
  to-difference-≤-number,
  to-sum-≤-difference,
  to-sum-≤-sum,
  to-sum-≤-negation,
  to-sum-≤-number,
  to-negation-≤-difference,
  to-negation-≤-sum,
  to-negation-≤-negation,
  to-negation-≤-number,
  to-number-≤-difference,
  to-number-≤-sum,
  to-number-≤-negation,
  to-difference-<-difference,
  to-difference-<-sum,
  to-difference-<-negation,
  to-difference-<-number,
  to-sum-<-difference,
  to-sum-<-sum,
  to-sum-<-negation,
  to-sum-<-number,
  to-negation-<-difference,
  to-negation-<-sum,
  to-negation-<-negation,
  to-negation-<-number,
  to-number-<-difference,
  to-number-<-sum,
  to-number-<-negation,
  to-difference-≡-difference,
  to-difference-≡-sum,
  to-difference-≡-negation,
  to-difference-≡-number,
  to-sum-≡-difference,
  to-sum-≡-sum,
  to-sum-≡-negation,
  to-sum-≡-number,
  to-negation-≡-difference,
  to-negation-≡-sum,
  to-negation-≡-negation,
  to-negation-≡-number,
  to-number-≡-difference,
  to-number-≡-sum,
  to-number-≡-negation,
  to-≤ℤ,
  to-<ℤ,
  to-≡ℤ,
)
