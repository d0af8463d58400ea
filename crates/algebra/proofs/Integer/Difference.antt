-- Ring identities over ℤ of low degree, by way of ℕ: every integer is difference a b, which stands for a − b, and the set `push` carries
-- the operations of ℤ inside it, where `omega` multiplies products of natural numbers out. An identity over the variables x and y is
--     rw (as-difference x, as-difference y) (simp push (omega (arith, difference-≡)))
-- The limit is 64 monomials, each integer counting as two natural numbers: past it use `Ring`.
use mathlib.Core.Path.{◌≡◌, ap}
use Prim.Native.Nat.{ℕ, zero, suc, ◌+◌, ◌*◌}
use native.Mathlib.Omega.{arith}
use lib.IntN.{ℤ, pos, negsuc, neg_ℤ, ◌+ℤ◌, ◌*ℤ◌, sub_ℕ}
use Rattle.algebra.proofs.Integer.Order.{positive_part, negative_part, plus, times, positive_part-negation, negative_part-negation}
use Rattle.algebra.proofs.Integer.Order.{subℕ-parts, integer}

-- a copy of sub_ℕ that stays shut, so that `simp` sees it
pub difference : ℕ → ℕ → ℤ
difference a b = sub_ℕ a b

pub difference-parts : (a b : ℕ) → positive_part (difference a b) + b ≡ negative_part (difference a b) + a
unfolding difference
difference-parts a b = subℕ-parts a b

pub as-difference : (z : ℤ) → z ≡ difference (positive_part z) (negative_part z)
as-difference z = omega (integer, difference-parts (positive_part z) (negative_part z))

pub difference-pos : (n : ℕ) → pos n ≡ difference n zero
difference-pos n = omega (integer, difference-parts n zero)

pub difference-negsuc : (n : ℕ) → negsuc n ≡ difference zero (suc n)
difference-negsuc n = omega (integer, difference-parts zero (suc n))

pub difference-+ : (a b c d : ℕ) → difference a b +ℤ difference c d ≡ difference (a + c) (b + d)
difference-+ a b c d =
    omega (integer, plus (difference a b) (difference c d), difference-parts a b, difference-parts c d, difference-parts (a + c) (b + d))

pub difference-negation : (a b : ℕ) → neg_ℤ (difference a b) ≡ difference b a
difference-negation a b =
    let z : ℤ = difference a b in
    omega (integer, positive_part-negation z, negative_part-negation z, difference-parts a b, difference-parts b a)

-- the parts of the product, with the parts of each factor multiplied by the other
pub difference-* : (a b c d : ℕ) → difference a b *ℤ difference c d ≡ difference (a * c + b * d) (a * d + b * c)
difference-* a b c d =
    let x : ℤ = difference a b in
    let y : ℤ = difference c d in
    omega (
      integer,
      times x y,
      difference-parts (a * c + b * d) (a * d + b * c),
      ap (λ (n : ℕ). n * positive_part y) (difference-parts a b),
      ap (λ (n : ℕ). n * negative_part y) (difference-parts a b),
      ap (λ (n : ℕ). a * n) (difference-parts c d),
      ap (λ (n : ℕ). b * n) (difference-parts c d),
    )

pub difference-≡ : (a b c d : ℕ) → a + d ≡ c + b → difference a b ≡ difference c d
difference-≡ a b c d h = omega (integer, difference-parts a b, difference-parts c d)

pub ruleset push = (difference-+, difference-negation, difference-*, difference-pos, difference-negsuc)

-- two laws that the library of integers does not have
pub *ℤ-assoc : (a b c : ℤ) → (a *ℤ b) *ℤ c ≡ a *ℤ (b *ℤ c)
*ℤ-assoc a b c = rw (as-difference a, as-difference b, as-difference c) (simp push (omega (arith, difference-≡)))

pub *ℤ-+ℤ : (a b c : ℤ) → a *ℤ (b +ℤ c) ≡ a *ℤ b +ℤ a *ℤ c
*ℤ-+ℤ a b c = rw (as-difference a, as-difference b, as-difference c) (simp push (omega (arith, difference-≡)))
