-- Whole numbers in a machine word. A signed local holds bits, so a use of x reads `to_z w64 (of_z w64 x)`: `back` takes the bits away
-- where x fits. What fits is said by the two parts of an integer, as algebra has them, so that `omega` decides it.
use mathlib.Core.Path.{◌≡◌, refl}
use mathlib.Core.Bool.{true, false, not}
use Prim.Native.Nat.{ℕ, suc, ◌+◌, ◌-◌, ◌*◌, ◌≤◌, ◌<◌}
use native.Mathlib.Omega.{arith}
use native.Mathlib.Nat.{mul-le-mul}
use lib.IntN.{ℤ, pos, negsuc}
use lib.Signed.{mag, lt_z, non_neg, ◌≤ℤ◌, ◌<ℤ◌, lt_z_no}
use borrow.Author.Tests.{le-ltb}
use mir.Syntax.{w64}
use mir.Val.{Fits, SFits, to_z, of_z}
use mir.ValLaws.{to_z-of_z, to_z_pos}
use Rattle.meaning.specs.Machine.{past_u32, past_i64}
use Rattle.algebra.proofs.Test.{≡-test, false-test}
use Rattle.algebra.specs.Root.{square_root}
use Rattle.algebra.proofs.Root.{root-unique}
use Rattle.algebra.proofs.Integer.Order.{positive_part, negative_part, integer}

-- ---- bits

pub back : {z : ℤ} → SFits w64 z → to_z w64 (of_z w64 z) ≡ z
back {z} f = to_z-of_z w64 z f

-- bits below 2 ^ 63 are that number
pub small : (n : ℕ) → n < past_i64 → to_z w64 n ≡ pos n
small n h = to_z_pos w64 n h

-- ---- what fits, by the two parts

pub parts-fit : (z : ℤ) → positive_part z < negative_part z + past_i64 → negative_part z ≤ positive_part z + past_i64 → SFits w64 z
parts-fit (pos n) h k = record { sfits = omega arith }
parts-fit (negsuc n) h k = record { sfits = omega arith }

-- ---- the test z < 0: what is known by it

pub below-zero : (z : ℤ) → lt_z z (pos 0) ≡ true → (positive_part z ≡ 0) × (negative_part z ≡ suc (mag z))
below-zero (pos n) e = let h : pos n <ℤ pos 0 = record { lt = ≡-test (lt_z (pos n) (pos 0)) e } in absurd (omega integer)
below-zero (negsuc n) e = (refl, refl)

pub from_zero : (z : ℤ) → lt_z z (pos 0) ≡ false → z ≡ pos (mag z)
from_zero (pos n) e = refl
from_zero (negsuc n) e = let h : pos 0 ≤ℤ negsuc n = lt_z_no (false-test (lt_z (negsuc n) (pos 0)) e) in absurd (omega integer)

pub not-below-zero : (z : ℤ) → non_neg z ≡ not (lt_z z (pos 0))
not-below-zero (pos n) = rw (le-ltb n 0 (omega arith))
not-below-zero (negsuc n) = refl

-- ---- unsigned words

-- the product of two u32 in a u64
pub wide-product : {a b : ℕ} → a < past_u32 → b < past_u32 → Fits w64 (a * b)
wide-product {a} {b} h k =
    let l : a ≤ past_u32 - 1 = omega arith in
    let m : b ≤ past_u32 - 1 = omega arith in
    record { fits = omega (arith, mul-le-mul l m) }

-- ---- the root, where it lies from low on and below the next number

pub root_between : (n low high : ℕ) → low < high → high ≤ low + 1 → low * low ≤ n → n < high * high → low ≡ square_root n
root_between n low high a b c d = let e : high ≡ suc low = omega arith in root-unique n low c (rw (← e) d)
