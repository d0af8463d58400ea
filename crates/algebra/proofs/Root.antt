-- The floor of the square root: square_root n is the one y with y · y at most n and (y + 1) · (y + 1) above n.
use mathlib.Core.Path.{◌≡◌, ap}
use mathlib.Core.Bool.{Bool, true, false}
use Prim.Native.Nat.{ℕ, zero, suc, ◌*◌, ◌≤◌, ◌<◌}
use native.Mathlib.Omega.{arith}
use native.Mathlib.Decide.{dec_le}
use native.Mathlib.Nat.{mul-le-mul}
use lib.Dec.{leb, le→leb}
use Rattle.algebra.specs.Root.{root_up_to, square_root}
use Rattle.algebra.proofs.Test.{test-≡, false-leb}

-- one step of the search: it ends at suc m exactly where the square of suc m is at most n
step : (m n : ℕ) → (suc m * suc m ≤ n → root_up_to (suc m) n ≡ suc m) × (n < suc m * suc m → root_up_to (suc m) n ≡ root_up_to m n)
unfolding root_up_to
step m n =
    let choose : Bool → ℕ = λ b. elim b [ true ↦ suc m | false ↦ root_up_to m n ] in
    (λ l. ap choose (test-≡ (leb (suc m * suc m) n) (le→leb (suc m * suc m) n l)), λ l. ap choose (false-leb (suc m * suc m) n l))

up_to-square : (m n : ℕ) → root_up_to m n * root_up_to m n ≤ n
unfolding root_up_to
up_to-square zero n = omega arith
up_to-square (suc m) n = elim (dec_le (suc m * suc m) n)
    [ yes l ↦ rw ((step m n).0 l) l | no l ↦ rw ((step m n).1 (omega arith)) (up_to-square m n) ]

-- what is above the search's start is above the root too
up_to-next : (m n : ℕ) → n < suc m * suc m → n < suc (root_up_to m n) * suc (root_up_to m n)
unfolding root_up_to
up_to-next zero n h = omega arith
up_to-next (suc m) n h = elim (dec_le (suc m * suc m) n)
    [ yes l ↦ rw ((step m n).0 l) h | no l ↦ rw ((step m n).1 (omega arith)) (up_to-next m n (omega arith)) ]

up_to-bound : (m n : ℕ) → root_up_to m n ≤ m
unfolding root_up_to
up_to-bound zero n = omega arith
up_to-bound (suc m) n = elim (dec_le (suc m * suc m) n)
    [ yes l ↦ omega (arith, (step m n).0 l) | no l ↦ omega (arith, (step m n).1 (omega arith), up_to-bound m n) ]

pub root-square : (n : ℕ) → square_root n * square_root n ≤ n
unfolding square_root
root-square n = up_to-square _ n

pub root-next : (n : ℕ) → n < suc (square_root n) * suc (square_root n)
unfolding square_root
root-next n = up_to-next _ n (omega arith)

pub root_below : (n : ℕ) → square_root n ≤ n
unfolding square_root
root_below n = up_to-bound n n

-- of two candidates neither is the greater: its square would be at least the other's next square
not-greater : (n y z : ℕ) → y * y ≤ n → n < suc z * suc z → y ≤ z
not-greater n y z h k = elim (dec_le y z)
    [ yes l ↦ l | no l ↦ let m : suc z ≤ y = omega arith in absurd (omega (arith, mul-le-mul m m)) ]

pub root-unique : (n y : ℕ) → y * y ≤ n → n < suc y * suc y → y ≡ square_root n
root-unique n y h k =
    omega (arith, not-greater n y (square_root n) h (root-next n), not-greater n (square_root n) y (root-square n) k)
