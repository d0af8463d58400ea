-- The cells of the sign: the digits of x + B, then f and w by the top digit.
use mathlib.Core.Path.{◌≡◌, refl}
use mathlib.Core.Logic.{◌≢◌}
use mathlib.Core.List.{List, [], ◌∷◌, ◌++◌}
use Prim.Native.Nat.{ℕ, ◌-◌, ◌/◌, ◌%◌, ◌^◌, ◌≤◌}
use native.Mathlib.Omega.{arith}
use lib.IntN.{ℤ, pos, nat_abs, ◌-ℤ◌}
use lib.ListN.{length, drop, set}
use Rattle.algebra.specs.Congruence.{remainder, inverse}
use Rattle.algebra.specs.Digits.{digits}
use Rattle.algebra.proofs.Test.{false-eqb}
use Rattle.meaning.specs.Gadget.Digits.{group_cells}
use Rattle.meaning.specs.Gadget.Sign.{sign_shift, sign_top, sign_cells}
use Rattle.groups.specs.Cells.{flag_cells}

pub two-written : (x y : ℕ) (l : List ℕ) → 2 ≤ length l → set (set l 0 x) 1 y ≡ x ∷ y ∷ drop 2 l
two-written x y [] h = absurd (omega arith)
two-written x y (a ∷ []) h = absurd (omega arith)
two-written x y (a ∷ (b ∷ l)) h = refl

module _ (p : ℕ) {t : ℕ} where
  pub flag-zero : t ≡ 0 → 1 ∷ 0 ∷ [] ≡ flag_cells p t
  unfolding flag_cells
  flag-zero e = rw e refl

  pub flag-other : {w : ℕ} → t ≢ 0 → w ≡ inverse p t → 0 ∷ w ∷ [] ≡ flag_cells p t
  unfolding flag_cells
  flag-other n e = rw (false-eqb t 0 n, ← e) refl

pub sign-cells-are : (p b k : ℕ) (x : ℤ) (n : ℕ) → n ≡ nat_abs (x -ℤ sign_shift b k)
    → digits b k n ++ flag_cells p (remainder p (pos (n / b ^ (k - 1) % b) -ℤ pos (b - 1))) ≡ sign_cells p b k x
unfolding sign_cells sign_top group_cells flag_cells
sign-cells-are p b k x n e = rw e refl
