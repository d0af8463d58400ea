-- A tab and a number as they are written: a single digit at once, a sign and then its digits, and any other number after the tab.
use mathlib.Core.Path.{◌≡◌, sym, ap, subst, ◌∙◌}
use mathlib.Core.Bool.{true, ◌&&◌}
use mathlib.Core.List.{List, [], ◌∷◌}
use Prim.Native.Nat.{ℕ, ◌+◌, ◌≤◌, ◌<◌}
use native.Mathlib.Omega.{arith}
use lib.Dec.{ltb}
use lib.ListN.{length, set}
use lib.IntN.{ℤ, nat_abs}
use lib.Signed.{non_neg}
use Rattle.meaning.specs.Text.{decimal_of, number_text}
use Rattle.meaning.proofs.Decimal.{decimal-short}
use Rattle.output.specs.Written.{Written}
use Rattle.output.proofs.Writing.{Halves, nothing_written, written_byte}
use Rattle.given_lines.proofs.Digits.{below-limit, plain-number}

module _ (z : ℤ) (before : List ℕ) (room : length (9 ∷ number_text z) ≤ length before) where
  pub tab-written : Written (9 ∷ []) before (set before 0 9) 1
  tab-written = written_byte 9 (nothing_written before) (omega arith)

  -- a single digit
  module _ (single : (non_neg z && ltb (nat_abs z) 10) ≡ true) {size : ℕ} (sized : size ≡ nat_abs z) where
    digit : number_text z ≡ (48 + size) ∷ []
    digit =
        let below = below-limit z 10 single in
        plain-number z below.0 ∙ ap decimal_of (sym sized) ∙ decimal-short size (omega (arith, below.1))

    pub digit_room : 2 ≤ length before
    digit_room = omega (arith, ap length digit)

    pub digit-written : Written (9 ∷ number_text z) before (set (set before 0 9) 1 (48 + size)) 2
    digit-written =
        let two = digit_room in
        subst (λ (ds : List ℕ). Written (9 ∷ ds) before (set (set before 0 9) 1 (48 + size)) 2) (sym digit) (written_byte (48 + size) tab-written (omega arith))

-- a sign, and then the digits
module _ (z : ℤ) (before : List ℕ) (room : length (number_text z) ≤ length before) (size : ℕ) (is : number_text z ≡ 45 ∷ decimal_of size) where
  pub sign-room : 0 < length before
  sign-room = omega (arith, ap length is)

  pub sign-written : Written (45 ∷ []) before (set before 0 45) 1
  sign-written = written_byte 45 (nothing_written before) (omega (arith, sign-room))

  pub sign-halves : Halves (number_text z) (45 ∷ []) (decimal_of size) before
  sign-halves = record { parts = sym is; room = room }
