-- A signed number by its size, as code finds it: what its text is below 0 and from 0 on.
use mathlib.Core.Path.{◌≡◌, sym, ◌∙◌}
use mathlib.Core.Bool.{Bool, true, false}
use mathlib.Core.List.{◌∷◌}
use Prim.Native.Nat.{ℕ, ◌+◌, ◌<◌}
use native.Mathlib.Omega.{arith}
use lib.IntN.{ℤ, pos}
use lib.Signed.{mag, lt_z}
use mir.Syntax.{w64}
use mir.Val.{SFits}
use Rattle.meaning.specs.Machine.{past_i64}
use Rattle.meaning.specs.Text.{decimal_of, number_text}
use Rattle.meaning.proofs.Decimal.{number-plain, number-signed}
use Rattle.number.proofs.Word.{below-zero, from_zero}

module _ (z : ℤ) {size : ℕ} (sized : size ≡ mag z) {below : Bool} (tested : below ≡ lt_z z (pos 0)) where
  pub signed_text : below ≡ true → number_text z ≡ 45 ∷ decimal_of (size + 1)
  signed_text t = rw sized (number-signed z (below-zero z (sym tested ∙ t)).1)

  pub plain_text : below ≡ false → number_text z ≡ decimal_of size
  plain_text t = rw sized (number-plain z (from_zero z (sym tested ∙ t)))

pub size_most : {z : ℤ} {size : ℕ} → SFits w64 z → size ≡ mag z → size < past_i64
size_most fits sized = omega (arith, sized, fits.sfits)
