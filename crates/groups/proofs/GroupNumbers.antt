-- What the numbers of a digit group give: the power of the top digit and B lie below c = b ^ k, and so does b.
use mathlib.Core.Path.{◌≡◌, ap, ◌∙◌}
use Prim.Native.Nat.{ℕ, suc, ◌-◌, ◌*◌, ◌^◌, ◌≤◌, ◌<◌}
use native.Mathlib.Omega.{arith}
use native.Mathlib.Nat.{pow-succ', one-le-pow, mul-le-mul_right, le-mul_of_pos_right}
use Rattle.meaning.specs.Known.{top_part}
use Rattle.algebra.proofs.Digits.{less_one}
use Rattle.meaning.specs.Gadget.Sign.{sign_shift}
use Rattle.number.specs.Bounded.{Bounded}
use Rattle.number.proofs.Bounded.{bounded-negation}
use Rattle.groups.specs.Cells.{GroupOf, power_bound}
use Rattle.groups.proofs.Whole.{pos-bounded}

module _ {b k : ℕ} (g : GroupOf b k) where
  split : b ^ k ≡ b * b ^ (k - 1)
  split =
      let less : k ≡ suc (k - 1) = omega (arith, g.some-digit) in
      ap (λ n. b ^ n) less ∙ pow-succ' b (k - 1)

  positive : 1 ≤ b ^ (k - 1)
  positive = one-le-pow (k - 1) b (omega (arith, g.base))

  pub base-most : b ≤ b ^ k
  base-most = omega (arith, split, le-mul_of_pos_right b positive)

  pub top-power-most : b ^ (k - 1) ≤ b ^ k
  top-power-most = omega (arith, split, mul-le-mul_right (b ^ (k - 1)) g.base)

  pub top_below : top_part b k < b ^ k
  unfolding top_part
  top_below = omega (arith, split, positive, less_one b (b ^ (k - 1)) (omega (arith, g.base)), top-power-most)

  pub shift-bounded : Bounded power_bound (sign_shift b k)
  unfolding sign_shift
  shift-bounded = bounded-negation (pos-bounded (top_part b k) power_bound (omega (arith, top_below, g.small)))
