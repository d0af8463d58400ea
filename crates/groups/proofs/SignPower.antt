-- The power below c = b ^ k: c / b is b ^ (k - 1), and the rest of c is B.
use mathlib.Core.Path.{◌≡◌, ap, ◌∙◌}
use Prim.Native.Nat.{ℕ, zero, suc, ◌-◌, ◌*◌, ◌/◌, ◌^◌, ◌≤◌, ◌<◌}
use native.Mathlib.Omega.{arith}
use native.Mathlib.Nat.{pow-succ', mul_comm, mul-div_cancel_left}
use lib.IntN.{pos, neg_ℤ}
use Rattle.meaning.specs.Known.{top_part}
use Rattle.meaning.specs.Gadget.Sign.{sign_shift}
use Rattle.algebra.proofs.Digits.{less_one}

module _ (b k c : ℕ) (base : zero < b) (some-digit : 1 ≤ k) (power : c ≡ b ^ k) where
  split : c ≡ b * b ^ (k - 1)
  split = power ∙ ap (λ n. b ^ n) less ∙ pow-succ' b (k - 1)
    where
      less : k ≡ suc (k - 1)
      less = omega arith

  pub part-power : c / b ≡ b ^ (k - 1)
  part-power = ap (λ n. n / b) split ∙ mul-div_cancel_left (b ^ (k - 1)) base

  pub rest-top : c - c / b ≡ top_part b k
  unfolding top_part
  rest-top = rw (part-power, split, mul_comm b (b ^ (k - 1))) (less_one b (b ^ (k - 1)) base)

  pub rest-shift : neg_ℤ (pos (c - c / b)) ≡ sign_shift b k
  unfolding sign_shift
  rest-shift = ap (λ n. neg_ℤ (pos n)) rest-top
