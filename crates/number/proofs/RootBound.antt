-- A power of 2 above the root of a number, by the library's logarithm.
use mathlib.Core.Path.{◌≡◌}
use Prim.Native.Nat.{ℕ, suc, ◌+◌, ◌*◌, ◌/◌, ◌^◌, ◌≤◌, ◌<◌}
use native.Mathlib.Nat.{pow-suc, pow-le-pow_right}
use native.Mathlib.Omega.{arith}
use lib.Pow.{pow-add}
use Rattle.std.specs.Prelude.{Option as Answer, Some, None, IfNone, IfSome}
use Rattle.std.specs.Option.{unwrap_or}
use Rattle.meaning.specs.Machine.{past_u32}

-- 2^h, where the number is below 2^(k+1), and h is k/2+1
squared : (n k : ℕ) → k < 64 → n < 2 * 2 ^ k → let c : ℕ = 2 ^ (k / 2 + 1) in (1 ≤ c) × (c ≤ past_u32) × (n < c * c)
squared n k few high =
    let h : ℕ = k / 2 + 1 in
    let some : 1 ≤ h = omega arith in
    let few-too : h ≤ 32 = omega arith in
    let longer : suc k ≤ h + h = omega arith in
    let two : 0 < 2 = omega arith in
    let least : 2 ^ 1 ≤ 2 ^ h = pow-le-pow_right two some in
    let most : 2 ^ h ≤ 2 ^ 32 = pow-le-pow_right two few-too in
    let next : 2 ^ suc k ≡ 2 ^ k * 2 = pow-suc 2 k in
    let wide : 2 ^ suc k ≤ 2 ^ (h + h) = pow-le-pow_right two longer in
    let both : 2 ^ (h + h) ≡ 2 ^ h * 2 ^ h = pow-add 2 h h in
    (omega (arith, least), omega (arith, most), omega (arith, next, wide, both, high))

-- the bound that the code has
pub bound_above : (n : ℕ) (log : Answer ℕ) → IfNone log (n ≡ 0) → IfSome log (λ k. n < 2 * 2 ^ k) → IfSome log (λ k. k < 64)
    → let c : ℕ = 2 ^ (unwrap_or log 0 / 2 + 1) in (1 ≤ c) × (c ≤ past_u32) × (n < c * c)
bound_above n None none high few = squared n 0 (omega arith) (omega (arith, none))
bound_above n (Some k) none high few = squared n k few high
