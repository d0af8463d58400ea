-- The known primes are prime: each passes the test that was computed over the list of them, and what passes it has no divisor up to its root.
use mathlib.Core.Bool.{◌&&◌}
use Prim.Native.Nat.{ℕ, ◌^◌, ◌≤◌, ◌<◌}
use native.Mathlib.Omega.{arith}
use native.Mathlib.Decide.{dec_lt}
use native.Mathlib.Nat.{mul-le-mul}
use lib.Dec.{T, ltb, ltb→lt}
use Rattle.algebra.specs.Prime.{Prime}
use Rattle.algebra.proofs.Test.{left, right}
use Rattle.algebra.proofs.Prime.{prime-by-roots}
use Rattle.meaning.specs.Number.{no_divisor}
use Rattle.meaning.proofs.Number.{no_divisor-all}
use Rattle.known_primes.specs.Known.{known_primes, OneOf}
use Rattle.known_primes.proofs.Known.{every_one, tried, root-test, known-right}

root-prime : (n : ℕ) → T (root-test n) → Prime n
unfolding root-test
root-prime n t =
    let u = right (ltb 1 n) (ltb n (2 ^ 32) && no_divisor n tried) t in
    let h : n < 2 ^ 32 = ltb→lt n (2 ^ 32) (left (ltb n (2 ^ 32)) (no_divisor n tried) u) in
    prime-by-roots n (ltb→lt 1 n (left (ltb 1 n) (ltb n (2 ^ 32) && no_divisor n tried) t)) (λ d l s. elim (dec_lt d 65537) [
      | yes k ↦ no_divisor-all n tried (right (ltb n (2 ^ 32)) (no_divisor n tried) u) d l (omega arith)
      | no k ↦ let m : 65537 ≤ d = omega arith in absurd (omega (arith, mul-le-mul m m))
    ])

pub known-prime : (n : ℕ) → OneOf n known_primes → Prime n
known-prime n o = root-prime n (every_one root-test n known_primes known-right o)
