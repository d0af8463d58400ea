-- The test `odd_prime` of meaning, from what is known of a number: a prime from 3 on passes, and a divisor makes it fail.
use mathlib.Core.Path.{◌≡◌, sym}
use mathlib.Core.Bool.{true, false, not}
use mathlib.Core.Logic.{◌≢◌}
use Prim.Native.Nat.{ℕ, zero, suc, ◌-◌, ◌%◌, ◌≤◌, ◌<◌}
use native.Mathlib.Omega.{arith}
use lib.Dec.{T, eqb, leb}
use Rattle.meaning.specs.Number.{no_divisor, odd_prime}
use Rattle.meaning.proofs.Number.{odd-prime}
use Rattle.algebra.specs.Prime.{Prime}
use Rattle.algebra.proofs.Test.{both, test-≡, not-false, false-test, false-eqb, leb-iff}
use Rattle.algebra.proofs.Prime.{prime-no-remainder}

no-divisor : (n k : ℕ) → ((d : ℕ) → 1 < d → d ≤ suc k → n % d ≢ 0) → T (no_divisor n k)
unfolding no_divisor
no-divisor n zero h = tt
no-divisor n (suc k) h = both (not (eqb (n % suc (suc k)) 0)) (no_divisor n k)
    (false-test (eqb (n % suc (suc k)) 0) (false-eqb (n % suc (suc k)) 0 (h (suc (suc k)) (omega arith) (omega arith))))
    (no-divisor n k (λ d l u. h d l (omega arith)))

pub odd-prime-passes : (n : ℕ) → 3 ≤ n → Prime n → true ≡ odd_prime n
unfolding odd_prime
odd-prime-passes n h P = sym (test-≡ (odd_prime n) (both (leb 3 n) (no_divisor n (n - 2)) ((leb-iff 3 n).1 h)
    (no-divisor n (n - 2) (λ d l u. prime-no-remainder n P d l (omega arith)))))

pub odd-prime-fails : (n d : ℕ) → 1 < d → d < n → n % d ≡ 0 → false ≡ odd_prime n
odd-prime-fails n d l u e = sym (not-false (odd_prime n) (λ t. prime-no-remainder n (odd-prime n t).prime d l u e))

pub odd-prime-low : (n : ℕ) → n < 3 → false ≡ odd_prime n
odd-prime-low n h = sym (not-false (odd_prime n) (λ t. let l = (odd-prime n t).three in omega arith))
