-- Every number above 1 has a prime divisor, the least of its divisors above 1: so trying primes up to the square root proves a prime.
use mathlib.Core.Path.{◌≡◌}
use mathlib.Core.Logic.{◌≢◌}
use Prim.Native.Nat.{ℕ, zero, suc, ◌+◌, ◌-◌, ◌*◌, ◌%◌, ◌≤◌, ◌<◌, ◌∣◌}
use native.Mathlib.Omega.{arith}
use native.Mathlib.Decide.{ℕ_discrete}
use native.Mathlib.Nat.{dvd_refl, dvd_trans, le_of_dvd, dvd_of_mod-eq-zero, mod-eq-zero_of_dvd, mul-le-mul}
use Rattle.algebra.specs.Prime.{Prime}
use Rattle.algebra.proofs.Prime.{prime-by-trial, prime-by-roots}

-- none below d divides n: d is tried, and then what is left, m more
least : (m n d : ℕ) → d + m ≡ n → 1 < d → ((e : ℕ) → 1 < e → e < d → n % e ≢ 0) → (q : ℕ) × Prime q × (q ∣ n)
least zero n d l h none = (n, prime-by-trial n (omega arith) (λ e k j. none e k (omega arith)), dvd_refl n)
least (suc m) n d l h none = elim (ℕ_discrete (n % d) 0) [
  | yes e ↦
      let v : d ∣ n = dvd_of_mod-eq-zero d e in
      (d, prime-by-trial d h (λ f k j z. none f k j (mod-eq-zero_of_dvd f (dvd_trans f (dvd_of_mod-eq-zero f z) v))), v)
  | no e ↦ least m n (suc d) (omega arith) (omega arith) (λ f k j z. elim (ℕ_discrete f d) [
    | yes s ↦ e (rw s at z)
    | no s ↦ none f k (omega arith) z
  ])
]

pub prime-divisor : (n : ℕ) → 1 < n → (q : ℕ) × Prime q × (q ∣ n)
prime-divisor n h = least (n - 2) n 2 (omega arith) (omega arith) (λ e k j. absurd (omega arith))

pub prime-by-prime-roots : (n : ℕ) → 1 < n → ((q : ℕ) → Prime q → q * q ≤ n → n % q ≢ 0) → Prime n
prime-by-prime-roots n h t = prime-by-roots n h (λ d l s e.
    let w = prime-divisor d l in
    let q = w.0 in
    let k : q ≤ d = le_of_dvd (omega arith) w.2 in
    t q w.1 (omega (arith, mul-le-mul k k)) (mod-eq-zero_of_dvd q (dvd_trans q w.2 (dvd_of_mod-eq-zero d e))))
