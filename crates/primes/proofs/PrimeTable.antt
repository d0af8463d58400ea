-- The table holds exactly the primes below 256. The checker computes two tests, each once: every entry is 2 or an odd prime, and
-- below 256, and every number below 256 that is 2 or an odd prime is an entry.
use mathlib.Core.Path.{◌≡◌, refl, sym}
use mathlib.Core.Bool.{Bool, true, false, not, ◌&&◌, ◌||◌}
use mathlib.Core.List.{List, [], ◌∷◌}
use mathlib.Core.Logic.{⊎_elim, ◌≢◌}
use Prim.Native.Nat.{ℕ, zero, suc, ◌+◌, ◌-◌, ◌*◌, ◌%◌, ◌≤◌, ◌<◌}
use native.Mathlib.Omega.{arith}
use native.Mathlib.Decide.{ℕ_discrete, dec_lt}
use native.Mathlib.Nat.{zero-add}
use lib.Dec.{T, eqb, ltb, eqb→eq, ltb→lt}
use borrow.Author.Tests.{eqb-true, eqb-false}
use Rattle.meaning.specs.Number.{no_divisor, odd_prime}
use Rattle.meaning.proofs.Number.{odd-prime}
use Rattle.algebra.specs.Prime.{Prime}
use Rattle.algebra.proofs.Test.{≡-test, left, right, not-false, either, every, every_below, every_below-at}
use Rattle.algebra.proofs.Prime.{prime-by-trial, prime-no-remainder}
use Rattle.std.specs.List.{All, list_any}
use Rattle.meaning.specs.Machine.{past_u16, past_u32}
use lib.ListN.{length, get_or}
use Rattle.primes.specs.Table.{primes, wheel, table_end}
use Rattle.algebra.proofs.PrimeDivisor.{prime-by-prime-roots}
use Rattle.primes.proofs.OddPrime.{odd-prime-passes, odd-prime-fails}

-- ---- what a search of a list says

abbrev listed : ℕ → List ℕ → Bool
listed q xs = list_any (λ x. eqb x q) xs

neither : (b c : Bool) → b || c ≡ false → (b ≡ false) × (c ≡ false)
neither true c h = let z : ◌≡◌ {A = ℕ} 0 1 = cc in absurd (omega arith)
neither false c h = (refl, h)

-- an entry passes the test that was found to pass, and the one that every entry passes
entry-at : (e p : ℕ → Bool) (x : ℕ) (xs : List ℕ) (b : Bool) → p x ≡ b → T (every e (x ∷ xs)) → b || list_any p xs ≡ true
    → (list_any p xs ≡ true → (q : ℕ) × T (e q) × (p q ≡ true)) → (q : ℕ) × T (e q) × (p q ≡ true)
entry-at e p x xs true is t found later = (x, left (e x) (every e xs) t, is)
entry-at e p x xs false is t found later = later found

entry : (e p : ℕ → Bool) (xs : List ℕ) → T (every e xs) → list_any p xs ≡ true → (q : ℕ) × T (e q) × (p q ≡ true)
entry e p [] t found = let z : ◌≡◌ {A = ℕ} 0 1 = cc in absurd (omega arith)
entry e p (x ∷ xs) t found = entry-at e p x xs (p x) refl t found (entry e p xs (right (e x) (every e xs) t))

-- and where none passes, no number of the list does
no_entry : (p : ℕ → Bool) (xs : List ℕ) → list_any p xs ≡ false → (q : ℕ) → T (listed q xs) → p q ≡ false
no_entry p [] none q t = absurd t
no_entry p (x ∷ xs) none q t =
    let both = neither (p x) (list_any p xs) none in
    ⊎_elim (λ s. rw (eqb→eq x q s) at both.0) (no_entry p xs both.1 q) (either (eqb x q) (listed q xs) t)

-- and each entry passes the test that every entry passes
each-entry : (e : ℕ → Bool) (xs : List ℕ) → T (every e xs) → (k d : ℕ) → k < length xs → T (e (get_or xs k d))
each-entry e [] t k d h = absurd (omega arith)
each-entry e (x ∷ xs) t zero d h = left (e x) (every e xs) t
each-entry e (x ∷ xs) t (suc k) d h = each-entry e xs (right (e x) (every e xs) t) k d (omega arith)

-- ---- the two tests

is_prime : ℕ → Bool
is_prime n = eqb n 2 || odd_prime n

entry-test : ℕ → Bool
entry-test q = is_prime q && ltb q table_end

listed-test : ℕ → Bool
listed-test q = not (is_prime q) || listed q primes

entries-right : T (every entry-test primes)
unfolding entry-test is_prime odd_prime no_divisor
entries-right = tt

primes-listed : T (every_below listed-test table_end)
unfolding listed-test is_prime odd_prime no_divisor
primes-listed = tt

two-prime : Prime 2
two-prime = prime-by-trial 2 (omega arith) (λ d h k. absurd (omega arith))

test-prime : (n : ℕ) → T (is_prime n) → Prime n
unfolding is_prime
test-prime n t = ⊎_elim (λ s. rw (eqb→eq n 2 s) two-prime) (λ s. (odd-prime n s).prime) (either (eqb n 2) (odd_prime n) t)

prime-test : (n : ℕ) → Prime n → is_prime n ≡ true
unfolding is_prime
prime-test n P = elim (ℕ_discrete n 2) [
  | yes e ↦ rw e
  | no e ↦ rw (← odd-prime-passes n (omega (arith, P.above-one)) P) (or-true (eqb n 2))
]
  where
    or-true : (b : Bool) → (b || true) ≡ true
    or-true true = refl
    or-true false = refl

prime-listed : (q : ℕ) → Prime q → q < table_end → T (listed q primes)
unfolding listed-test
prime-listed q P h =
    let t : T (listed-test q) = every_below-at listed-test table_end primes-listed q h in
    rw (prime-test q P) at t

-- a prime of the table that passes a test
table-entry : (p : ℕ → Bool) → list_any p primes ≡ true → (q : ℕ) × Prime q × (q < table_end) × (p q ≡ true)
unfolding entry-test
table-entry p found =
    let w = entry entry-test p primes entries-right found in
    let q = w.0 in
    (q, test-prime q (left (is_prime q) (ltb q table_end) w.1), ltb→lt q table_end (right (is_prime q) (ltb q table_end) w.1), w.2)

-- with an entry added, a short number stays short, whatever table it is of
abbrev pub step-test : ℕ → Bool
step-test s = ltb 0 s && ltb s table_end

pub steps_short : (d : ℕ) (xs : List ℕ) → d < past_u16 → every step-test xs ≡ true → All (λ s. (0 < s) × (d + s < past_u32)) xs
steps_short d xs h steps k e l =
    let s = get_or xs k e in
    let t = each-entry step-test xs (≡-test (every step-test xs) steps) k e l in
    (ltb→lt 0 s (left (ltb 0 s) (ltb s table_end) t), omega (arith, ltb→lt s table_end (right (ltb 0 s) (ltb s table_end) t)))

-- ---- the same as the check applies them

-- a number from 3 on and below 256 is an odd prime exactly where the table has it
pub table_decides : (n : ℕ) (r : Bool) → 3 ≤ n → n < table_end → r ≡ list_any (λ x. eqb x n) primes → r ≡ odd_prime n
table_decides n true h l is =
    let w = table-entry (λ x. eqb x n) (sym is) in
    odd-prime-passes n h (rw (eqb-true w.0 n w.3) at w.1)
table_decides n false h l is = sym (not-false (odd_prime n) (λ t. none (prime-listed n (odd-prime n t).prime l)))
  where
    none : T (listed n primes) → ⊥
    none t = rw (sym is) at t

-- a prime of the table that divides n is not n itself
pub table_divides : (n : ℕ) → table_end ≤ n → list_any (λ q. eqb (n % (0 + q)) 0) primes ≡ true → false ≡ odd_prime n
table_divides n h found =
    let w = table-entry (λ q. eqb (n % (0 + q)) 0) found in
    odd-prime-fails n w.0 w.1.above-one (omega (arith, w.2)) (rw zero-add at (eqb-true (n % (0 + w.0)) 0 w.3))

-- ---- the trial by the table and by the odd numbers above it

-- d has no factor 2, 3 or 5
abbrev pub Tried : ℕ → Type 0
Tried d = (d % 2 ≢ 0) × (d % 3 ≢ 0) × (d % 5 ≢ 0)

pub prime-by-table : (n : ℕ) → 3 ≤ n → list_any (λ q. eqb (n % (0 + q)) 0) primes ≡ false
    → ((d : ℕ) → table_end ≤ d → Tried d → d * d ≤ n → n % d ≢ 0) → Prime n
prime-by-table n l none t = prime-by-prime-roots n (omega arith) try
  where
    try : (q : ℕ) → Prime q → q * q ≤ n → n % q ≢ 0
    try q P s e = elim (dec_lt q table_end) [
      | yes h ↦ eqb-false (n % (0 + q)) 0 (no_entry (λ q. eqb (n % (0 + q)) 0) primes none q (prime-listed q P h)) (rw zero-add e)
      | no h ↦
          let free : (d : ℕ) → 1 < d → d < table_end → q % d ≢ 0 = λ d l k. prime-no-remainder q P d l (omega arith) in
          t q (omega arith) (free 2 (omega arith) (omega arith), free 3 (omega arith) (omega arith), free 5 (omega arith) (omega arith)) s e
    ]

-- ---- the wheel

turn-test : ℕ → Bool
turn-test s = ltb 0 s && ltb s 30

steps-right : T (every turn-test wheel)
unfolding turn-test
steps-right = tt

-- a step of the wheel at which a number is divided
pub wheel-entry : (n d : ℕ) → list_any (λ s. eqb (n % (d + s)) 0) wheel ≡ true → (s : ℕ) × (0 < s) × (s < 30) × (n % (d + s) ≡ 0)
unfolding turn-test
wheel-entry n d found =
    let w = entry turn-test (λ s. eqb (n % (d + s)) 0) wheel steps-right found in
    let s = w.0 in
    (s, ltb→lt 0 s (left (ltb 0 s) (ltb s 30) w.1), ltb→lt s 30 (right (ltb 0 s) (ltb s 30) w.1), eqb-true (n % (d + s)) 0 w.2)

wheel-test : ℕ → Bool
wheel-test r = eqb (r % 2) 0 || (eqb (r % 3) 0 || (eqb (r % 5) 0 || listed r wheel))

wheel-right : T (every_below wheel-test 30)
unfolding wheel-test
wheel-right = tt

-- past a multiple m of 30, a number without these factors is m and a step of the wheel
on-wheel : (m k : ℕ) → m % 30 ≡ 0 → m ≤ k → k < m + 30 → Tried k → T (listed (k - m) wheel)
unfolding wheel-test
on-wheel m k e h l free =
    let r : ℕ = k - m in
    let t : T (wheel-test r) = every_below-at wheel-test 30 wheel-right r (omega arith) in
    ⊎_elim (λ s. absurd (free.0 (omega (arith, eqb→eq (r % 2) 0 s)))) (λ t₂.
    ⊎_elim (λ s. absurd (free.1 (omega (arith, eqb→eq (r % 3) 0 s)))) (λ t₃.
    ⊎_elim (λ s. absurd (free.2 (omega (arith, eqb→eq (r % 5) 0 s)))) (λ t₄. t₄)
    (either (eqb (r % 5) 0) (listed r wheel) t₃))
    (either (eqb (r % 3) 0) (eqb (r % 5) 0 || listed r wheel) t₂))
    (either (eqb (r % 2) 0) (eqb (r % 3) 0 || (eqb (r % 5) 0 || listed r wheel)) t)

-- so that none of the next 30 numbers divides n where no step of the wheel does
pub wheel-none : (n d k : ℕ) → list_any (λ s. eqb (n % (d + s)) 0) wheel ≡ false → d % 30 ≡ 0 → d ≤ k → k < d + 30 → Tried k → n % k ≢ 0
wheel-none n d k none e h l free =
    let there : d + (k - d) ≡ k = omega arith in
    rw there at (eqb-false (n % (d + (k - d))) 0 (no_entry (λ s. eqb (n % (d + s)) 0) wheel none (k - d) (on-wheel d k e h l free)))
