-- d is a multiple of 30, and no number from 256 on and below d that has no factor 2, 3 or 5 divides n.
use mathlib.Core.Logic.{◌≢◌}
use mathlib.Core.Path.{◌≡◌, sym, ◌∙◌}
use mathlib.Core.Bool.{true}
use Prim.Native.Nat.{ℕ, suc, ◌+◌, ◌*◌, ◌%◌, ◌≤◌, ◌<◌}
use native.Mathlib.Omega.{arith}
use native.Mathlib.Decide.{dec_lt}
use native.Mathlib.Nat.{mul-le-mul}
use borrow.Author.Rules.{rules}
use Rattle.std.specs.List.{list_any}
use lib.Dec.{eqb}
use Rattle.primes.specs.Table.{table_end, wheel}
use Rattle.meaning.specs.Machine.{past_u16}
use Rattle.meaning.specs.Number.{odd_prime}
use Rattle.algebra.proofs.Root.{root-square, root-next}
use Rattle.primes.proofs.OddPrime.{odd-prime-passes, odd-prime-fails}
use Rattle.primes.proofs.PrimeTable.{Tried, prime-by-table, steps_short, wheel-entry, wheel-none}
use Rattle.primes.proofs.passes_odd_trial.Goals as goal
use Rattle.primes.proofs.passes_odd_trial.Goals.{After-square_root-root, Else-has_divisor}

-- ---- the root

square : (c : After-square_root-root) → c.square_root-root.result * c.square_root-root.result ≤ c.args.n
square c = rw (c.square_root-root.ensures, c.from.ensures) (root-square c.args.n)

next : (c : After-square_root-root) → c.args.n < suc c.square_root-root.result * suc c.square_root-root.result
next c = rw (c.square_root-root.ensures, c.from.ensures) (root-next c.args.n)

-- the root of a u32 is below 2 ^ 16
short : (c : After-square_root-root) → c.square_root-root.result < past_u16
short c = elim (dec_lt c.square_root-root.result past_u16) [
  | yes h ↦ h
  | no h ↦ let m : past_u16 ≤ c.square_root-root.result = omega arith in absurd (omega (arith, mul-le-mul m m, square c))
]

pub overflow_cast-root : goal.overflow_cast-root
overflow_cast-root c = search (rules, short c)

pub has_divisor-requires : goal.has_divisor-requires
has_divisor-requires c =
    let small : c.loop-d.d < past_u16 = omega (arith, short (goal.at.has_divisor-requires c).After-square_root-root) in
    search (steps_short, small)

-- a number of the turn is far below n, whose root is above 240
below : (d s root n : ℕ) → 240 ≤ d → d < root → s < 30 → root * root ≤ n → d + s < n
below d s root n h l k q = let m : 2 * root ≤ root * root = mul-le-mul (omega arith) (omega arith) in omega (arith, m, q)

pub returns-then-has_divisor : goal.returns-then-has_divisor
returns-then-has_divisor c =
    let now = c.loop-d in
    let is : c.has_divisor.result ≡ list_any (λ s. eqb (c.args.n % (now.d + s)) 0) wheel = search (rules, c.has_divisor.ensures) in
    let w = wheel-entry c.args.n now.d (sym is ∙ c.if-has_divisor.true) in
    odd-prime-fails _ _ (omega (arith, w.1)) (below now.d w.0 c.square_root-root.result _ now.auto.d c.loop-d-test.true w.2 (square (goal.at.returns-then-has_divisor c).After-square_root-root)) w.3

-- a turn after which no number up to the next multiple of 30 divides n
turned : (c : Else-has_divisor) → (k : ℕ) → table_end ≤ k → Tried k → k < c.loop-d.d + 30 → c.args.n % k ≢ 0
turned c k h t l = elim (dec_lt k c.loop-d.d) [
  | yes e ↦ c.loop-d.invariant.1 k h t e
  | no e ↦
      let is : c.has_divisor.result ≡ list_any (λ s. eqb (c.args.n % (c.loop-d.d + s)) 0) wheel = search (rules, c.has_divisor.ensures) in
      wheel-none c.args.n c.loop-d.d k (sym is ∙ c.if-has_divisor.false) c.loop-d.invariant.0 (omega arith) l t
]

pub loop-d-preserved : goal.loop-d-preserved
loop-d-preserved c = (omega arith, turned (goal.at.loop-d-preserved c).Else-has_divisor)

-- the end is the root or above, and each number to try whose square is at most n is below it
passed : (c : After-square_root-root) (end : ℕ) → c.square_root-root.result ≤ end → end % 30 ≡ 0
    → ((k : ℕ) → table_end ≤ k → Tried k → k < end → c.args.n % k ≢ 0) → true ≡ odd_prime c.args.n
passed c end high even none =
    let n = c.args.n in
    let under : (k : ℕ) → Tried k → k * k ≤ n → k < end = λ k t l. elim (dec_lt k end) [
      | yes h ↦ h
      | no h ↦
          let odd = t.0 in
          let m : suc c.square_root-root.result ≤ k = omega (arith, even) in
          absurd (omega (arith, mul-le-mul m m, next c))
    ] in
    odd-prime-passes n c.requires.0 (prime-by-table n c.requires.0 c.requires.1 (λ k h t l. none k h t (under k t l)))

pub returns : goal.returns
returns c = passed (goal.at.returns c).After-square_root-root c.loop-d.d c.loop-d-test.false c.loop-d.invariant.0 c.loop-d.invariant.1

pub returns-else-has_divisor : goal.returns-else-has_divisor
returns-else-has_divisor c =
    passed (goal.at.returns-else-has_divisor c).After-square_root-root (c.loop-d.d + 30) (omega arith) (omega arith) (turned (goal.at.returns-else-has_divisor c).Else-has_divisor)
