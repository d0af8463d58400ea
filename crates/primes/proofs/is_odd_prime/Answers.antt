-- A prime that is known passes. Below 256 the table decides. Else a divisor from the table does, and where there is none the trial by odd numbers.
use mathlib.Core.Path.{◌≡◌, sym, ◌∙◌}
use mathlib.Core.Bool.{true, false}
use Prim.Native.Nat.{ℕ, ◌+◌, ◌%◌, ◌<◌}
use native.Mathlib.Omega.{arith}
use lib.Dec.{eqb}
use borrow.Author.Rules.{rules}
use Rattle.std.specs.List.{list_any}
use Rattle.primes.specs.Table.{primes}
use Rattle.meaning.specs.Machine.{past_u16}
use Rattle.primes.proofs.OddPrime.{odd-prime-passes, odd-prime-low}
use Rattle.primes.proofs.PrimeTable.{steps_short, table_divides}
use Rattle.known_primes.proofs.KnownPrime.{known-prime}
use Rattle.primes.proofs.is_odd_prime.Goals.{in-998244353, in_default}
use Rattle.primes.proofs.is_odd_prime.Goals as goal

pub returns-then-n-lt3 : goal.returns-then-n-lt3
returns-then-n-lt3 c = odd-prime-low _ (omega arith)

pub returns-then-matches : goal.returns-then-matches
returns-then-matches c =
    elim c.match-matches.branch [
      | in-998244353 w ↦ odd-prime-passes _ (omega arith) (known-prime _ w.in-998244353.is)
      | in_default w ↦ let turned : false ≡ true = sym w.matches-is ∙ c.if-matches.true in let z : ◌≡◌ {A = ℕ} 0 1 = cc in absurd (omega arith)
    ]

pub has_divisor-requires : goal.has_divisor-requires
has_divisor-requires c = let short : 0 < past_u16 = omega arith in search (steps_short, short)

pub returns-else-not-has_divisor : goal.returns-else-not-has_divisor
returns-else-not-has_divisor c =
    let is : c.has_divisor.result ≡ list_any (λ q. eqb (c.args.n % (0 + q)) 0) primes = search (rules, c.has_divisor.ensures) in
    rw c.if-not-has_divisor.false (table_divides c.args.n (omega arith) (sym is ∙ c.if-not-has_divisor.false))
