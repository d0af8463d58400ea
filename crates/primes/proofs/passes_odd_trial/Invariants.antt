-- d is a multiple of 30, and no number from 256 on and below d that has no factor 2, 3 or 5 divides n.
use mathlib.Core.Path.{◌≡◌}
use mathlib.Core.Logic.{◌≢◌}
use Prim.Native.Nat.{ℕ, ◌%◌, ◌≤◌, ◌<◌}
use Rattle.primes.specs.Table.{table_end}
use Rattle.primes.proofs.PrimeTable.{Tried}
use Rattle.primes.proofs.passes_odd_trial.Given as goal

abbrev pub invariant-loop-d : goal.invariant-loop-d
invariant-loop-d l = (l.d % 30 ≡ 0) × ((k : ℕ) → table_end ≤ k → Tried k → k < l.d → l.n % k ≢ 0)
