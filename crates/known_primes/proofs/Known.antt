-- The checker computes one test over the list of the known primes: no number up to their roots divides them.
use mathlib.Core.Bool.{Bool, true, ◌&&◌}
use mathlib.Core.List.{List, [], ◌∷◌}
use mathlib.Core.Logic.{⊎_elim}
use Prim.Native.Nat.{ℕ, ◌^◌}
use lib.Dec.{T, ltb}
use Rattle.algebra.proofs.Test.{left, right, every}
use Rattle.meaning.specs.Number.{no_divisor}
use Rattle.known_primes.specs.Known.{known_primes, OneOf}

pub every_one : (f : ℕ → Bool) (n : ℕ) (xs : List ℕ) → T (every f xs) → OneOf n xs → T (f n)
every_one f n [] t o = absurd o
every_one f n (x ∷ []) t o = rw o (left (f x) true t)
every_one f n (x ∷ y ∷ ys) t o =
    ⊎_elim (λ e. rw e (left (f x) (every f (y ∷ ys)) t)) (every_one f n (y ∷ ys) (right (f x) (every f (y ∷ ys)) t)) o

-- how many numbers are tried, from 2 on
abbrev pub tried : ℕ
tried = 65535

-- no number up to 2^16 divides n, and the root of n is not above that
unfoldable pub root-test : ℕ → Bool
root-test n = ltb 1 n && (ltb n (2 ^ 32) && no_divisor n tried)

pub known-right : T (every root-test known_primes)
unfolding root-test no_divisor
known-right = tt
