-- The state that the lent ends are: how many values it has, and the ends of each that a line names.
use mathlib.Core.Path.{◌≡◌}
use mathlib.Core.List.{List}
use Prim.Native.Nat.{ℕ}
use lib.ListN.{length}
use Rattle.std.proofs.lemmas.List.{length-map}
use Rattle.meaning.specs.Known.{Known, ends_of}
use Rattle.rules.specs.Ready.{Represented, ends_at}
use Rattle.rules.specs.Yield.{ends_meaning}
use Rattle.rules.specs.declared.ends.Ends.{Ends as ReadEnds}

module _ {s : Known} {p cells : ℕ} {known : List ReadEnds} (meaning : Represented s p cells known) where
  pub known-count : length s.known ≡ length known
  known-count = rw meaning.known (length-map known ends_meaning)

  pub known-ends : (v : ℕ) → ends_of s v ≡ ends_at known v
  unfolding ends_of
  known-ends v = rw meaning.known
