-- A bound on the absolute value of a whole number, by which callers say that a result fits a machine word.
use Rattle.std.specs.Prelude.{ℕ, ◌≤◌, ℤ, nat_abs}

pub record Bounded (bound : ℕ) (z : ℤ) : Type 0 where
  pub size : nat_abs z ≤ bound
