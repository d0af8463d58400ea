-- Prime numbers.
use Rattle.std.specs.Prelude.{ℕ, ◌<◌}
use Rattle.std.specs.Int.{◌∣◌}

pub record Prime (p : ℕ) : Type 0 where
  pub above-one : 1 < p
  pub no-divisor : (d : ℕ) → 1 < d → d < p → ¬ (d ∣ p)
