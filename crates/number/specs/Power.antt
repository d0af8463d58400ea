-- b ^ k where it is at most the cap.
use Rattle.std.specs.Prelude.{cond, ℕ, ◌^◌, leb, Option, Some, None}

unfoldable pub capped_power : (b k cap : ℕ) → Option ℕ
capped_power b k cap = cond (leb (b ^ k) cap) (Some (b ^ k)) None
