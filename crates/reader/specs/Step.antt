-- What one line does to what is known, and how the code's answer is read as it.
use Rattle.std.specs.Prelude.{◌≡◌, Result, Ok, Err, ℕ, ◌≤◌, ◌<◌, List, length, get_or, drop, set}
use Rattle.std.proofs.Math.Option.{Option, none, some}
use Rattle.meaning.specs.Line.{Line}
use Rattle.meaning.specs.Known.{Known}
use Rattle.meaning.specs.Meaning.{after}
use Rattle.meaning.specs.Refusal.{on_some, rules, first_broken, value_limit}
use Rattle.reader.specs.State.{known_of, state_of, Ordered}
use Rattle.rules.specs.Ready.{BoundedEnds, greatest}
use Rattle.rules.specs.declared.ends.Ends.{Ends}
use Rattle.refusal.specs.declared.refused.Refusal.{Refusal}
use Rattle.refusal.specs.Refusal.{number_of}
use Rattle.reader.specs.declared.counts.Counts.{Counts}
use Rattle.reader.specs.declared.state.State.{State}

-- the refusal of a line, or what is known after it
pub data Step : Type 0 where
  stops : (number : ℕ) → Step
  goes : Known → Step

-- line n, with what is known before it
unfoldable pub step_of : ℕ → Known → Line → Step
step_of n s l = on_some (first_broken rules n s l) stops (goes (after s l))

-- the same of bytes that spell a line or none
unfoldable pub step_option : ℕ → Known → Option Line → Step
step_option n s none = stops 3
step_option n s (some l) = step_of n s l

abbrev pub step_meaning : State → Result Unit Refusal → (places : List ℕ) → Step
step_meaning after (Ok done) places = goes (state_of after places)
step_meaning after (Err broken) places = stops (number_of broken)

-- the cells of the values after a line: its own first cell stands behind them, and counts where the line makes a value
unfoldable pub placed_at : Counts → List ℕ → List ℕ
placed_at c places = set places c.values c.cells.0

-- what a line leaves of the state: all of it where the line is refused, and else what stands in the array past the values, of which there is then room
abbrev pub Left : Result Unit Refusal → State → State → Type 0
Left (Ok done) before after = (after.counts.values ≤ value_limit) × (drop after.counts.values after.ends ≡ drop after.counts.values before.ends)
Left (Err broken) before after = after ≡ before

-- and p, that the known ends are small, and that they stay in order. What the array has for the values is in the state that `step_meaning` reads, so
-- that the two say all of it
pub record Stepped (r : Result Unit Refusal) (before after : State) : Type 0 where
  pub prime : after.p ≡ before.p
  pub long : length after.ends ≡ length before.ends
  pub left : Left r before after
  pub sized : (i : ℕ) (d : Ends) → i < after.counts.values → BoundedEnds greatest (get_or after.ends i d)
  pub ordered : Ordered (known_of before) → Ordered (known_of after)
