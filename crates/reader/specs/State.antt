-- What is known before a line, as the code holds it: the counts, and the ends of the values in an array with room for 256, of which the first ones
-- count. The cells of the values are asked for by no rule, and reading does not keep them: in what is said of the code they are any list of that
-- length (`places`).
use Rattle.std.specs.Prelude.{◌≡◌, List, [], ◌∷◌, ℕ, ◌≤◌, ◌<◌, length, get_or, map, take, ◌≤ℤ◌}
use Rattle.meaning.specs.Known.{Known}
use Rattle.meaning.specs.Known.{Ends as KnownEnds}
use Rattle.meaning.specs.Refusal.{value_limit}
use Rattle.rules.specs.Ready.{BoundedEnds, greatest}
use Rattle.rules.specs.Yield.{ends_meaning}
use Rattle.rules.specs.declared.ends.Ends.{Ends}
use Rattle.reader.specs.Size.{Few}
use Rattle.reader.specs.declared.state.State.{State}

-- the ends of the values so far, as they are known
abbrev pub known_of : State → List KnownEnds
known_of st = map ends_meaning (take st.counts.values st.ends)

abbrev pub state_of : State → (places : List ℕ) → Known
state_of st places = record {
  p = st.p;
  known = known_of st;
  places = take st.counts.values places;
  inputs = st.counts.inputs;
  cells = st.counts.cells.0;
  rows = st.counts.rows;
}

-- a state that a line is read over: few counts, and the ends that count are small
pub record WithinLimits (st : State) : Type 0 where
  pub p-low : 3 ≤ st.p
  pub p-high : st.p ≤ greatest
  pub long : length st.ends ≡ value_limit
  pub few : Few st.counts
  pub sized : (i : ℕ) (d : Ends) → i < st.counts.values → BoundedEnds greatest (get_or st.ends i d)

-- each value's lowest end is not above its highest. FORMAT 5.1
abbrev pub Ordered : List KnownEnds → Type 0
Ordered [] = Unit {0}
Ordered (e ∷ es) = (e.E ≤ℤ e.F) × Ordered es
