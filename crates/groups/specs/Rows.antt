-- How the answer of a check of rows is read, and what a remainder in a machine word stands for.
use Rattle.std.specs.Prelude.{◌≡◌, Bool, List, ℕ, ◌<◌, Result, Ok, Err}
use Rattle.std.proofs.Math.Option.{Option, none, some}
use Rattle.meaning.specs.Number.{remainder}
use Rattle.meaning.specs.Row.{Form, eval}
use Rattle.meaning.specs.Reply.{Reply, reply, first_fail, refusal_at}

-- no refusal, or refusal 15 at the first row that fails
abbrev pub rows_meaning : Result (Unit {0}) ℕ → Option Reply
rows_meaning (Ok _) = none
rows_meaning (Err i) = some (reply 15 i)

-- refusal 15 at the first of some rows that fails the test, where one does; places count from n
abbrev pub first_refusal : {A : Type 0} → (A → Bool) → ℕ → List A → Option Reply
first_refusal f n xs = refusal_at 15 (first_fail f n xs)

-- the first that fails among some rows and later ones
unfoldable pub first_of : {A : Type 0} → Option A → Option A → Option A
first_of none later = later
first_of (some i) later = some i

-- in the table t, the form leaves the remainder r modulo p
pub record Leaves (p : ℕ) (t : List ℕ) (r : ℕ) (f : Form) : Type 0 where
  pub below : r < p
  pub is : r ≡ remainder p (eval t f)
