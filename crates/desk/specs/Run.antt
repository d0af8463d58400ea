-- Runs of the code: calls of a desk, one after another, each with the desk after it and its reply. All that is said of what a call gave is
-- `Answers`, which `Desk::call` ensures, so every run of the program is one of these.
use Rattle.std.specs.Prelude.{List, [], ◌∷◌, Result}
use Rattle.meaning.specs.Desk.{Call}
use Rattle.refusal.specs.declared.refused.Refused.{Refused}
use Rattle.desk.specs.declared.Desk.{Desk}
use Rattle.desk.specs.Desk.{Answers}

pub data Run : Desk → Type 0 where
  no_call : (d : Desk) → Run d
  then : (d : Desk) (c : Call) (after : Desk) (r : Result (Unit {0}) Refused) → Answers d c after r → Run after → Run d

-- what was asked, in order
unfoldable pub calls_of : {d : Desk} → Run d → List Call
calls_of (no_call d) = []
calls_of (then d c after r h run) = c ∷ calls_of run

-- what was replied, in order
unfoldable pub replies_of : {d : Desk} → Run d → List (Result (Unit {0}) Refused)
replies_of (no_call d) = []
replies_of (then d c after r h run) = r ∷ replies_of run

-- the desk after all of them
unfoldable pub desk_of : {d : Desk} → Run d → Desk
desk_of (no_call d) = d
desk_of (then d c after r h run) = desk_of run
