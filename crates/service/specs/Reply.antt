-- How a reply of the code is read as one of the definitions, and what `check` and `make` promise of theirs. The contracts in src/checking.rt
-- and src/making.rt are these very names, so that the claims of Claims.antt speak of what the code keeps.
use Rattle.std.specs.Prelude.{◌≡◌, List, ℕ, ℤ, Result, Ok, Err}
use Rattle.meaning.specs.Reply.{reply, check_reply, make_reply}
use Rattle.meaning.specs.Reply.{Reply as Meant}
use Rattle.refusal.specs.declared.refused.Refused.{Refused}
use Rattle.refusal.specs.Refusal.{refused_reply}

-- 0, 0 where a table is accepted or made, else the number and the place of its refusal. FORMAT 9.3
abbrev pub reply_meaning : Result (Unit {0}) Refused → Meant
reply_meaning (Ok _) = reply 0 0
reply_meaning (Err r) = refused_reply r

-- the number that the call returns over the C ABI. FORMAT 9.18
abbrev pub number_returned : Result (Unit {0}) Refused → ℕ
number_returned r = (reply_meaning r).number

-- what `check` promises of its reply, for every list and table. FORMAT 9.1, 9.2, 9.6
abbrev pub Checks : (list table : List ℕ) → Result (Unit {0}) Refused → Type 0
Checks list table r = reply_meaning r ≡ check_reply list table

-- what `make` promises of its reply and of the table afterwards, for every list, column and table. FORMAT 9.1, 9.2, 9.7, 9.8
pub record Makes (list : List ℕ) (inputs : List ℤ) (table : List ℕ) (r : Result (Unit {0}) Refused) (after : List ℕ) : Type 0 where
  pub replied : reply_meaning r ≡ (make_reply list inputs table).answer
  pub left : after ≡ (make_reply list inputs table).table
