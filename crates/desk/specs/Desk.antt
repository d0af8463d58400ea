-- How a desk of the code, and what a call gave, are read as those of the definitions; and what a call does to the counts, in plain words.
use Rattle.std.specs.Prelude.{◌+◌, ◌≡◌, ◌⊎◌, ◌≢◌, Result}
use Rattle.meaning.specs.Desk.{counted, fresh_desk, called, desk_answer, Call, check_of}
use Rattle.meaning.specs.Desk.{Desk as MeantDesk, Called as MeantCalled}
use Rattle.refusal.specs.declared.refused.Refused.{Refused}
use Rattle.service.specs.Reply.{reply_meaning, number_returned}
use Rattle.desk.specs.declared.Desk.{Desk}

abbrev pub desk_meaning : Desk → MeantDesk
desk_meaning d = counted d.heard d.accepted d.refused

-- the desk after a call, and the call's reply
abbrev pub called_meaning : Desk → Result (Unit {0}) Refused → MeantCalled
called_meaning after r = called (desk_meaning after) (reply_meaning r)

-- a fresh desk, as `Desk::fresh` promises it: three counts, all 0. FORMAT 9.11
abbrev pub Fresh : Desk → Type 0
Fresh d = desk_meaning d ≡ fresh_desk

-- what a call of this desk gave is what the definitions give, for every desk, list and table. FORMAT 9.1, 9.2, 9.12
abbrev pub Answers : Desk → Call → (after : Desk) → Result (Unit {0}) Refused → Type 0
Answers d c after r = called_meaning after r ≡ desk_answer (desk_meaning d) (check_of c)

-- the counts of a desk agree. FORMAT 9.13
abbrev pub Agrees : Desk → Type 0
Agrees d = d.heard ≡ d.accepted + d.refused

-- a call that is counted: heard and exactly one of the others are one more, accepted where the reply is 0. FORMAT 9.12
pub record CountsOne (d after : Desk) (r : Result (Unit {0}) Refused) : Type 0 where
  pub agrees : Agrees after
  pub heard : after.heard ≡ d.heard + 1
  pub one-other : ((number_returned r ≡ 0) × (after.accepted ≡ d.accepted + 1) × (after.refused ≡ d.refused))
      ⊎ ((number_returned r ≢ 0) × (after.accepted ≡ d.accepted) × (after.refused ≡ d.refused + 1))
