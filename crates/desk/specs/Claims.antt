-- What is claimed of the code, as types: after any number of calls the counts still mean what they say.
use Rattle.std.specs.Prelude.{◌<◌, ◌^◌, ◌≡◌, not, List, map, length, Result, Err}
use Rattle.meaning.specs.Desk.{full_count, Call, check_of}
use Rattle.meaning.specs.Claims.{how_many, passes}
use Rattle.service.specs.Reply.{reply_meaning}
use Rattle.refusal.specs.declared.refused.Refusal.TheVariants.{DeskFull}
use Rattle.refusal.specs.declared.refused.Refused.{Refused}
use Rattle.desk.specs.declared.Desk.{Desk}
use Rattle.desk.specs.Desk.{Fresh, Agrees}
use Rattle.desk.specs.Run.{Run, calls_of, replies_of, desk_of}

-- from a fresh desk, up to the full count: each count is the number of such calls, and each call is answered by its check. FORMAT 9.14
abbrev pub CodeCounts : Type 0
CodeCounts =
    (d : Desk) (run : Run d) → Fresh d → length (calls_of run) < 2 ^ 64 →
    Agrees (desk_of run)
    × ((desk_of run).heard ≡ length (calls_of run))
    × ((desk_of run).accepted ≡ how_many passes (calls_of run))
    × ((desk_of run).refused ≡ how_many (λ c. not (passes c)) (calls_of run))
    × (map reply_meaning (replies_of run) ≡ map check_of (calls_of run))

-- every list of calls has a run from every desk: the claims are not empty
abbrev pub EveryListRuns : Type 0
EveryListRuns = (d : Desk) (calls : List Call) → (run : Run d) × (calls_of run ≡ calls)

-- the reply of a full desk. FORMAT 10.20
abbrev pub full_reply : Call → Result (Unit {0}) Refused
full_reply c = Err (record { refusal = DeskFull; place = 0 })

-- at the full count: every further call is refused 20, 0 and nothing moves. FORMAT 9.15
abbrev pub CodeStaysFull : Type 0
CodeStaysFull =
    (d : Desk) (run : Run d) → Agrees d → d.heard ≡ full_count →
    (desk_of run ≡ d) × (replies_of run ≡ map full_reply (calls_of run))
