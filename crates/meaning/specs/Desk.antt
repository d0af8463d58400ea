-- The desk: three counts, and a check that is counted; clauses 9.11 to 9.15 of docs/FORMAT.md. It counts what a check replies and does not look
-- at how it was found.
use Rattle.std.specs.Prelude.{ℕ, suc, ◌+◌, ◌-◌, ◌^◌, Bool, cond, List, [], ◌∷◌, map, eqb}
use Rattle.meaning.specs.Reply.{Reply, reply, check_reply}

-- what a desk keeps. FORMAT 9.11
pub record Desk : Type 0 where
  pub heard : ℕ
  pub accepted : ℕ
  pub refused : ℕ

abbrev pub counted : (heard accepted refused : ℕ) → Desk
counted h a r = record { heard = h; accepted = a; refused = r }

-- each count is 0. FORMAT 9.11
unfoldable pub fresh_desk : Desk
fresh_desk = counted 0 0 0

-- the full count. FORMAT 9.15
unfoldable pub full_count : ℕ
full_count = 2 ^ 64 - 1

-- the number alone tells it. FORMAT 9.3
unfoldable pub is_accepted : Reply → Bool
is_accepted r = eqb r.number 0

-- heard and one other count are one more. FORMAT 9.12
unfoldable pub raised : Desk → Reply → Desk
raised d r =
    cond (is_accepted r) (counted (suc d.heard) (suc d.accepted) d.refused) (counted (suc d.heard) d.accepted (suc d.refused))

-- the desk after a call, and the reply. FORMAT 9.12
pub record Called : Type 0 where
  pub desk : Desk
  pub answer : Reply

abbrev pub called : Desk → Reply → Called
called d r = record { desk = d; answer = r }

-- 19 and 20 come before all and leave the desk as it is; else what the check replies is counted. FORMAT 9.12, 9.13, 10.19, 10.20, 13.8
unfoldable pub desk_answer : Desk → (checked : Reply) → Called
desk_answer d checked =
    cond (eqb d.heard (d.accepted + d.refused))
    (cond (eqb d.heard full_count) (called d (reply 20 0)) (called (raised d checked) checked))
    (called d (reply 19 0))

-- ---- a call

-- what a call is given beside the desk. FORMAT 9.12
pub record Call : Type 0 where
  pub list : List ℕ
  pub table : List ℕ

abbrev pub call_of : (list table : List ℕ) → Call
call_of list table = record { list = list; table = table }

-- what a call's check replies. FORMAT 9.6
unfoldable pub check_of : Call → Reply
check_of c = check_reply c.list c.table

-- a call with its list and table. FORMAT 9.12
abbrev pub desk_call : Desk → (list table : List ℕ) → Called
desk_call d list table = desk_answer d (check_of (call_of list table))

-- ---- a list of calls, by what their checks reply

-- the desk after them. FORMAT 9.14
unfoldable pub desk_over : Desk → (checked : List Reply) → Desk
desk_over d [] = d
desk_over d (r ∷ rs) = desk_over (desk_answer d r).desk rs

-- what it answers to them. FORMAT 9.12
unfoldable pub answers_over : Desk → (checked : List Reply) → List Reply
answers_over d [] = []
answers_over d (r ∷ rs) = (desk_answer d r).answer ∷ answers_over (desk_answer d r).desk rs

-- the same of calls with their lists and tables. FORMAT 9.14
abbrev pub desk_after : Desk → List Call → Desk
desk_after d calls = desk_over d (map check_of calls)

-- the replies to calls, in order. FORMAT 9.14
abbrev pub desk_replies : Desk → List Call → List Reply
desk_replies d calls = answers_over d (map check_of calls)
