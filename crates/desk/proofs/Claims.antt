-- The desk of the code counts its calls: what `meaning` proves of the definitions holds of every run of the code.
use mathlib.Core.Path.{◌≡◌, refl, sym, ap, ap₂, ◌∙◌}
use mathlib.Core.Bool.{Bool, true, false, cond}
use mathlib.Core.List.{List, [], ◌∷◌, map}
use lib.Dec.{eqb}
use Prim.Native.Nat.{◌+◌}
use Rattle.std.specs.Prelude.{Result, Err}
use Rattle.meaning.specs.Reply.{reply, check_reply}
use Rattle.meaning.specs.Reply.{Reply as MeantReply}
use Rattle.meaning.specs.Desk.{fresh_desk, full_count, called, raised, desk_answer, Call, check_of, desk_over, answers_over, desk_after, desk_replies}
use Rattle.meaning.specs.Desk.{Desk as MeantDesk, Called as MeantCalled}
use Rattle.meaning.proofs.Desk.{counts}
use Rattle.refusal.specs.declared.refused.Refusal.TheVariants.{DeskDamaged, DeskFull}
use Rattle.refusal.specs.declared.refused.Refused.{Refused}
use Rattle.service.specs.Reply.{reply_meaning}
use Rattle.service.proofs.Replies.{full-alone, check-replied}
use Rattle.desk.specs.declared.Desk.{Desk}
use Rattle.desk.specs.Desk.{Answers, Agrees, desk_meaning}
use Rattle.desk.specs.Run.{Run, no_call, then, calls_of, replies_of, desk_of}
use Rattle.desk.specs.Claims.{CodeCounts, CodeStaysFull, EveryListRuns, full_reply}
use Rattle.desk.proofs.Calling.{call-full}

-- ---- a run of the code is one of the definitions

desk-of-run : {d : Desk} (run : Run d) → desk_meaning (desk_of run) ≡ desk_after (desk_meaning d) (calls_of run)
unfolding desk_over calls_of desk_of
desk-of-run (no_call d) = refl
desk-of-run (then d c after r h run) = desk-of-run run ∙ ap (λ (k : MeantCalled). desk_after k.desk (calls_of run)) h

replies-of-run : {d : Desk} (run : Run d) → map reply_meaning (replies_of run) ≡ desk_replies (desk_meaning d) (calls_of run)
unfolding answers_over calls_of replies_of
replies-of-run (no_call d) = refl
replies-of-run (then d c after r h run) =
    ap (λ (rs : List MeantReply). reply_meaning r ∷ rs) (replies-of-run run)
    ∙ ap (λ (k : MeantCalled). k.answer ∷ desk_replies k.desk (calls_of run)) h

-- ---- up to the full count

pub code-counts : CodeCounts
code-counts d run fresh few =
    let after : desk_meaning (desk_of run) ≡ desk_after fresh_desk (calls_of run) =
    desk-of-run run ∙ ap (λ (m : MeantDesk). desk_after m (calls_of run)) fresh in
    let replies : map reply_meaning (replies_of run) ≡ desk_replies fresh_desk (calls_of run) =
    replies-of-run run ∙ ap (λ (m : MeantDesk). desk_replies m (calls_of run)) fresh in
    let c = rw (sym after) at (counts (calls_of run) few) in
    (c.0, c.1, c.2, c.3, replies ∙ c.4)

-- ---- at the full count

desk-with : MeantDesk → Desk
desk-with m = record { heard = m.heard; accepted = m.accepted; refused = m.refused }

-- two desks of one meaning are one
same-desk : (d e : Desk) → desk_meaning d ≡ desk_meaning e → d ≡ e
unfolding desk-with
same-desk d e q = ap desk-with q

full-call : (d : Desk) (c : Call) (after : Desk) (r : Result (Unit {0}) Refused) → Agrees d → d.heard ≡ full_count
    → Answers d c after r → (after ≡ d) × (r ≡ full_reply c)
full-call d c after r agrees full h =
    let q = h ∙ call-full d (check_of c) agrees full in
    (same-desk after d (ap (λ (k : MeantCalled). k.desk) q), full-alone r (ap (λ (k : MeantCalled). k.answer) q))

pub code-stays-full : CodeStaysFull
unfolding calls_of replies_of desk_of
code-stays-full _ (no_call d) agrees full = (refl, refl)
code-stays-full _ (then d c after r h run) agrees full =
    let q = full-call d c after r agrees full h in
    let rest = code-stays-full after run (rw q.0 agrees) (rw q.0 full) in
    (rest.0 ∙ q.0, ap₂ ◌∷◌ q.1 rest.1)

-- ---- every list of calls has a run

-- every answer of the definitions can be given
answer-given : (d : MeantDesk) (c : Call) → (r : Result (Unit {0}) Refused) × (reply_meaning r ≡ (desk_answer d (check_of c)).answer)
unfolding desk_answer check_of
answer-given d c =
    by (eqb d.heard (d.accepted + d.refused)) (eqb d.heard full_count)
  where
    by : (agrees full : Bool) → (r : Result (Unit {0}) Refused) × (reply_meaning r
        ≡ (cond agrees (cond full (called d (reply 20 0)) (called (raised d (check_reply c.list c.table)) (check_reply c.list c.table))) (called d (reply 19 0))).answer)
    by true true = (Err (record { refusal = DeskFull; place = 0 }), refl)
    by true false = check-replied c.list c.table
    by false full = (Err (record { refusal = DeskDamaged; place = 0 }), refl)

pub every-list-runs : EveryListRuns
unfolding calls_of desk-with
every-list-runs d [] = (no_call d, refl)
every-list-runs d (c ∷ cs) =
    let gave : MeantCalled = desk_answer (desk_meaning d) (check_of c) in
    let after : Desk = desk-with gave.desk in
    let r = answer-given (desk_meaning d) c in
    let rest = every-list-runs after cs in
    (then d c after r.0 (ap (λ (m : MeantReply). called gave.desk m) r.1) rest.0, ap (λ (xs : List Call). c ∷ xs) rest.1)
