-- Answering: where an answer has room it is written, and else nothing is; and what making answers.
use mathlib.Core.Path.{◌≡◌, refl, ap, ap₂, ◌∙◌}
use mathlib.Core.List.{List, ◌∷◌, ◌++◌}
use Prim.Native.Nat.{ℕ, zero, suc, ◌≤◌, ◌<◌}
use native.Mathlib.Omega.{arith}
use borrow.Author.Tests.{le-leb, lt-leb, ne_eqb}
use lib.IntN.{ℤ}
use lib.ListN.{length, take, replicate}
use lib.Seq.{take_at}
use Rattle.meaning.specs.Reply.{Reply, reply, making, make_reply}
use Rattle.meaning.specs.Program.{refusal_text, table_text, making_text}
use Rattle.service.specs.Reply.{Makes}
use Rattle.std.specs.Prelude.{None, Result, Ok, Err, IsErrAnd}
use Rattle.std.specs.Prelude.{Option as Perhaps}
use Rattle.std.specs.Option.{ok_or}
use Rattle.refusal.specs.declared.refused.Refused.{Refused}
use Rattle.refusal.specs.Refusal.{number_of, refused_reply}
use Rattle.service.proofs.Replies.{not-accepted}
use Rattle.output.specs.Written.{Written}
use Rattle.program.specs.Answered.{Answered, longest_answer}
use Rattle.program.specs.Made.{made_text}

module _ {answer before : List ℕ} (short : length answer ≤ longest_answer) where
  pub answered-room : {after : List ℕ} {r : ℕ} → Written answer before after r → length answer ≤ length before → Answered answer before after r
  answered-room w h =
      let room = le-leb (length answer) (length before) h in
      record { left = rw room w.stands; returned = rw room w.counted; short = short }

  pub answered-no-room : (n : ℕ) → n ≡ length answer → length before < n → Answered answer before before 0
  answered-no-room n e h =
      let less : length before < length answer = rw (← e) h in
      let no_room = lt-leb (length answer) (length before) less in
      record { left = rw no_room; returned = rw no_room; short = short }

-- ---- what making answers

pub making-table : (t : List ℕ) → table_text t ≡ making_text (making (reply 0 0) t)
unfolding making_text
making-table t = refl

pub making-refusal : (r : Refused) (t : List ℕ) → refusal_text (refused_reply r) ≡ making_text (making (refused_reply r) t)
unfolding making_text
making-refusal r t = rw (ne_eqb (number_of r.refusal) 0 (not-accepted r.refusal))

-- the first cells of a table that is all 0 there
pub take-replicate : (k n : ℕ) → k ≤ n → take k (replicate {A = ℕ} n 0) ≡ replicate k 0
take-replicate zero n h = refl
take-replicate (suc k) zero h = absurd (omega arith)
take-replicate (suc k) (suc n) h = ap (λ (t : List ℕ). 0 ∷ t) (take-replicate k n (omega arith))

abbrev error_or : {A : Type 0} → Refused → Result A Refused → Refused
error_or given (Ok x) = given
error_or given (Err r) = r

-- the table that is made, at the start of a longer one, or the refusal
module _ (list table last : List ℕ) (xs : List ℤ) (cells : ℕ) (zeros : take cells table ≡ replicate cells 0) where
  pub table-made : (rest : List ℕ) → length last ≡ cells → Makes list xs (take cells table) (Ok tt) last
      → table_text (take cells (last ++ rest)) ≡ making_text (make_reply list xs (replicate cells 0))
  table-made rest size yields =
      rw (take_at last rest cells size, ← zeros)
      (making-table last ∙ ap₂ (λ (q : Reply) (t : List ℕ). making_text (making q t)) yields.replied yields.left)

  pub making-refused : {r : Refused} → Makes list xs (take cells table) (Err r) last → refusal_text (refused_reply r) ≡ making_text (make_reply list xs (replicate cells 0))
  making-refused {r} yields =
      rw (← zeros) (making-refusal r last ∙ ap₂ (λ (q : Reply) (t : List ℕ). making_text (making q t)) yields.replied yields.left)

  pub making-answered : (rest : List ℕ) → length last ≡ cells → (r : Result (Unit {0}) Refused) → Makes list xs (take cells table) r last
      → made_text (take cells (last ++ rest)) r ≡ making_text (make_reply list xs (replicate cells 0))
  making-answered rest size (Ok _) yields = table-made rest size yields
  making-answered rest size (Err r) yields = making-refused yields

-- a refusal that stands for what is not there
pub refused-alone : {A : Type 0} (x : Perhaps A) (r given : Refused) → Err r ≡ ok_or x given → x ≡ None → r ≡ given
refused-alone x r given e none = ap (error_or given) (rw none at e)

-- where a refusal is passed on, what it yields is yielded
pub passed-on : {A : Type 0} (yield : Result A Refused → Type 0) (r : Result A Refused) (broken : Refused) → IsErrAnd r (λ x. x ≡ broken) → yield (Err broken) → yield r
passed-on yield (Ok n) broken h e = absurd h
passed-on yield (Err x) broken h e = rw h e
