-- One call of the desk: its two refusals, and a call that is counted.
use Prim.Native.Nat.{◌+◌, ◌<◌}
use native.Mathlib.Omega.{arith}
use native.Mathlib.Numerals.{unary_clauses}
use mathlib.Core.Path.{◌≡◌, refl, sym, ap, ◌∙◌}
use mathlib.Core.Bool.{Bool, true, false, not}
use mathlib.Core.Logic.{inl, inr}
use lib.Dec.{eqb}
use borrow.Author.Tests.{not-true, not-false, ne_eqb, eqb-true}
use Rattle.meaning.specs.Reply.{reply}
use Rattle.meaning.specs.Reply.{Reply as MeantReply}
use Rattle.meaning.specs.Desk.{counted, called, full_count, is_accepted, raised, desk_answer}
use Rattle.meaning.specs.Desk.{Desk as MeantDesk, Called as MeantCalled}
use Rattle.meaning.proofs.Desk.{answers-full, answers-by-check}
use Rattle.service.specs.Reply.{reply_meaning}
use Rattle.service.proofs.Replies.{not-accepted}
use Rattle.std.specs.Prelude.{Result, Ok, Err}
use Rattle.refusal.specs.declared.refused.Refused.{Refused}
use Rattle.refusal.specs.Refusal.{number_of, refused_reply}
use Rattle.desk.specs.declared.Desk.{Desk}
use Rattle.desk.specs.Desk.{Agrees, CountsOne, desk_meaning, called_meaning}

-- ---- raising

module _ (d : Desk) where
  pub raise-accepted : counted (d.heard + 1) (d.accepted + 1) d.refused ≡ raised (desk_meaning d) (reply 0 0)
  unfolding raised is_accepted
  raise-accepted = simp unary_clauses refl

  pub raise-refused : (r : Refused) → counted (d.heard + 1) d.accepted (d.refused + 1) ≡ raised (desk_meaning d) (refused_reply r)
  unfolding raised is_accepted
  raise-refused r = rw (ne_eqb (number_of r.refusal) 0 (not-accepted r.refusal)) (simp unary_clauses refl)

pub ruleset raises = (raise-accepted, raise-refused)

-- ---- the three ways of a call

-- the code's test of 19 gave t
module _ (d : Desk) (t : Bool) (is : t ≡ eqb d.heard (d.accepted + d.refused)) where
  pub tested-agrees : not t ≡ false → Agrees d
  tested-agrees e = eqb-true _ _ (sym is ∙ not-false t e)

  pub call-disagrees : (checked : MeantReply) → not t ≡ true → desk_answer (desk_meaning d) checked ≡ called (desk_meaning d) (reply 19 0)
  unfolding desk_answer
  call-disagrees checked e = rw (sym is, not-true t e) refl

module _ (d : Desk) (checked : MeantReply) (agrees : Agrees d) where
  pub call-full : d.heard ≡ full_count → desk_answer (desk_meaning d) checked ≡ called (desk_meaning d) (reply 20 0)
  call-full full = answers-full (desk_meaning d) checked agrees full

  call-with-room : (d.heard ≡ full_count → ⊥) → desk_answer (desk_meaning d) checked ≡ called (raised (desk_meaning d) checked) checked
  call-with-room room = answers-by-check (desk_meaning d) checked agrees room

  pub call-counted : (d.heard ≡ full_count → ⊥) → (after : Desk) (r : Result (Unit {0}) Refused)
      → desk_meaning after ≡ raised (desk_meaning d) (reply_meaning r) → reply_meaning r ≡ checked
      → called_meaning after r ≡ desk_answer (desk_meaning d) checked
  call-counted room after r raises checks = rw (call-with-room room, raises, checks) refl

-- ---- what the contract says in plain words follows from its equation

same-counts : {m n : MeantDesk} → m ≡ n → (m.heard ≡ n.heard) × (m.accepted ≡ n.accepted) × (m.refused ≡ n.refused)
same-counts e = (ap (λ (d : MeantDesk). d.heard) e, ap (λ (d : MeantDesk). d.accepted) e, ap (λ (d : MeantDesk). d.refused) e)

one_more : (d after : Desk) (r : Result (Unit {0}) Refused) → Agrees d → desk_meaning after ≡ raised (desk_meaning d) (reply_meaning r) → CountsOne d after r
one_more d after (Ok _) agrees e =
    let q = same-counts (e ∙ sym (raise-accepted d)) in
    record { agrees = omega (arith, q, agrees); heard = q.0; one-other = inl (refl, q.1, q.2) }
one_more d after (Err r) agrees e =
    let q = same-counts (e ∙ sym (raise-refused d r)) in
    record { agrees = omega (arith, q, agrees); heard = q.0; one-other = inr (not-accepted r.refusal, q.1, q.2) }

-- a call that is counted counts one
pub counts-one : (d after : Desk) (checked : MeantReply) (r : Result (Unit {0}) Refused) → called_meaning after r ≡ desk_answer (desk_meaning d) checked
    → Agrees d → d.heard < full_count → CountsOne d after r
counts-one d after checked r e agrees room = one_more d after r agrees raises
  where
    raises : desk_meaning after ≡ raised (desk_meaning d) (reply_meaning r)
    raises =
        let q = e ∙ call-with-room d checked agrees (λ full. omega arith) in
        ap (λ (k : MeantCalled). k.desk) q ∙ ap (raised (desk_meaning d)) (sym (ap (λ (k : MeantCalled). k.answer) q))
