-- The desk counts its calls (FORMAT 9.14): up to the full count each call raises heard and one of accepted and refused by one,
-- and is answered by its check; at the full count nothing moves.
use Prim.Native.Nat.{ℕ, suc, ◌+◌, ◌<◌}
use native.Mathlib.Omega.{arith}
use mathlib.Core.Path.{◌≡◌, refl, ap}
use mathlib.Core.Bool.{Bool, true, false, cond, not}
use mathlib.Core.Logic.{◌≢◌}
use mathlib.Core.List.{List, [], ◌∷◌, map}
use lib.Dec.{eqb}
use lib.ListN.{length, length-map}
use Rattle.meaning.specs.Machine.{past_u64}
use Rattle.algebra.proofs.Test.{test-≡, eqb-iff, false-eqb}
use Rattle.meaning.specs.Reply.{Reply, reply}
use Rattle.meaning.specs.Desk.{Desk, Called, called, fresh_desk, full_count, is_accepted, raised, desk_answer, check_of, desk_over, answers_over}
use Rattle.meaning.specs.Claims.{how_many, passes, Counts, StaysFull}

-- the counts of a desk agree
abbrev pub Agrees : Desk → Type 0
Agrees d = d.heard ≡ d.accepted + d.refused

-- ---- one call

equal : (a b : ℕ) → a ≡ b → eqb a b ≡ true
equal a b e = test-≡ (eqb a b) ((eqb-iff a b).1 e)

-- at the full count a call is refused, whatever its check replies
pub answers-full : (d : Desk) (checked : Reply) → Agrees d → d.heard ≡ full_count → desk_answer d checked ≡ called d (reply 20 0)
unfolding desk_answer
answers-full d checked agrees full = rw (equal _ _ agrees, equal _ _ full)

pub stays-full : StaysFull
stays-full d agrees full list table = answers-full d _ agrees full

-- below the full count a call is answered by its check
pub answers-by-check : (d : Desk) (checked : Reply) → Agrees d → d.heard ≢ full_count → desk_answer d checked ≡ called (raised d checked) checked
unfolding desk_answer
answers-by-check d checked agrees room = rw (equal _ _ agrees, false-eqb _ _ room)

-- e is d with heard and one other count raised by one
pub record Raised (d e : Desk) (passed : Bool) : Type 0 where
  pub agrees : Agrees e
  pub heard : e.heard ≡ suc d.heard
  pub accepted : e.accepted ≡ d.accepted + cond passed 1 0
  pub refused : e.refused ≡ d.refused + cond (not passed) 1 0

pub raises : (d : Desk) (r : Reply) → Agrees d → Raised d (raised d r) (is_accepted r)
unfolding raised
raises d r h = by-test (is_accepted r) (omega arith) (omega arith)
  where
    by-test : {accepting refusing : Desk} (b : Bool) → Raised d accepting true → Raised d refusing false → Raised d (cond b accepting refusing) b
    by-test true x y = x
    by-test false x y = y

-- ---- a list of calls

-- what calls whose checks reply so do to a desk: its counts after them, and their answers
record DeskCounted (d : Desk) (checked : List Reply) : Type 0 where
  agrees : Agrees (desk_over d checked)
  heard : (desk_over d checked).heard ≡ d.heard + length checked
  accepted : (desk_over d checked).accepted ≡ d.accepted + how_many is_accepted checked
  refused : (desk_over d checked).refused ≡ d.refused + how_many (λ r. not (is_accepted r)) checked
  replies : answers_over d checked ≡ checked

room-left : (n k : ℕ) → n + suc k < past_u64 → n ≢ full_count
unfolding full_count
room-left n k h = omega arith

module _ (d e : Desk) (r : Reply) (rs : List Reply) (q : desk_answer d r ≡ called e r) where
  after_call : desk_over d (r ∷ rs) ≡ desk_over e rs
  unfolding desk_over
  after_call = ap (λ (k : Called). desk_over k.desk rs) q

  replies-to-call : answers_over d (r ∷ rs) ≡ r ∷ answers_over e rs
  unfolding answers_over
  replies-to-call = ap {B = List Reply} (λ (k : Called). k.answer ∷ answers_over k.desk rs) q

  count-call : Raised d e (is_accepted r) → DeskCounted e rs → DeskCounted d (r ∷ rs)
  unfolding how_many
  count-call raise h = record {
    agrees = rw after_call h.agrees;
    heard = rw after_call (omega arith);
    accepted = rw after_call (omega arith);
    refused = rw after_call (omega arith);
    replies = rw (replies-to-call, h.replies);
  }

-- by induction over the calls, from any desk whose counts agree and that has room for them all
counts-from : (d : Desk) (checked : List Reply) → Agrees d → d.heard + length checked < past_u64 → DeskCounted d checked
unfolding desk_over answers_over how_many
counts-from d [] h k = record {
  agrees = h;
  heard = omega arith;
  accepted = omega arith;
  refused = omega arith;
  replies = refl;
}
counts-from d (r ∷ rs) h k =
    let e : Desk = raised d r in
    let raise : Raised d e (is_accepted r) = raises d r h in
    count-call d e r rs (answers-by-check d r h (room-left _ _ k)) raise (counts-from e rs raise.agrees (omega arith))

how-many-map : {A B : Type 0} (f : B → Bool) (g : A → B) (xs : List A) → how_many f (map g xs) ≡ how_many (λ x. f (g x)) xs
unfolding how_many
how-many-map f g [] = refl
how-many-map f g (x ∷ xs) = ap (λ (n : ℕ). cond (f (g x)) 1 0 + n) (how-many-map f g xs)

pub counts : Counts
unfolding fresh_desk passes
counts calls h =
    let long : length (map check_of calls) ≡ length calls = length-map calls check_of in
    let c : DeskCounted fresh_desk (map check_of calls) = counts-from fresh_desk (map check_of calls) refl (omega arith) in
    let passed = how-many-map is_accepted check_of calls in
    let failed = how-many-map (λ r. not (is_accepted r)) check_of calls in
    (c.agrees, omega arith, omega arith, omega arith, c.replies)
