-- Making a table: the replies by its length, the inputs and the lines' statements, and the table that each leaves.
use mathlib.Core.Path.{◌≡◌, refl, sym, ap, ◌∙◌, subst}
use mathlib.Core.List.{List}
use mathlib.Core.Option.{none, some}
use Prim.Native.Nat.{ℕ}
use borrow.Author.Tests.{eq-eqb, ne_eqb}
use lib.IntN.{ℤ, pos}
use lib.ListN.{length, take}
use Rattle.meaning.specs.Number.{in_range}
use Rattle.meaning.specs.Line.{Line}
use Rattle.meaning.specs.Known.{Known}
use Rattle.meaning.specs.Refusal.{on_some, refused, on_reading, reading}
use Rattle.meaning.specs.Work.{true-table, work}
use Rattle.meaning.specs.Reply.{reply, first_fail, refusal_at, Making, making, filled, made, make_reply}
use Rattle.meaning.specs.Claims.{Column}
use Rattle.meaning.proofs.Lists.{all_pass}
use Rattle.meaning.proofs.Results.{refusal-none, refusal-place}
use Rattle.service.specs.Walk.{ListRead}
use Rattle.service.specs.Reply.{reply_meaning, Makes}
use Rattle.service.specs.Make.{inputs_meaning, WorkGiven, WorkingYield, WriteGiven}
use Rattle.std.specs.Prelude.{Some, None, Result, Ok, Err}
use Rattle.std.specs.Prelude.{Option as Perhaps}
use Rattle.refusal.specs.declared.refused.Refused.{Refused}
use Rattle.refusal.specs.Refusal.{refused_reply}
use Rattle.service.proofs.ReadList.{same_lines}

-- ---- the inputs

module _ (xs : List ℤ) (p : ℕ) (r : Perhaps ℕ) (yields : inputs_meaning r ≡ refusal_at 17 (first_fail (in_range p) 0 xs)) where
  pub outside-found : (i : ℕ) → r ≡ Some i → first_fail (in_range p) 0 xs ≡ some i
  unfolding inputs_meaning
  outside-found i is = refusal-place 17 _ (sym yields ∙ ap inputs_meaning is)

  pub none-outside : r ≡ None → first_fail (in_range p) 0 xs ≡ none
  unfolding inputs_meaning
  none-outside is = refusal-none 17 _ (sym yields ∙ ap inputs_meaning is)

pub column-of : (s : Known) (xs : List ℤ) → length xs ≡ s.inputs → first_fail (in_range s.p) 0 xs ≡ none → Column s xs
column-of s xs count e = record { count = count; within = (all_pass (in_range s.p) (pos 0) 0 xs).0 e }

-- ---- the replies

module _ (s : Known) (ls : List Line) (xs : List ℤ) (t : List ℕ) where
  pub made-wrong-length : (length t ≡ s.cells → ⊥) → making (reply 13 0) t ≡ made s ls xs t
  unfolding made
  made-wrong-length h = rw (ne_eqb (length t) s.cells h) refl

  module _ (long : length t ≡ s.cells) where
    pub made-wrong-count : (length xs ≡ s.inputs → ⊥) → making (reply 16 0) t ≡ made s ls xs t
    unfolding made
    made-wrong-count h = rw (eq-eqb (length t) s.cells long, ne_eqb (length xs) s.inputs h) refl

    module _ (count : length xs ≡ s.inputs) where
      pub made-outside : (i : ℕ) → first_fail (in_range s.p) 0 xs ≡ some i → making (reply 17 i) t ≡ made s ls xs t
      unfolding made on_some
      made-outside i e = rw (eq-eqb (length t) s.cells long, eq-eqb (length xs) s.inputs count, e) refl

      pub made-worked : first_fail (in_range s.p) 0 xs ≡ none → filled (work ls xs) t ≡ made s ls xs t
      unfolding made on_some
      made-worked e = rw (eq-eqb (length t) s.cells long, eq-eqb (length xs) s.inputs count, e) refl

module _ (list : List ℕ) (xs : List ℤ) (t : List ℕ) where
  pub make-refused : (n i : ℕ) → reading list ≡ refused n i → making (reply n i) t ≡ make_reply list xs t
  unfolding make_reply on_reading
  make-refused n i e = rw e refl

  pub make-read : (l : ListRead list) → made l.last l.lines xs t ≡ make_reply list xs t
  unfolding make_reply on_reading
  make-read l = rw l.is_read refl

-- a reply and a table together keep the promise of `make`
pub makes-by : {list : List ℕ} {xs : List ℤ} {t after : List ℕ} {r : Result (Unit {0}) Refused} → making (reply_meaning r) after ≡ make_reply list xs t → Makes list xs t r after
makes-by e = record { replied = ap (λ (q : Making). q.answer) e; left = ap (λ (q : Making). q.table) e }

-- ---- the lines, worked

module _ (ls : List Line) (s : Known) (xs values : List ℤ) (x : Result (Unit {0}) Refused) (done : WorkingYield ls s xs values x) where
  pub false-made : (r : Refused) (t : List ℕ) → x ≡ Err r → making (refused_reply r) t ≡ filled (work ls xs) t
  unfolding WorkingYield
  false-made r t is =
      let worked : (t : List ℕ) → filled (work ls xs) t ≡ making (refused_reply r) t = subst (WorkingYield ls s xs values) is done in
      sym (worked t)

  all-worked : {u : Unit {0}} → x ≡ Ok u → (cells : List ℕ) × (work ls xs ≡ true-table (take (length s.known) values) cells)
  unfolding WorkingYield
  all-worked is = subst (WorkingYield ls s xs values) is done

-- what writing is given, once every statement is found true
module _ (list table : List ℕ) (p : ℕ) (xs values : List ℤ) (a : WorkGiven list xs) (prime : a.listed.last.p ≡ p) (long : length table ≡ a.listed.last.cells)
    (x : Result (Unit {0}) Refused) (done : WorkingYield a.listed.lines a.listed.last xs values x) {u : Unit {0}} (is : x ≡ Ok u) where
  pub written-cells : List ℕ
  written-cells = (all-worked a.listed.lines a.listed.last xs values x done is).0

  pub written-worked : work a.listed.lines xs ≡ true-table (take (length a.listed.last.known) values) written-cells
  unfolding written-cells
  written-worked = (all-worked a.listed.lines a.listed.last xs values x done is).1

  abbrev pub write-given : WriteGiven list p values table
  write-given = record {
    inputs = xs;
    given = a;
    prime = prime;
    cells = written-cells;
    worked = written-worked;
    long = long;
  }

  pub true-made : (m : ListRead list) (t : List ℕ) → making (reply 0 0) written-cells ≡ filled (work m.lines xs) t
  unfolding filled
  true-made m t = rw (← same_lines a.listed m, written-worked) refl
