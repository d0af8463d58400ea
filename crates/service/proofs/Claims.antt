-- The claims about the code's own replies, each from its claim over the definitions (crates/meaning/proofs) and the promise of the call.
use Prim.Native.Nat.{ℕ, ◌<◌}
use native.Mathlib.Omega.{arith}
use mathlib.Core.Path.{◌≡◌, refl, sym, ap, ◌∙◌}
use mathlib.Core.Bool.{Bool, true, false, cond}
use mathlib.Core.Logic.{◌⊎◌, inl, inr}
use mathlib.Core.List.{List, []}
use mathlib.Core.Option.{Option, none, some}
use lib.Dec.{eqb, eqb→eq}
use lib.ListN.{length}
use lib.IntN.{ℤ, pos}
use Rattle.algebra.proofs.Test.{≡-test}
use Rattle.meaning.specs.Number.{in_range}
use Rattle.meaning.specs.Line.{Line}
use Rattle.meaning.specs.Known.{Known, fresh}
use Rattle.meaning.specs.Refusal.{on_some, Reading, refused, read, on_reading, reading}
use Rattle.meaning.specs.Work.{Worked, false-at, true-table, work}
use Rattle.meaning.specs.Reply.{reply, first_fail, Making, making, filled, made, make_reply, check_reply}
use Rattle.meaning.specs.Reply.{Reply as Meant}
use Rattle.meaning.specs.Claims.{Column, inputs_of}
use Rattle.meaning.proofs.Lists.{all_pass}
use Rattle.meaning.proofs.Accepted.{refused-not-zero, by-reading, zero-accepts, zero-makes}
use Rattle.meaning.proofs.Rows.{checks-rows}
use Rattle.meaning.proofs.TrueTables.{accepts-true-tables, makes-the-only}
use Rattle.service.specs.Reply.{reply_meaning}
use Rattle.service.specs.Claims.{AcceptedByNumber, RowsAreChecked, OnlyTrueTablesPass, NothingPassesUnread, MakesTrueTables, MadeTablesPass, RefusedMakingChangesNothing}

-- ---- the list

number_of : {n i m j : ℕ} → reply n i ≡ reply m j → n ≡ m
number_of e = ap (λ (r : Meant). r.number) e

-- a list is read in one way
read-once : {ls ms : List Line} {s z : Known} → read ls s ≡ read ms z → (ls ≡ ms) × (s ≡ z)
unfolding on_reading
read-once e = (
  ap (λ (q : Reading). on_reading q (λ n i. []) (λ ls s. ls)) e,
  ap (λ (q : Reading). on_reading q (λ n i. fresh) (λ ls s. s)) e,
)

-- ---- accepted

pub accepted-by-number : AcceptedByNumber
accepted-by-number = (
  λ list table r promise. (λ e. promise ∙ zero-accepts list table (sym (ap (λ (q : Meant). q.number) promise) ∙ e), number_of),
  λ list inputs table r after promise. (
    λ e. promise.replied ∙ zero-makes list inputs table (sym (ap (λ (q : Meant). q.number) promise.replied) ∙ e),
    number_of,
  ),
)

-- ---- checking

pub rows-are-checked : RowsAreChecked
rows-are-checked list ls s table r promise is_read well = rw promise (checks-rows list ls s table is_read well)

pub only-true-tables-pass : OnlyTrueTablesPass
only-true-tables-pass list ls s table r promise is_read = rw promise (accepts-true-tables list ls s table is_read)

pub nothing-passes-unread : NothingPassesUnread
unfolding check_reply on_reading
nothing-passes-unread list table r promise accepted =
    by-reading list
    (λ n i e. absurd (omega (arith, refused-not-zero list n i e, number_of (sym (ap (λ (q : Reading). on_reading q reply (λ ls s. Rattle.meaning.specs.Reply.checked s ls table)) e) ∙ sym promise ∙ accepted))))
    (λ ls s e. (ls, s, e))

-- ---- making

pub makes-true-tables : MakesTrueTables
makes-true-tables list ls s inputs table r after promise is_read column long =
    let claim = makes-the-only list ls s inputs table is_read column long in (
      λ values cells e.
          let m = claim.0 values cells e in
          let left = promise.left ∙ m.1 in
          (promise.replied ∙ m.0, left, rw left m.3, rw left m.4),
      λ line e. let m = claim.1 line e in (promise.replied ∙ m.0, promise.left ∙ m.1, λ other checked c same a. m.2 other same (sym c ∙ a)),
    )

-- how a making of a read list comes out: a refusal that leaves the table, or the true table of a column of inputs
module _ (s : Known) (ls : List Line) (xs : List ℤ) (t : List ℕ) where
  abbrev Outcome : Making → Type 0
  Outcome m = ((0 < m.answer.number) × (m.table ≡ t))
      ⊎ ((length t ≡ s.cells) × Column s xs × ((values : List ℤ) × (cells : List ℕ) × (work ls xs ≡ true-table values cells)))

  by-work : length t ≡ s.cells → Column s xs → (w : Worked) → work ls xs ≡ w → Outcome (filled w t)
  unfolding filled
  by-work long column (false-at n) e = inl (omega arith, refl)
  by-work long column (true-table vs cs) e = inr (long, column, (vs, cs, e))

  by-inputs : length t ≡ s.cells → length xs ≡ s.inputs → (o : Option ℕ) → first_fail (in_range s.p) 0 xs ≡ o
      → Outcome (on_some o (λ i. making (reply 17 i) t) (filled (work ls xs) t))
  unfolding on_some
  by-inputs long count none e = by-work long (record { count = count; within = (all_pass (in_range s.p) (pos 0) 0 xs).0 e }) (work ls xs) refl
  by-inputs long count (some i) e = inl (omega arith, refl)

  abbrev ranged : Making
  ranged = on_some (first_fail (in_range s.p) 0 xs) (λ i. making (reply 17 i) t) (filled (work ls xs) t)

  by_count : length t ≡ s.cells → (b : Bool) → eqb (length xs) s.inputs ≡ b → Outcome (cond b ranged (making (reply 16 0) t))
  by_count long true e = by-inputs long (eqb→eq (length xs) s.inputs (≡-test (eqb (length xs) s.inputs) e)) (first_fail (in_range s.p) 0 xs) refl
  by_count long false e = inl (omega arith, refl)

  by_length : (b : Bool) → eqb (length t) s.cells ≡ b → Outcome (cond b (cond (eqb (length xs) s.inputs) ranged (making (reply 16 0) t)) (making (reply 13 0) t))
  by_length true e = by_count (eqb→eq (length t) s.cells (≡-test (eqb (length t) s.cells) e)) (eqb (length xs) s.inputs) refl
  by_length false e = inl (omega arith, refl)

  made-outcome : Outcome (made s ls xs t)
  unfolding made
  made-outcome = by_length (eqb (length t) s.cells) refl

-- of any list
abbrev Come : List ℕ → List ℤ → List ℕ → Making → Type 0
Come list xs t m = ((0 < m.answer.number) × (m.table ≡ t))
    ⊎ ((ls : List Line) × (s : Known) × (reading list ≡ read ls s) × (length t ≡ s.cells) × Column s xs
    × ((values : List ℤ) × (cells : List ℕ) × (work ls xs ≡ true-table values cells)))

make-outcome : (list : List ℕ) (xs : List ℤ) (t : List ℕ) → Come list xs t (make_reply list xs t)
unfolding make_reply on_reading
make-outcome list xs t = by (reading list) refl
  where
    of-read : (ls : List Line) (s : Known) → reading list ≡ read ls s → Outcome s ls xs t (made s ls xs t) → Come list xs t (made s ls xs t)
    of-read ls s e (inl h) = inl h
    of-read ls s e (inr h) = inr (ls, s, e, h.0, h.1, h.2)

    by : (r : Reading) → reading list ≡ r → Come list xs t (on_reading r (λ n i. making (reply n i) t) (λ ls s. made s ls xs t))
    by (refused n i) e = inl (refused-not-zero list n i e, refl)
    by (read ls s) e = of-read ls s e (made-outcome s ls xs t)

pub refused-making-changes-nothing : RefusedMakingChangesNothing
refused-making-changes-nothing list inputs table r after promise other = by (make-outcome list inputs table)
  where
    by : Come list inputs table (make_reply list inputs table) → after ≡ table
    by (inl h) = promise.left ∙ h.1
    by (inr h) = absurd (other (promise.replied
        ∙ ((makes-the-only list h.0 h.1 inputs table h.2 h.4 h.3).0 h.5.0 h.5.1 h.5.2).0))

pub made-tables-pass : MadeTablesPass
made-tables-pass list inputs table r after promise accepted = by (make-outcome list inputs table)
  where
    by : Come list inputs table (make_reply list inputs table)
        → ((checked : _) → reply_meaning checked ≡ check_reply list after → reply_meaning checked ≡ reply 0 0)
        × ((ls : List Line) (s : Known) → reading list ≡ read ls s → (other : List ℕ) (checked : _) → reply_meaning checked ≡ check_reply list other
        → reply_meaning checked ≡ reply 0 0 → inputs_of s ls other ≡ inputs → other ≡ after)
    by (inl h) = absurd (omega (arith, h.0, number_of (sym promise.replied ∙ accepted)))
    by (inr h) =
        let m = (makes-the-only list h.0 h.1 inputs table h.2 h.4 h.3).0 h.5.0 h.5.1 h.5.2 in
        let left = promise.left ∙ m.1 in (
          λ checked c. c ∙ rw left m.2,
          λ ls s e other checked c a same. let once = read-once (sym h.2 ∙ e) in m.5 other (rw (once.0, once.1) same) (sym c ∙ a) ∙ sym left,
        )
