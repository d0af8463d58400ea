-- A check is accepted, and a table made, exactly where the number of the reply is 0: no refusal has that number, so the number that the desk
-- counts by and the reply 0, 0 are one (FORMAT 9.3).
use Prim.Native.Nat.{ℕ, zero, suc, ◌<◌}
use native.Mathlib.Omega.{arith}
use mathlib.Core.Path.{◌≡◌, refl}
use mathlib.Core.List.{List}
use mathlib.Core.Logic.{◌↔◌}
use mathlib.Core.Option.{Option, none, some}
use lib.Dec.{T, eqb, eqb→eq}
use lib.ListN.{length}
use lib.IntN.{ℤ}
use Rattle.algebra.proofs.Test.{cond_cases}
use Rattle.meaning.specs.Number.{in_range}
use Rattle.meaning.specs.Line.{Line}
use Rattle.meaning.specs.Known.{Known}
use Rattle.meaning.specs.Row.{holds}
use Rattle.meaning.specs.Refusal.{test_order, place_among, rank, plain, on_some, Reading, refused, read, on_reading, reading}
use Rattle.meaning.specs.Work.{Worked, false-at, true-table, work}
use Rattle.meaning.specs.Reply.{Reply, reply, first_fail, rows_of, is_cell, checked, check_reply, Making, filled, made, make_reply}
use Rattle.meaning.specs.Desk.{is_accepted}
use Rattle.meaning.specs.Claims.{AcceptedByNumber}
use Rattle.meaning.proofs.Reading.{rules-in-order, fits-ranked, reads-exactly}

-- ---- a refusal of a list is never 0

-- 0 has no place in the order of the tests
ranked-not-zero : (n : ℕ) → rank n < length test_order → 0 < n
unfolding rank place_among test_order
ranked-not-zero zero h = absurd (omega arith)
ranked-not-zero (suc n) h = omega arith

pub refused-not-zero : (text : List ℕ) (n i : ℕ) → reading text ≡ refused n i → 0 < n
refused-not-zero text n i e = ranked-not-zero n (fits-ranked plain rules-in-order text n i (((reads-exactly text).1 n i).0 e).0)

-- a list is read or refused
module _ (text : List ℕ) {A : Type 0} (if-refused : (n i : ℕ) → reading text ≡ refused n i → A) (if-read : (ls : List Line) (s : Known) → reading text ≡ read ls s → A) where
  pub by-reading : A
  by-reading = by (reading text) refl
    where
      by : (r : Reading) → reading text ≡ r → A
      by (refused n i) e = if-refused n i e
      by (read ls s) e = if-read ls s e

-- ---- a reply with number 0 is the reply 0, 0

abbrev ZeroAccepts : Reply → Type 0
ZeroAccepts r = r.number ≡ 0 → r ≡ reply 0 0

some-cases : {A : Type 0} (P : A → Type 0) (o : Option ℕ) (f : ℕ → A) (x : A) → ((i : ℕ) → P (f i)) → P x → P (on_some o f x)
unfolding on_some
some-cases P none f x h k = k
some-cases P (some i) f x h k = h i

module _ (s : Known) (ls : List Line) (t : List ℕ) where
  zero-checked : ZeroAccepts (checked s ls t)
  unfolding checked
  zero-checked = cond_cases ZeroAccepts (eqb (length t) s.cells) _ _
      (λ _. some-cases ZeroAccepts (first_fail (is_cell s.p) 0 t) _ _ (λ i e. absurd (omega arith))
      (some-cases ZeroAccepts (first_fail (holds s.p t) 0 (rows_of ls)) _ _ (λ i e. absurd (omega arith)) (λ e. refl)))
      (λ _ e. absurd (omega arith))

  abbrev ZeroMakes : Making → Type 0
  ZeroMakes m = ZeroAccepts m.answer

  zero-filled : (w : Worked) → ZeroMakes (filled w t)
  unfolding filled
  zero-filled (false-at n) e = absurd (omega arith)
  zero-filled (true-table vs cs) e = refl

  zero-made : (xs : List ℤ) → ZeroMakes (made s ls xs t)
  unfolding made
  zero-made xs = cond_cases ZeroMakes (eqb (length t) s.cells) _ _
      (λ _. cond_cases ZeroMakes (eqb (length xs) s.inputs) _ _
      (λ _. some-cases ZeroMakes (first_fail (in_range s.p) 0 xs) _ _ (λ i e. absurd (omega arith)) (zero-filled (work ls xs)))
      (λ _ e. absurd (omega arith)))
      (λ _ e. absurd (omega arith))

pub zero-accepts : (text t : List ℕ) → ZeroAccepts (check_reply text t)
unfolding check_reply on_reading
zero-accepts text t = by-reading text
    (λ n i q. rw q (λ e. absurd (omega (arith, refused-not-zero text n i q))))
    (λ ls s q. rw q (zero-checked s ls t))

pub zero-makes : (text : List ℕ) (xs : List ℤ) (t : List ℕ) → ZeroAccepts (make_reply text xs t).answer
unfolding make_reply on_reading
zero-makes text xs t = by-reading text
    (λ n i q. rw q (λ e. absurd (omega (arith, refused-not-zero text n i q))))
    (λ ls s q. rw q (zero-made s ls t xs))

-- ---- the claim

by_number : (r : Reply) → ZeroAccepts r → T (is_accepted r) ↔ (r ≡ reply 0 0)
unfolding is_accepted
by_number r at_zero = (λ t. at_zero (eqb→eq r.number 0 t), λ e. rw e tt)

pub accepted-by-number : AcceptedByNumber
accepted-by-number = (
  λ text t. by_number (check_reply text t) (zero-accepts text t),
  λ text xs t. by_number (make_reply text xs t).answer (zero-makes text xs t),
)
