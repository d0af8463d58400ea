-- The numbers of refusals tell them apart, and none is 0. Whatever the definitions reply to a check is the meaning of an answer of the code: a refusal
-- of a list has one of the numbers that refusals have.
use mathlib.Core.Path.{◌≡◌, refl, sym, ap, ap₂, ◌∙◌}
use mathlib.Core.Bool.{Bool, true, false, cond}
use mathlib.Core.List.{List, [], ◌∷◌, map}
use mathlib.Core.Option.{Option, none, some}
use Prim.Native.Nat.{ℕ, suc, ◌≤◌, ◌<◌}
use native.Mathlib.Omega.{arith}
use lib.Dec.{eqb, eqb→eq}
use lib.ListN.{length, get_or}
use Rattle.algebra.proofs.Test.{≡-test}
use Rattle.meaning.specs.Line.{Line}
use Rattle.meaning.specs.Known.{Known}
use Rattle.meaning.specs.Row.{holds}
use Rattle.meaning.specs.Refusal.{test_order, place_among, rank, plain, on_some, refused, on_reading, reading}
use Rattle.meaning.specs.Reply.{reply, first_fail, rows_of, is_cell, checked, check_reply}
use Rattle.meaning.specs.Reply.{Reply as Meant}
use Rattle.meaning.proofs.Accepted.{by-reading}
use Rattle.meaning.proofs.Reading.{rules-in-order, fits-ranked, reads-exactly}
use Rattle.std.specs.Prelude.{Result, Ok, Err}
use Rattle.refusal.specs.declared.refused.Refusal.{Refusal}
use Rattle.refusal.specs.declared.refused.Refusal.TheVariants.{TextTooLong, TextNotEnded, NoLine, FieldLineMisplaced, NoOddPrime, NumberOffRange, NameNotMade, TooManyValues, TooManyCells, DigitsTooWide, SumOffRange, NothingShared, TableLength, CellTooGreat, RowFails, InputCount, InputOffRange, StatementFalse, DeskDamaged, DeskFull, BufferTooShort}
use Rattle.refusal.specs.declared.refused.Refused.{Refused}
use Rattle.refusal.specs.Refusal.{number_of}
use Rattle.service.specs.Reply.{reply_meaning}

-- ---- the numbers of the refusals

-- the refusals in the order of their numbers, after one that stands at 0
refusals : List Refusal
refusals =
    DeskFull ∷ TextTooLong ∷ TextNotEnded ∷ NoLine ∷ FieldLineMisplaced ∷ NoOddPrime ∷ NumberOffRange ∷ NameNotMade ∷ TooManyValues ∷ TooManyCells ∷ DigitsTooWide ∷ SumOffRange ∷ NothingShared ∷ TableLength ∷ CellTooGreat ∷ RowFails ∷ InputCount ∷ InputOffRange ∷ StatementFalse ∷ DeskDamaged ∷ DeskFull ∷ BufferTooShort ∷ []

-- no refusal has number 0, none is past 21, and its number tells which it is
numbered : (x : Refusal) → (0 < number_of x) × (number_of x ≤ 21) × (get_or refusals (number_of x) DeskFull ≡ x)
unfolding refusals
numbered TextTooLong = (omega arith, omega arith, refl)
numbered TextNotEnded = (omega arith, omega arith, refl)
numbered NoLine = (omega arith, omega arith, refl)
numbered FieldLineMisplaced = (omega arith, omega arith, refl)
numbered NoOddPrime = (omega arith, omega arith, refl)
numbered NumberOffRange = (omega arith, omega arith, refl)
numbered NameNotMade = (omega arith, omega arith, refl)
numbered TooManyValues = (omega arith, omega arith, refl)
numbered TooManyCells = (omega arith, omega arith, refl)
numbered DigitsTooWide = (omega arith, omega arith, refl)
numbered SumOffRange = (omega arith, omega arith, refl)
numbered NothingShared = (omega arith, omega arith, refl)
numbered TableLength = (omega arith, omega arith, refl)
numbered CellTooGreat = (omega arith, omega arith, refl)
numbered RowFails = (omega arith, omega arith, refl)
numbered InputCount = (omega arith, omega arith, refl)
numbered InputOffRange = (omega arith, omega arith, refl)
numbered StatementFalse = (omega arith, omega arith, refl)
numbered DeskDamaged = (omega arith, omega arith, refl)
numbered DeskFull = (omega arith, omega arith, refl)
numbered BufferTooShort = (omega arith, omega arith, refl)

pub not-accepted : (x : Refusal) → number_of x ≡ 0 → ⊥
not-accepted x e = let h = (numbered x).0 in omega arith

pub number-most : (x : Refusal) → number_of x ≤ 21
number-most x = (numbered x).1

-- the reply 20, 0 is the refusal of a full desk and no other
pub full-alone : (r : Result (Unit {0}) Refused) → reply_meaning r ≡ reply 20 0 → r ≡ Err (record { refusal = DeskFull; place = 0 })
unfolding refusals
full-alone (Ok _) e = let z : ◌≡◌ {A = ℕ} 0 20 = ap (λ (m : Meant). m.number) e in absurd (omega arith)
full-alone (Err r) e =
    let is : r.refusal ≡ DeskFull = sym (numbered r.refusal).2 ∙ ap (λ (n : ℕ). get_or refusals n DeskFull) (ap (λ (m : Meant). m.number) e) in
    let at : r.place ≡ 0 = ap (λ (m : Meant). m.place) e in
    ap₂ (λ (x : Refusal) (i : ℕ). Err (record { refusal = x; place = i })) is at

-- ---- the refusals of a list

-- a number that stands among those of some refusals is one's
named : (n : ℕ) (xs : List Refusal) → place_among (map number_of xs) n < length xs → (x : Refusal) × (number_of x ≡ n)
unfolding place_among
named n [] h = absurd (omega arith)
named n (x ∷ xs) h = by (eqb n (number_of x)) refl h (named n xs)
  where
    by : (b : Bool) → eqb n (number_of x) ≡ b → cond b 0 (suc (place_among (map number_of xs) n)) < suc (length xs)
        → (place_among (map number_of xs) n < length xs → (y : Refusal) × (number_of y ≡ n)) → (y : Refusal) × (number_of y ≡ n)
    by true e k later = (x, sym (eqb→eq n (number_of x) (≡-test _ e)))
    by false e k later = later (omega arith)

list-refusals : List Refusal
list-refusals =
    TextTooLong ∷ TextNotEnded ∷ NoLine ∷ FieldLineMisplaced ∷ NoOddPrime ∷ NumberOffRange ∷ NameNotMade ∷ TooManyValues ∷ TooManyCells ∷ DigitsTooWide ∷ SumOffRange ∷ NothingShared ∷ []

refusal-of : (text : List ℕ) (n i : ℕ) → reading text ≡ refused n i → (x : Refusal) × (number_of x ≡ n)
unfolding list-refusals rank test_order
refusal-of text n i e = named n list-refusals (fits-ranked plain rules-in-order text n i (((reads-exactly text).1 n i).0 e).0)

-- ---- the replies to a check

abbrev Replied : Meant → Type 0
Replied m = (r : Result (Unit {0}) Refused) × (reply_meaning r ≡ m)

refusing : (x : Refusal) (i : ℕ) → Replied (reply (number_of x) i)
refusing x i = (Err (record { refusal = x; place = i }), refl)

either-way : (b : Bool) {m k : Meant} → Replied m → Replied k → Replied (cond b m k)
either-way true h k = h
either-way false h k = k

some-or-none : (o : Option ℕ) {f : ℕ → Meant} {m : Meant} → ((i : ℕ) → Replied (f i)) → Replied m → Replied (on_some o f m)
unfolding on_some
some-or-none none h k = k
some-or-none (some i) h k = h i

checked-replied : (s : Known) (ls : List Line) (t : List ℕ) → Replied (checked s ls t)
unfolding checked
checked-replied s ls t =
    either-way (eqb (length t) s.cells)
    (some-or-none (first_fail (is_cell s.p) 0 t) (refusing CellTooGreat)
    (some-or-none (first_fail (holds s.p t) 0 (rows_of ls)) (refusing RowFails) (Ok tt, refl)))
    (refusing TableLength 0)

pub check-replied : (list t : List ℕ) → Replied (check_reply list t)
unfolding check_reply on_reading
check-replied list t = by-reading list
    (λ n i e. let x = refusal-of list n i e in let r = refusing x.0 i in rw e (r.0, r.1 ∙ rw x.1 refl))
    (λ ls s e. rw e (checked-replied s ls t))
