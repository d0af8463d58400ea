-- Demand 3: a table is accepted exactly when it is the true table of its own inputs, and the maker writes that table.
use mathlib.Core.Path.{◌≡◌, refl, sym, ap, ap₂, ◌∙◌, subst}
use mathlib.Core.List.{List, [], ◌∷◌, map}
use mathlib.Core.Logic.{◌↔◌}
use Prim.Native.Nat.{ℕ, zero, suc, ◌+◌, ◌<◌}
use native.Mathlib.Omega.{arith}
use native.Mathlib.Nat.{zero-add}
use lib.Dec.{T, eqb}
use lib.ListN.{length, get_or}
use lib.IntN.{ℤ, pos}
use Rattle.algebra.specs.Digits.{Below}
use Rattle.algebra.proofs.Test.{test-≡, eqb-iff}
use Rattle.algebra.proofs.Integer.Linear.{linear}
use Rattle.meaning.specs.Number.{in_range, signed, OddPrime}
use Rattle.meaning.specs.Line.{Line}
use Rattle.meaning.specs.Known.{Ends, Known, fresh, Within, Ranged}
use Rattle.meaning.specs.Meaning.{after}
use Rattle.meaning.specs.Refusal.{on_some, on_reading, read, reading}
use Rattle.meaning.specs.Work.{Worked, true-table, work}
use Rattle.meaning.specs.Reply.{reply, rows_of, check_reply, Making, filled, made, make_reply}
use Rattle.meaning.specs.Claims.{WellFormed, signed_at, inputs_of, values_of, AcceptsTrueTables, Column, MakesTheOnly}
use Rattle.meaning.proofs.Lists.{all_pass}
use Rattle.meaning.proofs.Number.{range-test, signed-remainder}
use Rattle.meaning.proofs.Hold.{hold-each}
use Rattle.meaning.proofs.Law.{InCells, below_at}
use Rattle.meaning.specs.Kept.{Kept, Sound}
use Rattle.meaning.proofs.Kept.{keeps-all}
use Rattle.meaning.proofs.Lines.{sound-after, sound-fresh}
use Rattle.meaning.proofs.Reading.{read_kept}
use Rattle.meaning.proofs.Rows.{accepted-iff}
use Rattle.meaning.proofs.Induction.{rows-iff, cells_in, IsTrue}
use Rattle.meaning.proofs.Working.{MadeValues, working-gives}

-- ---- tables with all cells below p, told cell by cell and as a whole

below_each : (p : ℕ) (t : List ℕ) → ((i : ℕ) → i < length t → get_or t i 0 < p) → Below p t
below_each p [] h = tt
below_each p (x ∷ t) h = (h 0 (omega arith), below_each p t (λ i l. h (suc i) (omega arith)))

-- ---- the end of a read list

-- what is known at the end is sound
sound-end : (ls : List Line) (n : ℕ) (s s' : Known) → Kept n s ls s' → Sound n s → Sound (n + length ls) s'
sound-end [] n s s' k h = subst (λ (m : ℕ). Sound m s') (omega arith) (subst (λ (q : Known). Sound n q) k h)
sound-end (l ∷ ls) n s s' k h =
    subst (λ (m : ℕ). Sound m s') (omega arith) (sound-end ls (suc n) (after s l) s' k.1 (sound-after n s l h (keeps-all n s l k.0)))

-- where there is a value, p is an odd prime
prime-end : (ls : List Line) (s : Known) → Kept 0 fresh ls s → zero < length s.places → OddPrime s.p
unfolding fresh
prime-end [] s k h = absurd (omega (arith, ap (λ (q : Known). length q.places) k))
prime-end (l ∷ ls) s k h = (sound-end (l ∷ ls) 0 fresh s k sound-fresh).prime (omega arith)

-- values between their ends, standing in their cells, are the cells' signed values
values-read : (p : ℕ) (t : List ℕ) (es : List Ends) (is : List ℕ) (vs : List ℤ) → (zero < length is → OddPrime p)
    → Ranged p es → Within es vs → InCells p t is vs → map (signed_at p t) is ≡ vs
unfolding signed_at
values-read p t es [] [] P r w c = refl
values-read p t es [] (v ∷ vs) P r w c = absurd c
values-read p t es (i ∷ is) [] P r w c = absurd c
values-read p t [] (i ∷ is) (v ∷ vs) P r w c = absurd w
values-read p t (e ∷ es) (i ∷ is) (v ∷ vs) P r w c =
    let odd = P (omega arith) in
    let inside : T (in_range p v) = range-test odd v (omega (linear, r.0, w.0)) (omega (linear, r.1, w.1)) in
    ap₂ (λ (y : ℤ) (ys : List ℤ). y ∷ ys) (ap (signed p) c.0 ∙ signed-remainder odd v inside)
    (values-read p t es is vs (λ _. odd) r.2 w.2 c.1)

-- ---- a read list, a table, and the values that stand in it

module _ (text : List ℕ) (ls : List Line) (s : Known) (is_read : reading text ≡ read ls s) where
  kept : Kept 0 fresh ls s
  kept = read_kept text ls s is_read

  values-are : (t : List ℕ) (ws : List ℤ) → Within s.known ws → InCells s.p t s.places ws → values_of s t ≡ ws
  unfolding values_of
  values-are t ws w c =
      values-read s.p t s.known s.places ws (prime-end ls s kept) (sound-end ls 0 fresh s kept sound-fresh).ranged w c

  -- what is accepted, whoever wrote the table (FORMAT 8.11)
  accepts : (t : List ℕ) → check_reply text t ≡ reply 0 0 ↔ (WellFormed s t × (work ls (inputs_of s ls t) ≡ true-table (values_of s t) t))
  unfolding work inputs_of rows_of fresh
  accepts t = (
    λ a.
        let q = (accepted-iff text ls s t is_read).0 a in
        let yields = rows-iff s t q.0.long (below_each s.p t q.0.below) ls 0 fresh [] kept sound-fresh tt tt in
        let e = yields.0 ((hold-each s.p t (rows_of ls)).1 q.1) in
        (q.0, e.1 ∙ ap (λ (ws : List ℤ). true-table ws t) (sym (values-are t e.0 e.2 e.3))),
    λ h.
        let yields = rows-iff s t h.0.long (below_each s.p t h.0.below) ls 0 fresh [] kept sound-fresh tt tt in
        (accepted-iff text ls s t is_read).1 (h.0, (hold-each s.p t (rows_of ls)).0 (yields.1 (values_of s t) h.1)),
  )

pub accepts-true-tables : AcceptsTrueTables
accepts-true-tables text ls s t e = accepts text ls s e t

-- ---- making

module _ (text : List ℕ) (ls : List Line) (s : Known) (is_read : reading text ≡ read ls s) (xs : List ℤ) (column : Column s xs) where
  -- a read list, a column and a table of the right length: the reply and the table are told by working
  make-works : (t : List ℕ) → length t ≡ s.cells → make_reply text xs t ≡ filled (work ls xs) t
  unfolding make_reply on_reading made on_some
  make-works t long = rw (
    is_read,
    test-≡ (eqb (length t) s.cells) ((eqb-iff (length t) s.cells).1 long),
    test-≡ (eqb (length xs) s.inputs) ((eqb-iff (length xs) s.inputs).1 column.count),
    (all_pass (in_range s.p) (pos 0) 0 xs).1 column.within,
  ) refl

  -- of the column's true table: its inputs and values, and that it is accepted
  table-made : (vs : List ℤ) (cs : List ℕ) → work ls xs ≡ true-table vs cs → MadeValues s cs fresh xs ls vs
  unfolding work fresh
  table-made vs cs e = working-gives s cs ls 0 fresh [] xs (read_kept text ls s is_read) sound-fresh tt tt
      (zero-add (length xs) ∙ column.count) column.within vs e

  inputs_are : (vs : List ℤ) (cs : List ℕ) → work ls xs ≡ true-table vs cs → inputs_of s ls cs ≡ xs
  unfolding inputs_of
  inputs_are vs cs e = (table-made vs cs e).inputs-stand

  made-values : (vs : List ℤ) (cs : List ℕ) → work ls xs ≡ true-table vs cs → values_of s cs ≡ vs
  made-values vs cs e = values-are text ls s is_read cs vs (table-made vs cs e).within (table-made vs cs e).in_cells

  well-formed : (vs : List ℤ) (cs : List ℕ) → work ls xs ≡ true-table vs cs → WellFormed s cs
  unfolding fresh
  well-formed vs cs e = record {
    long = sym (zero-add (length cs)) ∙ (table-made vs cs e).long;
    below = λ i l. below_at s.p cs i (table-made vs cs e).below l;
  }

  table-accepted : (vs : List ℤ) (cs : List ℕ) → work ls xs ≡ true-table vs cs → check_reply text cs ≡ reply 0 0
  table-accepted vs cs e = (accepts text ls s is_read cs).1
      (well-formed vs cs e, rw (inputs_are vs cs e, made-values vs cs e) e)

  -- an accepted table with these inputs is what working them gives
  accepted-work : (u : List ℕ) → inputs_of s ls u ≡ xs → check_reply text u ≡ reply 0 0 → work ls xs ≡ true-table (values_of s u) u
  accepted-work u same a = ap (work ls) (sym same) ∙ ((accepts text ls s is_read u).0 a).1

pub makes-the-only : MakesTheOnly
unfolding filled
makes-the-only text ls s xs t is_read column long = (
  λ vs cs e.
      let m = make-works text ls s is_read xs column t long ∙ ap (λ (w : Worked). filled w t) e in (
        ap (λ (q : Making). q.answer) m,
        ap (λ (q : Making). q.table) m,
        table-accepted text ls s is_read xs column vs cs e,
        inputs_are text ls s is_read xs column vs cs e,
        made-values text ls s is_read xs column vs cs e,
        λ u same a. sym (ap cells_in (sym e ∙ accepted-work text ls s is_read xs column u same a)),
      ),
  λ n e.
      let m = make-works text ls s is_read xs column t long ∙ ap (λ (w : Worked). filled w t) e in (
        ap (λ (q : Making). q.answer) m,
        ap (λ (q : Making). q.table) m,
        λ u same a. subst IsTrue (sym (accepted-work text ls s is_read xs column u same a) ∙ e) tt,
      ),
)
