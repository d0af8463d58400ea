-- Checking is exact (FORMAT 8.12): a table is accepted exactly when it is well formed and every row holds, and else the first row
-- that fails is named. `accepted-iff` is acceptance as later proofs cite it; `rows-count` ties the count of rows to the rows.
use Prim.Native.Nat.{ℕ, suc, ◌+◌, ◌<◌}
use native.Mathlib.Omega.{arith}
use mathlib.Core.Path.{◌≡◌, refl, sym, ap, ◌∙◌}
use mathlib.Core.Logic.Iff
use mathlib.Core.Logic.{◌↔◌, ◌⊎◌, inl, inr}
use mathlib.Core.List.{List, [], ◌∷◌}
use mathlib.Core.Option.{Option, none, some, none-ne-some, some-ne-none, some-injective}
use lib.Dec.{T, eqb, eqb→eq}
use lib.ListN.{length, get_or, length-append}
use Rattle.algebra.proofs.Test.{test-≡, eqb-iff, ltb_iff, cond_cases}
use Rattle.meaning.specs.Line.{Line}
use Rattle.meaning.specs.Known.{Known, fresh}
use Rattle.meaning.specs.Row.{among, holds}
use Rattle.meaning.specs.Meaning.{gadget, after}
use Rattle.meaning.specs.Refusal.{on_some, read, on_reading, reading}
use Rattle.meaning.specs.Reply.{Reply, reply, first_fail, is_cell, rows_from, rows_of, checked, check_reply}
use Rattle.meaning.specs.Claims.{WellFormed, Holds, ChecksRows}
use Rattle.meaning.proofs.Lists.{FirstFails, all_pass, first-fails-at}
use Rattle.meaning.specs.Kept.{Kept}
use Rattle.meaning.proofs.Reading.{read_kept}

-- ---- how many rows there are

pub rows-count : (s : Known) (ls : List Line) (n : ℕ) (s' : Known) → Kept n s ls s' → s.rows + length (rows_from s ls) ≡ s'.rows
unfolding rows_from after
rows-count s [] n s' h = omega (arith, ap (λ (k : Known). k.rows) h)
rows-count s (l ∷ ls) n s' h =
    omega (arith, length-append (gadget s l).rows (rows_from (after s l) ls), rows-count (after s l) ls (suc n) s' h.1)

-- the count of rows that a read list has is that of its rows
pub read-rows : (text : List ℕ) (ls : List Line) (s : Known) → reading text ≡ read ls s → length (rows_of ls) ≡ s.rows
unfolding rows_of fresh
read-rows text ls s e = omega (arith, rows-count fresh ls 0 s (read_kept text ls s e))

-- ---- the replies of a check

another-number : (n i m j : ℕ) → reply n i ≡ reply m j → n ≡ m
another-number n i m j e = ap (λ (r : Reply). r.number) e

-- what the rows reply, by the first that fails
abbrev by_row : Option ℕ → Reply
by_row o = on_some o (reply 15) (reply 0 0)

no-row-fails : (o : Option ℕ) → (by_row o ≡ reply 0 0) ↔ (o ≡ none)
unfolding on_some
no-row-fails none = (λ _. refl, λ _. refl)
no-row-fails (some r) = (λ e. absurd (omega (arith, another-number 15 r 0 0 e)), λ e. absurd (some-ne-none r e))

row-fails : (o : Option ℕ) (r : ℕ) → (by_row o ≡ reply 15 r) ↔ (o ≡ some r)
unfolding on_some
row-fails none r = (λ e. absurd (omega (arith, another-number 0 0 15 r e)), λ e. absurd (none-ne-some r e))
row-fails (some q) r = (λ e. ap {B = Option ℕ} some (ap (λ (r : Reply). r.place) e), λ e. ap (reply 15) (some-injective q r e))

zero-or-fifteen : (o : Option ℕ) → (by_row o ≡ reply 0 0) ⊎ ((r : ℕ) × (by_row o ≡ reply 15 r))
unfolding on_some
zero-or-fifteen none = inl refl
zero-or-fifteen (some r) = inr (r, refl)

-- ---- checking a table

module _ (s : Known) (ls : List Line) (t : List ℕ) where
  abbrev first_row : Option ℕ
  first_row = first_fail (holds s.p t) 0 (rows_of ls)

  abbrev first_cell : Option ℕ
  first_cell = first_fail (is_cell s.p) 0 t

  cells-pass : WellFormed s t → first_cell ≡ none
  unfolding is_cell
  cells-pass w = (all_pass (is_cell s.p) 0 0 t).1 (λ i h. (ltb_iff (get_or t i 0) s.p).1 (w.below i h))

  cells-below : first_cell ≡ none → (i : ℕ) → i < length t → get_or t i 0 < s.p
  unfolding is_cell
  cells-below e i h = (ltb_iff (get_or t i 0) s.p).0 ((all_pass (is_cell s.p) 0 0 t).0 e i h)

  -- a well formed table is left to its rows
  checked-by-rows : WellFormed s t → checked s ls t ≡ by_row first_row
  unfolding checked on_some
  checked-by-rows w = rw (test-≡ (eqb (length t) s.cells) ((eqb-iff (length t) s.cells).1 w.long), cells-pass w)

  -- and no other is accepted
  accepted-well-formed : checked s ls t ≡ reply 0 0 → WellFormed s t
  unfolding checked on_some
  accepted-well-formed =
      cond_cases (λ o. o ≡ reply 0 0 → WellFormed s t) (eqb (length t) s.cells) _ _ (λ long. by-cells long first_cell refl)
      (λ _ e. absurd (omega (arith, another-number _ _ _ _ e)))
    where
      by-cells : T (eqb (length t) s.cells) → (o : Option ℕ) → first_cell ≡ o → on_some o (reply 14) (by_row first_row) ≡ reply 0 0
          → WellFormed s t
      by-cells long none q e = record { long = eqb→eq (length t) s.cells long; below = cells-below q }
      by-cells long (some i) q e = absurd (omega (arith, another-number _ _ _ _ e))

-- ---- checking by a list

module _ (text : List ℕ) (ls : List Line) (s : Known) (t : List ℕ) (e : reading text ≡ read ls s) where
  check-of-read : check_reply text t ≡ checked s ls t
  unfolding check_reply on_reading
  check-of-read = rw e

  module _ (w : WellFormed s t) where
    check-by-rows : check_reply text t ≡ by_row (first_row s ls t)
    check-by-rows = check-of-read ∙ checked-by-rows s ls t w

    accepts : (check_reply text t ≡ reply 0 0) ↔ ((i : ℕ) → i < length (rows_of ls) → Holds s ls t i)
    accepts = rw check-by-rows (Iff.trans (no-row-fails (first_row s ls t)) (all_pass (holds s.p t) (among 0 0) 0 (rows_of ls)))

    refuses : (r : ℕ) → (check_reply text t ≡ reply 15 r) ↔ FirstFails (holds s.p t) (among 0 0) (rows_of ls) r
    refuses r = rw check-by-rows (Iff.trans (row-fails (first_row s ls t) r) (first-fails-at (holds s.p t) (among 0 0) r (rows_of ls)))

-- a table is accepted exactly when it is well formed and every row holds
pub accepted-iff : (text : List ℕ) (ls : List Line) (s : Known) (t : List ℕ) → reading text ≡ read ls s →
    (check_reply text t ≡ reply 0 0) ↔ (WellFormed s t × ((i : ℕ) → i < length (rows_of ls) → Holds s ls t i))
accepted-iff text ls s t e = (to, λ h. (accepts text ls s t e h.0).1 h.1)
  where
    to : check_reply text t ≡ reply 0 0 → WellFormed s t × ((i : ℕ) → i < length (rows_of ls) → Holds s ls t i)
    to q =
        let w : WellFormed s t = accepted-well-formed s ls t (sym (check-of-read text ls s t e) ∙ q) in
        (w, (accepts text ls s t e w).0 q)

pub checks-rows : ChecksRows
checks-rows text ls s t e w = (
  rw (← read-rows text ls s e) (accepts text ls s t e w),
  λ r. Iff.trans (refuses text ls s t e w r)
      (rw (← read-rows text ls s e)
      (λ f. (f.inside, f.fails, f.earlier), λ h. record { inside = h.0; fails = h.1; earlier = h.2 })),
  rw (check-by-rows text ls s t e w) (zero-or-fifteen (first_row s ls t)),
)
