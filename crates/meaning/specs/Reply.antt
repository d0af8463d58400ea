-- What reading, checking, making, showing and writing reply, and what they leave in the lent table or buffer; clauses 9.3 to 9.10, 9.26 and 9.27,
-- and refusals 13 to 18 and 21, of docs/FORMAT.md.
use Rattle.std.specs.Prelude.{ℕ, zero, suc, Bool, cond, List, [], ◌∷◌, ◌++◌, leb, ltb, eqb, length, take, drop, ℤ}
use Rattle.std.proofs.Math.Option.{Option, none, some}
use Rattle.meaning.specs.Number.{in_range}
use Rattle.meaning.specs.Line.{Line}
use Rattle.meaning.specs.Write.{Given, text_of}
use Rattle.meaning.specs.Known.{Known, fresh}
use Rattle.meaning.specs.Row.{Row, holds}
use Rattle.meaning.specs.Meaning.{gadget, after}
use Rattle.meaning.specs.Refusal.{on_some, on_reading, reading}
use Rattle.meaning.specs.Work.{Worked, false-at, true-table, work}

-- a number and a place; 0, 0 where a table is accepted or made. FORMAT 9.3
pub record Reply : Type 0 where
  pub number : ℕ
  pub place : ℕ

abbrev pub reply : ℕ → ℕ → Reply
reply n at = record { number = n; place = at }

-- ---- reading

-- what reading replies: p and the counts of values, cells and rows, or a refusal. FORMAT 9.4
pub data Answer : Type 0 where
  counts : (p values cells rows : ℕ) → Answer
  refusal : Reply → Answer

-- the counts are those of the whole list. FORMAT 8.7, 9.4
unfoldable pub read_reply : List ℕ → Answer
read_reply text =
    on_reading (reading text) (λ n at. refusal (reply n at)) (λ ls s. counts s.p (length s.known) s.cells s.rows)

-- ---- checking: 13, 14, 15

-- the place of the first element that fails a test, counted from n
unfoldable pub first_fail : {A : Type 0} → (A → Bool) → ℕ → List A → Option ℕ
first_fail f n [] = none
first_fail f n (x ∷ xs) = let later = first_fail f (suc n) xs in cond (f x) later (some n)

-- the refusal at a place, where there is one
unfoldable pub refusal_at : (number : ℕ) → Option ℕ → Option Reply
refusal_at r none = none
refusal_at r (some i) = some (reply r i)

-- the rows of a list, in order. FORMAT 7.6
unfoldable pub rows_from : Known → List Line → List Row
rows_from s [] = []
rows_from s (l ∷ ls) = (gadget s l).rows ++ rows_from (after s l) ls

-- the rows of a list. FORMAT 7.6
unfoldable pub rows_of : List Line → List Row
rows_of ls = rows_from fresh ls

-- is this number a remainder? p and what is above it are none. FORMAT 1.5, 12.14
unfoldable pub is_cell : (p cell : ℕ) → Bool
is_cell p cell = ltb cell p

-- the length, then all cells, then rows in order. FORMAT 10.13, 10.14, 10.15, 13.6
unfoldable pub checked : Known → List Line → List ℕ → Reply
checked s ls t =
    cond (eqb (length t) s.cells)
    (on_some (first_fail (is_cell s.p) 0 t) (reply 14) (on_some (first_fail (holds s.p t) 0 (rows_of ls)) (reply 15) (reply 0 0)))
    (reply 13 0)

-- what checking replies: the refusal of the list comes first. FORMAT 9.6, 13.6
unfoldable pub check_reply : (list table : List ℕ) → Reply
check_reply text t = on_reading (reading text) reply (λ ls s. checked s ls t)

-- ---- making: 13, 16, 17, 18

-- a making's reply, and the table after it. FORMAT 9.8
pub record Making : Type 0 where
  pub answer : Reply
  pub table : List ℕ

abbrev pub making : Reply → List ℕ → Making
making r t = record { answer = r; table = t }

-- the true table, or the first false line and the table as it was. FORMAT 9.8, 10.18
unfoldable pub filled : Worked → List ℕ → Making
filled (false-at n) t = making (reply 18 n) t
filled (true-table vs cs) t = making (reply 0 0) cs

-- the length, then the count of inputs, then all inputs, then the lines; a refusal leaves the table as it was. FORMAT 10.13, 10.16, 10.17, 13.7
unfoldable pub made : Known → List Line → List ℤ → List ℕ → Making
made s ls xs t =
    cond (eqb (length t) s.cells)
    (cond (eqb (length xs) s.inputs)
    (on_some (first_fail (in_range s.p) 0 xs) (λ i. making (reply 17 i) t) (filled (work ls xs) t))
    (making (reply 16 0) t))
    (making (reply 13 0) t)

-- what making replies and leaves: the refusal of the list comes first. FORMAT 9.7, 9.8, 13.7
unfoldable pub make_reply : (list : List ℕ) → List ℤ → (table : List ℕ) → Making
make_reply text xs t = on_reading (reading text) (λ n at. making (reply n at) t) (λ ls s. made s ls xs t)

-- ---- showing: the stretch of the table that holds the cells of line n

-- as many cells as the line has, from its first. FORMAT 9.9
unfoldable pub stretch : Known → List Line → (n : ℕ) → List ℕ → List ℕ
stretch s [] n t = []
stretch s (l ∷ ls) zero t = take (gadget s l).width (drop s.cells t)
stretch s (l ∷ ls) (suc n) t = stretch (after s l) ls n t

-- nothing is shown of a refused list or a table of the wrong length; no cell is looked at. FORMAT 9.9, 9.10
unfoldable pub shown : (list table : List ℕ) (line : ℕ) → List ℕ
shown text t n = on_reading (reading text) (λ _ _. []) (λ ls s. cond (eqb (length t) s.cells) (stretch fresh ls n t) [])

-- the cell where that stretch starts, 0 where nothing is shown. FORMAT 9.10
unfoldable pub start_from : Known → List Line → (n : ℕ) → ℕ
start_from s [] n = 0
start_from s (l ∷ ls) zero = s.cells
start_from s (l ∷ ls) (suc n) = start_from (after s l) ls n

-- the cell that the part starts at. FORMAT 9.10
unfoldable pub shown_from : (list table : List ℕ) (line : ℕ) → ℕ
shown_from text t n = on_reading (reading text) (λ _ _. 0) (λ ls s. cond (eqb (length t) s.cells) (start_from fresh ls n) 0)

-- ---- writing: 21

-- a writing's reply, and the buffer after it. FORMAT 9.27
pub record Writing : Type 0 where
  pub answer : Reply
  pub buffer : List ℕ

abbrev pub writing : Reply → List ℕ → Writing
writing r b = record { answer = r; buffer = b }

-- the text at the start of the buffer, where it has room. FORMAT 9.26, 9.27, 10.21
unfoldable pub written : (text buffer : List ℕ) → Writing
written text b =
    cond (leb (length text) (length b)) (writing (reply 0 (length text)) (text ++ drop (length text) b)) (writing (reply 21 0) b)

-- what writing replies and leaves: the refusal of the text comes first. FORMAT 9.26, 9.27, 13.9
unfoldable pub write_reply : List Given → (buffer : List ℕ) → Writing
write_reply gs b = on_reading (reading (text_of gs)) (λ n at. writing (reply n at) b) (λ ls s. written (text_of gs) b)
