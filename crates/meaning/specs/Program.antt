-- The program's whole output for the bytes of its input: a list, the line `end` and the inputs are answered by a table or by one refusal; chapter
-- 11 of docs/FORMAT.md.
use Rattle.std.specs.Prelude.{ℕ, suc, Bool, true, false, cond, List, [], ◌∷◌, ◌++◌, leb, eqb, length, replicate}
use Rattle.std.proofs.Math.Option.{Option, none, some}
use Rattle.meaning.specs.Text.{bytes, same_bytes, lines_of, is_ended, number, decimal_of}
use Rattle.meaning.specs.Line.{numbers_of}
use Rattle.meaning.specs.Refusal.{text_limit, on_some, on_reading, reading}
use Rattle.meaning.specs.Reply.{Reply, reply, first_fail, Making, made}

-- ---- the output

-- two fields, parted by a tab
unfoldable pub tabbed : (first second : List ℕ) → List ℕ
tabbed first second = first ++ 9 ∷ second

-- one line: the word, the number and the place. FORMAT 11.9, 11.10
unfoldable pub refusal_text : Reply → List ℕ
refusal_text r = tabbed (bytes "refused") (tabbed (decimal_of r.number) (decimal_of r.place)) ++ 10 ∷ []

-- a line for each cell, from cell i on: its number and what it holds. FORMAT 11.8
unfoldable pub cells_text : ℕ → List ℕ → List ℕ
cells_text i [] = []
cells_text i (c ∷ cs) = tabbed (decimal_of i) (decimal_of c) ++ 10 ∷ cells_text (suc i) cs

-- the count of cells, then the cells. FORMAT 11.8, 11.10
unfoldable pub table_text : List ℕ → List ℕ
table_text t = tabbed (bytes "table") (decimal_of (length t)) ++ 10 ∷ cells_text 0 t

-- the table, or the refusal. FORMAT 11.7
unfoldable pub making_text : Making → List ℕ
making_text m = cond (eqb m.answer.number 0) (table_text m.table) (refusal_text m.answer)

-- ---- the input

-- the lines before the first line `end`, and those after it. FORMAT 11.4
pub record Parts : Type 0 where
  pub list : List (List ℕ)
  pub inputs : List (List ℕ)

-- a line more in the list
unfoldable pub cons_part : List ℕ → Option Parts → Option Parts
cons_part l none = none
cons_part l (some ps) = some (record { list = l ∷ ps.list; inputs = ps.inputs })

-- cut at the first line that is these three bytes. FORMAT 11.3, 11.4
unfoldable pub parts_of : List (List ℕ) → Option Parts
parts_of [] = none
parts_of (l ∷ ls) =
    let later = cons_part l (parts_of ls) in cond (same_bytes l (bytes "end")) (some (record { list = []; inputs = ls })) later

-- the text of lines, each ended by byte 10. FORMAT 11.4
unfoldable pub joined : List (List ℕ) → List ℕ
joined [] = []
joined (l ∷ ls) = l ++ 10 ∷ joined ls

-- is there one?
unfoldable pub is_some : {A : Type 0} → Option A → Bool
is_some none = false
is_some (some x) = true

-- the list, and the empty one where there is none
unfoldable pub or_none : {A : Type 0} → Option (List A) → List A
or_none none = []
or_none (some xs) = xs

-- ---- the answer

-- the list is read, then each input line has to be a number, then the table is made; the place of an input line is counted over the whole input.
-- FORMAT 11.5, 11.6, 11.7
unfoldable pub answer_parts : Parts → List ℕ
answer_parts ps =
    on_reading (reading (joined ps.list))
    (λ n at. refusal_text (reply n at))
    (λ ls s. on_some (first_fail (λ l. is_some (number l)) (suc (length ps.list)) ps.inputs)
    (λ n. refusal_text (reply 3 n))
    (making_text (made s ls (or_none (numbers_of ps.inputs)) (replicate s.cells 0))))

-- without a line `end`: 2, 0. FORMAT 11.3
unfoldable pub on_parts : Option Parts → List ℕ
on_parts none = refusal_text (reply 2 0)
on_parts (some ps) = answer_parts ps

-- the length and the last byte of the whole input come first. FORMAT 11.2, 11.11
unfoldable pub respond : List ℕ → List ℕ
respond text =
    cond (leb (length text) text_limit)
    (cond (is_ended text) (on_parts (parts_of (lines_of text))) (refusal_text (reply 2 0)))
    (refusal_text (reply 1 0))
