-- The worked tables P1 to P11 as rows of one list with one statement, which is proved by computation; clauses 12.1 to 12.11 of docs/FORMAT.md.
-- Each row is written twice, as the text that the program reads and as words and numbers, and the statement compares the two: so no number of a
-- row can be changed alone.
use Rattle.std.specs.Prelude.{ℕ, Bool, true, false, ◌&&◌, List, [], ◌∷◌, ◌++◌, T, eqb, replicate, ℤ, pos, neg_ℤ}
use Prim.Native.String.{String}
use Rattle.std.specs.Int.Signed.{le_z}
use Rattle.meaning.specs.Text.{bytes, same_bytes, number_text}
use Rattle.meaning.specs.Word.{Word, field, input, span, sum, relu, which, max, root}
use Rattle.meaning.specs.Line.{Line}
use Rattle.meaning.specs.Refusal.{on_reading, reading}
use Rattle.meaning.specs.Reply.{Reply, reply, Answer, counts, refusal, read_reply, check_reply, Making, make_reply}
use Rattle.meaning.specs.Program.{refusal_text, table_text, respond}
use Rattle.meaning.specs.Write.{list_text}
use Rattle.meaning.specs.Claims.{values_of}

-- ---- texts

-- one input a line
unfoldable pub column_text : List ℤ → List ℕ
column_text [] = []
column_text (x ∷ xs) = number_text x ++ 10 ∷ column_text xs

-- what the program reads: a list, the line `end`, then one input a line. FORMAT 11.4
unfoldable pub input_text : List Line → List ℤ → List ℕ
input_text ls xs = list_text ls ++ bytes "end\n" ++ column_text xs

-- ---- comparisons

-- are two replies, two answers or two columns the same?
unfoldable pub same_reply : Reply → Reply → Bool
same_reply a b = eqb a.number b.number && eqb a.place b.place

unfoldable pub same_answer : Answer → Answer → Bool
same_answer (counts p v c r) (counts p' v' c' r') = eqb p p' && eqb v v' && eqb c c' && eqb r r'
same_answer (counts p v c r) (refusal b) = false
same_answer (refusal a) (counts p v c r) = false
same_answer (refusal a) (refusal b) = same_reply a b

unfoldable pub same_values : List ℤ → List ℤ → Bool
same_values [] [] = true
same_values [] (y ∷ ys) = false
same_values (x ∷ xs) [] = false
same_values (x ∷ xs) (y ∷ ys) = le_z x y && le_z y x && same_values xs ys

-- ---- a row: a call, and what it has to give

-- what is called, and what it has to give
pub data Example : Type 0 where
  reads : String → List Line → Answer → Example
  checks : String → List Line → (table : List ℕ) → Reply → Example
  makes : String → List Line → (inputs : List ℤ) → (table : List ℕ) → Example
  makes-values : String → List Line → (inputs values : List ℤ) → Example
  makes_none : String → List Line → (inputs : List ℤ) → Reply → Example

-- a making into a table of zeros of the list's length, and the values of a table
unfoldable pub making-of : List Line → List ℤ → Making
making-of ls xs =
    make_reply (list_text ls) xs (on_reading (reading (list_text ls)) (λ n at. []) (λ _ s. replicate s.cells 0))

unfoldable pub values-of : List Line → List ℕ → List ℤ
values-of ls t = on_reading (reading (list_text ls)) (λ n at. []) (λ _ s. values_of s t)

-- the text is the call's, and the call gives what is stated
unfoldable pub is_right : Example → Bool
is_right (reads text ls a) = same_bytes (bytes text) (list_text ls) && same_answer (read_reply (bytes text)) a
is_right (checks text ls t r) =
    same_bytes (bytes text) (list_text ls ++ table_text t) && same_reply (check_reply (list_text ls) t) r
is_right (makes text ls xs t) =
    same_bytes (bytes text) (input_text ls xs) && same_bytes (respond (bytes text)) (table_text t)
    && same_reply (making-of ls xs).answer (reply 0 0) && same_bytes (making-of ls xs).table t
    && same_reply (check_reply (list_text ls) t) (reply 0 0)
is_right (makes-values text ls xs vs) =
    same_bytes (bytes text) (input_text ls xs) && same_reply (making-of ls xs).answer (reply 0 0)
    && same_values (values-of ls (making-of ls xs).table) vs
is_right (makes_none text ls xs r) =
    same_bytes (bytes text) (input_text ls xs) && same_bytes (respond (bytes text)) (refusal_text r)
    && same_reply (making-of ls xs).answer r

unfoldable pub all_right : List Example → Bool
all_right [] = true
all_right (e ∷ es) = is_right e && all_right es

-- ---- the rows

-- a negative number, and a line
abbrev minus : ℕ → ℤ
minus n = neg_ℤ (pos n)

abbrev line : Word → List ℤ → Line
line w ns = record { word = w; numbers = ns }

-- a list over p with one input, one with two, and one with two that are spanned to 0..7
abbrev one : ℕ → List Line → List Line
one p ls = line field (pos p ∷ []) ∷ line input [] ∷ ls

abbrev two : List Line → List Line
two ls = one 31 (line input [] ∷ ls)

abbrev spanned : Line → List Line
spanned l = two (line span (pos 0 ∷ pos 2 ∷ pos 3 ∷ pos 0 ∷ []) ∷ line span (pos 1 ∷ pos 2 ∷ pos 3 ∷ pos 0 ∷ []) ∷ l ∷ [])

-- the lists of P1 to P6, of P7, and of P8 and P9
abbrev relu-list : List Line
relu-list = one 31 (line relu (pos 0 ∷ pos 2 ∷ pos 4 ∷ []) ∷ [])

abbrev root-list : ℕ → List Line
root-list k = one 31 (line root (pos 0 ∷ pos 2 ∷ pos k ∷ []) ∷ [])

abbrev span-list : (p b k : ℕ) → ℤ → List Line
span-list p b k L = one p (line span (pos 0 ∷ pos b ∷ pos k ∷ L ∷ []) ∷ [])

-- the rows
unfoldable pub examples : List Example
examples =
    -- P1. FORMAT 12.1, 11.12
    makes "field\t31\nin\nrelu\t0\t2\t4\nend\n-3\n" relu-list (minus 3 ∷ []) (28 ∷ 0 ∷ 1 ∷ 0 ∷ 1 ∷ 0 ∷ 0 ∷ 30 ∷ [])
    -- P2. FORMAT 12.2
    ∷ makes "field\t31\nin\nrelu\t0\t2\t4\nend\n5\n" relu-list (pos 5 ∷ []) (5 ∷ 5 ∷ 1 ∷ 0 ∷ 1 ∷ 1 ∷ 1 ∷ 0 ∷ [])
    -- P3. FORMAT 12.3
    ∷ makes "field\t31\nin\nrelu\t0\t2\t4\nend\n-8\n" relu-list (minus 8 ∷ []) (23 ∷ 0 ∷ 0 ∷ 0 ∷ 0 ∷ 0 ∷ 0 ∷ 30 ∷ [])
    -- P4. FORMAT 12.4
    ∷ makes_none "field\t31\nin\nrelu\t0\t2\t4\nend\n8\n" relu-list (pos 8 ∷ []) (reply 18 2)
    ∷ makes_none "field\t31\nin\nrelu\t0\t2\t4\nend\n-9\n" relu-list (minus 9 ∷ []) (reply 18 2)
    -- P5. FORMAT 12.5
    ∷ checks "field\t31\nin\nrelu\t0\t2\t4\ntable\t8\n0\t28\n1\t28\n2\t1\n3\t0\n4\t1\n5\t0\n6\t0\n7\t30\n"
    relu-list (28 ∷ 28 ∷ 1 ∷ 0 ∷ 1 ∷ 0 ∷ 0 ∷ 30 ∷ []) (reply 15 8)
    -- P6. FORMAT 12.6
    ∷ checks "field\t31\nin\nrelu\t0\t2\t4\ntable\t8\n0\t5\n1\t5\n2\t1\n3\t0\n4\t1\n5\t1\n6\t1\n7\t1\n"
    relu-list (5 ∷ 5 ∷ 1 ∷ 0 ∷ 1 ∷ 1 ∷ 1 ∷ 1 ∷ []) (reply 15 7)
    -- P7. FORMAT 12.7
    ∷ makes "field\t31\nin\nroot\t0\t2\t2\nend\n3\n"
    (root-list 2) (pos 3 ∷ []) (3 ∷ 1 ∷ 1 ∷ 1 ∷ 1 ∷ 1 ∷ 0 ∷ 0 ∷ 1 ∷ 0 ∷ 0 ∷ [])
    ∷ makes_none "field\t31\nin\nroot\t0\t2\t2\nend\n4\n" (root-list 2) (pos 4 ∷ []) (reply 18 2)
    ∷ reads "field\t31\nin\nroot\t0\t2\t1\n" (root-list 1) (refusal (reply 10 2))
    -- P8. FORMAT 12.8
    ∷ makes "field\t101\nin\nspan\t0\t5\t2\t-27\nend\n-18\n" (span-list 101 5 2 (minus 27)) (minus 18 ∷ []) (83 ∷ 4 ∷ 1 ∷ [])
    ∷ makes "field\t101\nin\nspan\t0\t5\t2\t-27\nend\n-27\n" (span-list 101 5 2 (minus 27)) (minus 27 ∷ []) (74 ∷ 0 ∷ 0 ∷ [])
    ∷ makes "field\t101\nin\nspan\t0\t5\t2\t-27\nend\n-3\n" (span-list 101 5 2 (minus 27)) (minus 3 ∷ []) (98 ∷ 4 ∷ 4 ∷ [])
    ∷ makes_none "field\t101\nin\nspan\t0\t5\t2\t-27\nend\n22\n" (span-list 101 5 2 (minus 27)) (pos 22 ∷ []) (reply 18 2)
    -- P9. FORMAT 12.9
    ∷ reads "field\t31\nin\nspan\t0\t2\t4\t0\n" (span-list 31 2 4 (pos 0)) (counts 31 1 5 5)
    ∷ reads "field\t31\nin\nspan\t0\t2\t4\t1\n" (span-list 31 2 4 (pos 1)) (refusal (reply 10 2))
    ∷ reads "field\t31\nin\nspan\t0\t31\t1\t-15\n" (span-list 31 31 1 (minus 15)) (counts 31 1 2 2)
    ∷ reads "field\t31\nin\nspan\t0\t2\t5\t-15\n" (span-list 31 2 5 (minus 15)) (refusal (reply 10 2))
    -- P10. FORMAT 12.10
    ∷ reads "field\t31\nin\nin\nmax\t0\t1\t2\t3\n"
    (two (line max (pos 0 ∷ pos 1 ∷ pos 2 ∷ pos 3 ∷ []) ∷ [])) (refusal (reply 10 3))
    ∷ makes-values "field\t31\nin\nin\nspan\t0\t2\t3\t0\nspan\t1\t2\t3\t0\nmax\t0\t1\t2\t3\nend\n3\n6\n"
    (spanned (line max (pos 0 ∷ pos 1 ∷ pos 2 ∷ pos 3 ∷ []))) (pos 3 ∷ pos 6 ∷ []) (pos 3 ∷ pos 6 ∷ pos 6 ∷ [])
    ∷ makes-values "field\t31\nin\nin\nspan\t0\t2\t3\t0\nspan\t1\t2\t3\t0\nwhich\t0\t1\t2\t4\nend\n2\n2\n"
    (spanned (line which (pos 0 ∷ pos 1 ∷ pos 2 ∷ pos 4 ∷ []))) (pos 2 ∷ pos 2 ∷ []) (pos 2 ∷ pos 2 ∷ pos 0 ∷ [])
    -- P11. FORMAT 12.11
    ∷ reads "field\t101\nin\nspan\t0\t2\t5\t0\nsum\t0\t2\t0\n"
    (one 101 (line span (pos 0 ∷ pos 2 ∷ pos 5 ∷ pos 0 ∷ []) ∷ line sum (pos 0 ∷ pos 2 ∷ pos 0 ∷ []) ∷ [])) (refusal (reply 11 3))
    ∷ []

-- the rows are right: proved in proofs/WorkedTables.antt. FORMAT 12.1
abbrev pub WorkedTables : Type 0
WorkedTables = T (all_right examples)
