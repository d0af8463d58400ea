-- What `write` promises, and what is claimed of the code's own replies and of the buffer that it leaves, as types: for all lines and every buffer. Each
-- claim speaks of a reply and a buffer that keep the promise (`Writes`). The proofs are terms of these types, in proofs/Claims.antt.
use Rattle.std.specs.Prelude.{ℕ, suc, ◌≤◌, ◌<◌, ◌≡◌, cond, ◌↔◌, Result, List, [], ◌∷◌, ◌++◌, map, T, leb, ltb, length, take, drop, ℤ}
use Rattle.meaning.specs.Text.{same_bytes}
use Rattle.meaning.specs.Word.{Word, kind_of, most_numbers}
use Rattle.meaning.specs.Word.{words as all_words}
use Rattle.meaning.specs.Line.{Line}
use Rattle.meaning.specs.Known.{Known}
use Rattle.meaning.specs.Refusal.{all, refused, read, reading}
use Rattle.meaning.specs.Reply.{reply, write_reply}
use Rattle.meaning.specs.Write.{given_of, text_of, lines_given}
use Rattle.refusal.specs.Refusal.{answered}
use Rattle.refusal.specs.declared.refused.Refused.{Refused}
use Rattle.given_lines.specs.Line.{all_sized}

-- what `write` promises of its reply and of the buffer afterwards. FORMAT 9.1, 9.2, 9.26, 9.27
pub record Writes (words counts : List ℕ) (numbers : List ℤ) (buffer : List ℕ) (r : Result ℕ Refused) (after : List ℕ) : Type 0 where
  pub replied : answered r ≡ (write_reply (lines_given words counts numbers) buffer).answer
  pub left : after ≡ (write_reply (lines_given words counts numbers) buffer).buffer

-- ---- the rows that give a list

-- these rows give the lines of a list. FORMAT 9.23
abbrev pub Gives : (words counts : List ℕ) (numbers : List ℤ) → List Line → Type 0
Gives words counts numbers ls = lines_given words counts numbers ≡ map given_of ls

-- the place of the word with this spelling among words. FORMAT 9.24
unfoldable pub code_among : List Word → (spelling : List ℕ) → ℕ
code_among [] f = 0
code_among (w ∷ ws) f = let later = code_among ws f in cond (same_bytes (kind_of w).spelling f) 0 (suc later)

-- the code of a word. FORMAT 9.24
unfoldable pub code_of : Word → ℕ
code_of w = code_among all_words (kind_of w).spelling

-- the three rows of a list: its codes, its counts, and the numbers of all lines. FORMAT 9.23
unfoldable pub codes_of : List Line → List ℕ
codes_of ls = map (λ (l : Line). code_of l.word) ls

unfoldable pub counts_of : List Line → List ℕ
counts_of ls = map (λ (l : Line). length l.numbers) ls

unfoldable pub all_numbers : List Line → List ℤ
all_numbers [] = []
all_numbers (l ∷ ls) = l.numbers ++ all_numbers ls

-- so there are rows for every list. FORMAT 9.23, 9.24, 9.25
abbrev pub EachListCanBeGiven : Type 0
EachListCanBeGiven = (ls : List Line) → Gives (codes_of ls) (counts_of ls) (all_numbers ls) ls

-- and those of a list that is read are what a call may be given: each code is a byte, no count is above 33, and numbers are as small as a text's.
-- FORMAT 2.6, 4.5, 9.1
abbrev pub RowsOfReadListsFit : Type 0
RowsOfReadListsFit =
    (text : List ℕ) (ls : List Line) (s : Known) → reading text ≡ read ls s →
    T (all (λ code. ltb code 256) (codes_of ls)) × T (all (λ n. leb n most_numbers) (counts_of ls)) × T (all_sized (all_numbers ls))

-- ---- there and back

-- text that is read and written comes back byte for byte, in every buffer that has room. FORMAT 9.28
abbrev pub WritesBack : Type 0
WritesBack =
    (words counts : List ℕ) (numbers : List ℤ) (buffer : List ℕ) (r : Result ℕ Refused) (after : List ℕ) → Writes words counts numbers buffer r after →
    (text : List ℕ) (ls : List Line) (s : Known) → reading text ≡ read ls s → Gives words counts numbers ls → length text ≤ length buffer →
    (answered r ≡ reply 0 (length text)) × (after ≡ text ++ drop (length text) buffer)

-- what is written is read as the lines that were given. FORMAT 9.28
abbrev pub IsReadBack : Type 0
IsReadBack =
    (words counts : List ℕ) (numbers : List ℤ) (buffer : List ℕ) (r : Result ℕ Refused) (after : List ℕ) → Writes words counts numbers buffer r after →
    (answered r).number ≡ 0 → (ls : List Line) × (s : Known) × Gives words counts numbers ls × (reading (take (answered r).place after) ≡ read ls s)

-- whatever is written for the lines that a text is read as is that text. FORMAT 9.28
abbrev pub OneSpelling : Type 0
OneSpelling =
    (words counts : List ℕ) (numbers : List ℤ) (buffer : List ℕ) (r : Result ℕ Refused) (after : List ℕ) → Writes words counts numbers buffer r after →
    (text : List ℕ) (ls : List Line) (s : Known) → reading text ≡ read ls s → Gives words counts numbers ls →
    (answered r).number ≡ 0 → take (answered r).place after ≡ text

-- ---- refusals

-- lines whose text is refused get that refusal, and its place, in every buffer. FORMAT 9.26, 13.9
abbrev pub RefusedAsItsText : Type 0
RefusedAsItsText =
    (words counts : List ℕ) (numbers : List ℤ) (buffer : List ℕ) (r : Result ℕ Refused) (after : List ℕ) → Writes words counts numbers buffer r after →
    (number place : ℕ) → reading (text_of (lines_given words counts numbers)) ≡ refused number place → answered r ≡ reply number place

-- and where it is read, the buffer is refused exactly when it has fewer bytes than the text. FORMAT 9.26, 10.21
abbrev pub ShortBuffers : Type 0
ShortBuffers =
    (words counts : List ℕ) (numbers : List ℤ) (buffer : List ℕ) (r : Result ℕ Refused) (after : List ℕ) → Writes words counts numbers buffer r after →
    let text : List ℕ = text_of (lines_given words counts numbers) in
    (ls : List Line) (s : Known) → reading text ≡ read ls s → (answered r ≡ reply 21 0) ↔ (length buffer < length text)

-- ---- memory

-- a refused writing leaves the buffer as it was. FORMAT 9.27
abbrev pub RefusedWritingChangesNothing : Type 0
RefusedWritingChangesNothing =
    (words counts : List ℕ) (numbers : List ℤ) (buffer : List ℕ) (r : Result ℕ Refused) (after : List ℕ) → Writes words counts numbers buffer r after →
    ¬ ((answered r).number ≡ 0) → after ≡ buffer

-- a writing leaves every byte after the text as it was. FORMAT 9.27
abbrev pub LeavesTheRest : Type 0
LeavesTheRest =
    (words counts : List ℕ) (numbers : List ℤ) (buffer : List ℕ) (r : Result ℕ Refused) (after : List ℕ) → Writes words counts numbers buffer r after →
    (answered r).number ≡ 0 → (drop (answered r).place after ≡ drop (answered r).place buffer) × (length after ≡ length buffer)
