-- The claims about the code's own replies, each from its claim over the definitions (crates/meaning/proofs/Write.antt) and the promise of `write`.
use Prim.Native.Nat.{ℕ, suc, ◌≤◌, ◌<◌}
use native.Mathlib.Omega.{arith}
use mathlib.Core.Path.{◌≡◌, refl, sym, ap, ap₂, ◌∙◌}
use mathlib.Core.Bool.{Bool, true, false, cond}
use mathlib.Core.Logic.{◌⊎◌, inl, inr, ◌↔◌}
use mathlib.Core.List.{List, [], ◌∷◌, ◌++◌, map}
use mathlib.Core.Option.{Option, some, none-ne-some}
use borrow.Author.Tests.{le-leb}
use lib.Dec.{T, leb, ltb, leb→le, le→leb, nleb→lt}
use lib.ListN.{length, take, drop, length-append, length-drop}
use lib.Seq.{take_at, drop_at}
use lib.IntN.{ℤ, nat_abs}
use Rattle.algebra.proofs.Test.{both, left, right, ≡-test, false-test, cond_cases}
use Rattle.meaning.specs.Text.{bytes, same_bytes, largest, lines_of}
use Rattle.meaning.specs.Word.{Word, kind_of, words, most_numbers}
use Rattle.meaning.specs.Line.{Line, word_among, line_of}
use Rattle.meaning.specs.Known.{Known}
use Rattle.meaning.specs.Refusal.{all, read, on_reading, reading}
use Rattle.meaning.specs.Reply.{reply, Writing, writing, written, write_reply}
use Rattle.meaning.specs.Reply.{Reply as Meant}
use Rattle.meaning.specs.Write.{Given, given_of, given_text, element_at, word_with, line_given, lines_given, text_of}
use Rattle.meaning.proofs.Words.{every-word, among-spelling}
use Rattle.meaning.proofs.Reading.{reads-exactly}
use Rattle.meaning.proofs.Accepted.{refused-not-zero, by-reading}
use Rattle.meaning.proofs.Write.{lines-given, writes-back as meant-back, is-read-back as meant-read-back}
use Rattle.std.specs.Prelude.{Result}
use Rattle.refusal.specs.Refusal.{answered}
use Rattle.refusal.specs.declared.refused.Refused.{Refused}
use Rattle.given_lines.specs.Line.{all_sized}
use Rattle.writer.specs.Claims.{Writes, code_among, code_of, codes_of, counts_of, all_numbers, EachListCanBeGiven, RowsOfReadListsFit, WritesBack, IsReadBack, OneSpelling, RefusedAsItsText, ShortBuffers, RefusedWritingChangesNothing, LeavesTheRest}
use Rattle.given_lines.proofs.Taking.{counted-most, no-count-line, no-size-line}

-- ---- rows for every list

-- the word with the code of a spelling is the one that has it
code_at : (b : Bool) (v w : Word) (ws : List Word) (later : Option Word) (n : ℕ) → (later ≡ some w → element_at ws n ≡ some w)
    → cond b (some v) later ≡ some w → element_at (v ∷ ws) (cond b 0 (suc n)) ≡ some w
unfolding element_at
code_at true v w ws later n rest e = e
code_at false v w ws later n rest e = rest e

code-among : (ws : List Word) (f : List ℕ) (w : Word) → word_among ws f ≡ some w → element_at ws (code_among ws f) ≡ some w
unfolding word_among code_among
code-among [] f w e = absurd (none-ne-some _ e)
code-among (v ∷ ws) f w e = code_at (same_bytes (kind_of v).spelling f) v w ws (word_among ws f) (code_among ws f) (code-among ws f w) e

word-coded : (w : Word) → word_with (code_of w) ≡ some w
unfolding word_with code_of
word-coded w = code-among words (kind_of w).spelling w (among-spelling w)

line-given : (l : Line) (ns : List ℤ) → line_given (code_of l.word) (length l.numbers) (l.numbers ++ ns) ≡ given_of l
unfolding line_given given_of
line-given l ns =
    let room : length l.numbers ≤ length (l.numbers ++ ns) = omega (arith, length-append l.numbers ns) in
    rw (le-leb (length l.numbers) (length (l.numbers ++ ns)) room, word-coded l.word, take_at l.numbers ns (length l.numbers) refl) refl

pub each-list-can-be-given : EachListCanBeGiven
unfolding lines_given codes_of counts_of all_numbers
each-list-can-be-given [] = refl
each-list-can-be-given (l ∷ ls) =
    ap₂ (λ (g : Given) (gs : List Given). g ∷ gs) (line-given l (all_numbers ls))
    (rw (drop_at l.numbers (all_numbers ls) (length l.numbers) refl) (each-list-can-be-given ls))

-- ---- how a writing comes out: a refusal that leaves the buffer, or the text and what was after it

module _ (text buffer : List ℕ) where
  abbrev Wrote : Writing → Type 0
  Wrote w = (w ≡ writing (reply 0 (length text)) (text ++ drop (length text) buffer)) × (length text ≤ length buffer)

  abbrev Outcome : Writing → Type 0
  Outcome w = ((0 < w.answer.number) × (w.buffer ≡ buffer)) ⊎ Wrote w

  written-outcome : Outcome (written text buffer)
  unfolding written
  written-outcome =
      cond_cases Outcome (leb (length text) (length buffer)) _ _
      (λ t. inr (refl, leb→le (length text) (length buffer) t))
      (λ e. inl (omega arith, refl))

  abbrev Short : Writing → Type 0
  Short w = (w.answer ≡ reply 21 0) ↔ (length buffer < length text)

  written-short : Short (written text buffer)
  unfolding written
  written-short =
      cond_cases Short (leb (length text) (length buffer)) _ _
      (λ t. (λ q. absurd (omega (arith, ap (λ (a : Meant). a.number) q)), λ h. absurd (omega (arith, leb→le (length text) (length buffer) t))))
      (λ e. (λ q. nleb→lt (length text) (length buffer) (false-test (leb (length text) (length buffer)) e), λ h. refl))

write-outcome : (gs : List Given) (buffer : List ℕ) → Outcome (text_of gs) buffer (write_reply gs buffer)
unfolding write_reply on_reading
write-outcome gs buffer = by-reading (text_of gs)
    (λ n i q. rw q (inl (refused-not-zero (text_of gs) n i q, refl)))
    (λ ls s q. rw q (written-outcome (text_of gs) buffer))

-- the text of the lines that a text is read as is that text
text-again : (text : List ℕ) (ls : List Line) (s : Known) → reading text ≡ read ls s → text_of (map given_of ls) ≡ text
text-again text ls s e = by (write-outcome (map given_of ls) text)
  where
    t : List ℕ
    t = text_of (map given_of ls)

    back : write_reply (map given_of ls) text ≡ writing (reply 0 (length text)) (text ++ drop (length text) text)
    back = meant-back text ls s text e (omega arith)

    by : Outcome t text (write_reply (map given_of ls) text) → t ≡ text
    by (inl h) = absurd (omega (arith, h.0, ap (λ (w : Writing). w.answer.number) back))
    by (inr h) =
        sym (take_at t (drop (length t) text) (length t) refl)
        ∙ ap (λ (w : Writing). take w.answer.place w.buffer) (sym h.0 ∙ back)
        ∙ take_at text (drop (length text) text) (length text) refl

-- ---- the rows of a list that is read

all_append : {A : Type 0} (f : A → Bool) (xs ys : List A) → T (all f xs) → T (all f ys) → T (all f (xs ++ ys))
unfolding all
all_append f [] ys t u = u
all_append f (x ∷ xs) ys t u = both (f x) (all f (xs ++ ys)) (left (f x) (all f xs) t) (all_append f xs ys (right (f x) (all f xs) t) u)

code_fits : (w : Word) → T (ltb (code_of w) 256)
unfolding code_of code_among all words kind_of bytes same_bytes
code_fits w = ≡-test (ltb (code_of w) 256) (every-word (λ v. ltb (code_of v) 256) refl w)

-- a line that its own text spells has no more numbers than the most, of sizes that are allowed
count_fits : (l : Line) → line_of (given_text (given_of l)) ≡ some l → T (leb (length l.numbers) most_numbers)
unfolding given_of
count_fits l e = by ((kind_of l.word).is_counted l.numbers) refl
  where
    by : (b : Bool) → (kind_of l.word).is_counted l.numbers ≡ b → T (leb (length l.numbers) most_numbers)
    by true q = le→leb (length l.numbers) most_numbers (counted-most l.word l.numbers q)
    by false q = absurd (none-ne-some _ (sym (no-count-line l.numbers refl q) ∙ e))

sizes-fit : (l : Line) → line_of (given_text (given_of l)) ≡ some l → T (all_sized l.numbers)
unfolding given_of
sizes-fit l e = by (all_sized l.numbers) refl
  where
    by : (b : Bool) → all_sized l.numbers ≡ b → T b
    by true q = tt
    by false q = absurd (none-ne-some _ (sym (no-size-line l.numbers refl q) ∙ e))

abbrev RowsFit : List Line → Type 0
RowsFit ls = T (all (λ code. ltb code 256) (codes_of ls)) × T (all (λ n. leb n most_numbers) (counts_of ls)) × T (all_sized (all_numbers ls))

lines_fit : (ls : List Line) → map line_of (map given_text (map given_of ls)) ≡ map some ls → RowsFit ls
unfolding codes_of counts_of all_numbers all_sized all
lines_fit [] e = (tt, tt, tt)
lines_fit (l ∷ ls) e =
    let first : line_of (given_text (given_of l)) ≡ some l = cc in
    let later : map line_of (map given_text (map given_of ls)) ≡ map some ls = cc in
    let (codes, counts, sizes) = lines_fit ls later in (
      both (ltb (code_of l.word) 256) _ (code_fits l.word) codes,
      both (leb (length l.numbers) most_numbers) _ (count_fits l first) counts,
      all_append (λ z. leb (nat_abs z) largest) l.numbers (all_numbers ls) (sizes-fit l first) sizes,
    )

pub rows-of-read-lists-fit : RowsOfReadListsFit
rows-of-read-lists-fit text ls s e =
    let lines : lines_of text ≡ map given_text (map given_of ls) = ap lines_of (sym (text-again text ls s e)) ∙ lines-given (map given_of ls) in
    lines_fit ls (ap (map line_of) (sym lines) ∙ ((reads-exactly text).2 ls s e).0)

-- ---- a reply that keeps the promise

module _ {words counts : List ℕ} {numbers : List ℤ} {buffer : List ℕ} {r : Result ℕ Refused} {after : List ℕ} (promise : Writes words counts numbers buffer r after) where
  abbrev gs : List Given
  gs = lines_given words counts numbers

  replied-number : (answered r).number ≡ (write_reply gs buffer).answer.number
  replied-number = ap (λ (q : Meant). q.number) promise.replied

  replied-place : (answered r).place ≡ (write_reply gs buffer).answer.place
  replied-place = ap (λ (q : Meant). q.place) promise.replied

  -- the text stands at the start of the buffer, and the place is its length
  abbrev Stands : List ℕ → Type 0
  Stands text = ((answered r).place ≡ length text) × (after ≡ text ++ drop (length text) buffer) × (length text ≤ length buffer)

  wrote : (answered r).number ≡ 0 → Stands (text_of gs)
  wrote z = by (write-outcome gs buffer)
    where
      by : Outcome (text_of gs) buffer (write_reply gs buffer) → Stands (text_of gs)
      by (inl h) = absurd (omega (arith, h.0, replied-number))
      by (inr h) = (replied-place ∙ ap (λ (w : Writing). w.answer.place) h.0, promise.left ∙ ap (λ (w : Writing). w.buffer) h.0, h.1)

-- ---- there and back

pub writes-back : WritesBack
writes-back words counts numbers buffer r after promise text ls s e gives room =
    let w = ap (λ (gs : List Given). write_reply gs buffer) gives ∙ meant-back text ls s buffer e room in
    (promise.replied ∙ ap (λ (x : Writing). x.answer) w, promise.left ∙ ap (λ (x : Writing). x.buffer) w)

pub is-read-back : IsReadBack
is-read-back words counts numbers buffer r after promise z =
    let (ls, s, same, again) = meant-read-back (lines_given words counts numbers) buffer (sym (replied-number promise) ∙ z) in
    let taken = ap₂ (λ (n : ℕ) (b : List ℕ). reading (take n b)) (replied-place promise) promise.left in
    (ls, s, sym same, taken ∙ again)

pub one-spelling : OneSpelling
one-spelling words counts numbers buffer r after promise text ls s e gives z =
    let given = text_of (lines_given words counts numbers) in
    let (place, stands, room) = wrote promise z in
    ap₂ (λ (n : ℕ) (b : List ℕ). take n b) place stands ∙ take_at given (drop (length given) buffer) (length given) refl
    ∙ ap text_of gives ∙ text-again text ls s e

-- ---- refusals

pub refused-as-its-text : RefusedAsItsText
unfolding write_reply on_reading
refused-as-its-text words counts numbers buffer r after promise n i e = promise.replied ∙ rw e refl

pub short-buffers : ShortBuffers
unfolding write_reply on_reading
short-buffers words counts numbers buffer r after promise ls s e =
    let text : List ℕ = text_of (lines_given words counts numbers) in
    let is : answered r ≡ (written text buffer).answer = promise.replied ∙ rw e refl in
    rw is (written-short text buffer)

-- ---- memory

pub refused-writing-changes-nothing : RefusedWritingChangesNothing
refused-writing-changes-nothing words counts numbers buffer r after promise other = by (write-outcome (lines_given words counts numbers) buffer)
  where
    by : Outcome (text_of (lines_given words counts numbers)) buffer (write_reply (lines_given words counts numbers) buffer) → after ≡ buffer
    by (inl h) = promise.left ∙ h.1
    by (inr h) = absurd (other (replied-number promise ∙ ap (λ (w : Writing). w.answer.number) h.0))

pub leaves-the-rest : LeavesTheRest
leaves-the-rest words counts numbers buffer r after promise z =
    let text : List ℕ = text_of (lines_given words counts numbers) in
    let (place, stands, room) = wrote promise z in
    rw (place, stands) (
      drop_at text (drop (length text) buffer) (length text) refl,
      length-append text (drop (length text) buffer) ∙ omega (arith, room, length-drop (length text) buffer),
    )
