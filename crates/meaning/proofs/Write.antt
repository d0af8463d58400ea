-- A line and a list as text: what is written is read as the same lines, text that is read is written as it was, and so each list has one spelling.
-- FORMAT 9.28
use mathlib.Core.Path.{◌≡◌, refl, sym, ap, ap₂, ◌∙◌}
use mathlib.Core.Bool.{Bool, true, false, cond, ◌&&◌}
use mathlib.Core.List.{List, [], ◌∷◌, ◌++◌, map, append-nil}
use mathlib.Core.Logic.{⊎_elim}
use mathlib.Core.Option.{Option, none, some, none-ne-some, some-injective}
use Prim.Native.Nat.{ℕ, suc, ◌≤◌, ◌<◌}
use native.Mathlib.Omega.{arith}
use lib.Dec.{T, leb, ltb}
use lib.ListN.{length, take, drop}
use lib.Seq.{take_at}
use lib.IntN.{ℤ, pos, negsuc, nat_abs}
use Rattle.algebra.proofs.Test.{decide, false-not, both, left, right, test-≡, ≡-test, leb-iff, ltb_iff, false-eqb}
use Rattle.meaning.specs.Text.{bytes, same_bytes, split, is_digit, all_digits, largest, number, decimal_of, number_text, lines_of, without_last, is_ended, fields_of}
use Rattle.meaning.specs.Word.{Word, kind_of, words}
use Rattle.meaning.specs.Line.{Line, word_among, cons_number, numbers_of, assemble, line_of_fields, line_of}
use Rattle.meaning.specs.Refusal.{all, Reading, refused, read, on_reading, reading}
use Rattle.meaning.specs.Reply.{reply, Writing, writing, written, write_reply}
use Rattle.meaning.specs.Known.{Known}
use Rattle.meaning.specs.Claims.{not-ended, WritesBack, IsReadBack, OneSpelling}
use Rattle.meaning.specs.Write.{Given, given, given_of, word_text, fields_text, given_text, text_of}
use Rattle.meaning.proofs.Words.{every-word, all_above, among-spelling, word-spelled}
use Rattle.meaning.proofs.NumberText.{spells, number_read, number-over, number-written}
use Rattle.meaning.proofs.Split.{Free, free-append, split-free, split-past, after_each, unsplit, split-joined, without-last, ended, lines-joined}
use Rattle.meaning.proofs.Reading.{reads-exactly}
use Rattle.meaning.proofs.Accepted.{refused-not-zero}

-- ---- the bytes of a line: neither words nor numbers have a separator among them

above-free : (separator : ℕ) (xs : List ℕ) → separator ≤ 10 → T (all_above xs) → Free separator xs
unfolding all_above
above-free separator [] h t = tt
above-free separator (x ∷ xs) h t =
    let low : 10 < x = (ltb_iff 10 x).0 (left (ltb 10 x) (all_above xs) t) in
    (false-eqb x separator (λ e. omega arith), above-free separator xs h (right (ltb 10 x) (all_above xs) t))

digits_above : (xs : List ℕ) → T (all_digits xs) → T (all_above xs)
unfolding all_digits is_digit all_above
digits_above [] t = tt
digits_above (x ∷ xs) t =
    let low : 48 ≤ x = (leb-iff 48 x).0 (left (leb 48 x) (leb x 57) (left (leb 48 x && leb x 57) (all_digits xs) t)) in
    both (ltb 10 x) (all_above xs) ((ltb_iff 10 x).1 (omega arith)) (digits_above xs (right (leb 48 x && leb x 57) (all_digits xs) t))

number-above : (z : ℤ) → T (all_above (number_text z))
unfolding number_text all_above
number-above (pos n) = digits_above (decimal_of n) (spells n).digits
number-above (negsuc n) = digits_above (decimal_of (suc n)) (spells (suc n)).digits

word-above : (w : Option Word) → T (all_above (word_text w))
unfolding word_text all_above all words kind_of bytes
word-above none = tt
word-above (some w) = ≡-test (all_above (kind_of w).spelling) (every-word (λ v. all_above (kind_of v).spelling) refl w)

fields_free : (ns : List ℤ) → Free 10 (fields_text ns)
unfolding fields_text
fields_free [] = tt
fields_free (n ∷ ns) = (refl, free-append 10 (number_text n) (fields_text ns) (above-free 10 (number_text n) (omega arith) (number-above n)) (fields_free ns))

-- ---- the fields of a line

fields-after : (w : List ℕ) (ns : List ℤ) → Free 9 w → split 9 (w ++ fields_text ns) ≡ w ∷ map number_text ns
unfolding fields_text
fields-after w [] f = rw (append-nil w) (split-free 9 w f)
fields-after w (n ∷ ns) f =
    split-past 9 w (number_text n ++ fields_text ns) f
    ∙ ap (λ (fs : List (List ℕ)). w ∷ fs) (fields-after (number_text n) ns (above-free 9 (number_text n) (omega arith) (number-above n)))

given-fields : (g : Given) → fields_of (given_text g) ≡ word_text g.word ∷ map number_text g.numbers
unfolding fields_of given_text
given-fields g = fields-after (word_text g.word) g.numbers (above-free 9 (word_text g.word) (omega arith) (word-above g.word))

given-free : (g : Given) → Free 10 (given_text g)
unfolding given_text
given-free g = free-append 10 (word_text g.word) (fields_text g.numbers) (above-free 10 (word_text g.word) (omega arith) (word-above g.word)) (fields_free g.numbers)

-- ---- words and numbers, there and back

no_word : word_among words [] ≡ none
unfolding word_among words kind_of bytes same_bytes
no_word = refl

-- a word is found by its text, and where there is none nothing is found
word-text : (w : Option Word) → word_among words (word_text w) ≡ w
unfolding word_text
word-text none = no_word
word-text (some w) = among-spelling w

-- numbers that are read from their texts are themselves
number-back : (z y : ℤ) → number (number_text z) ≡ some y → y ≡ z
number-back z y e = elim (native.Mathlib.Decide.dec_lt largest (nat_abs z)) [
  | yes h ↦ absurd (none-ne-some _ (sym (number-over z h) ∙ e))
  | no h ↦ sym (some-injective _ _ (sym (number_read z (omega arith)) ∙ e))
]

cons-parts : (o : Option ℤ) (r : Option (List ℤ)) (ms : List ℤ) → cons_number o r ≡ some ms
    → (y : ℤ) × (ys : List ℤ) × (o ≡ some y) × (r ≡ some ys) × (y ∷ ys ≡ ms)
unfolding cons_number
cons-parts none r ms e = absurd (none-ne-some _ e)
cons-parts (some y) none ms e = absurd (none-ne-some _ e)
cons-parts (some y) (some ys) ms e = (y, ys, refl, refl, some-injective _ _ e)

numbers-back : (ns ms : List ℤ) → numbers_of (map number_text ns) ≡ some ms → ms ≡ ns
unfolding numbers_of
numbers-back [] ms e = sym (some-injective _ _ e)
numbers-back (n ∷ ns) ms e =
    let (y, ys, a, b, c) = cons-parts (number (number_text n)) (numbers_of (map number_text ns)) ms e in
    sym c ∙ ap₂ (λ (x : ℤ) (xs : List ℤ). x ∷ xs) (number-back n y a) (numbers-back ns ys b)

-- and texts that numbers are read from are theirs
numbers-written : (fs : List (List ℕ)) (ns : List ℤ) → numbers_of fs ≡ some ns → fields_text ns ≡ after_each 9 fs
unfolding numbers_of fields_text after_each
numbers-written [] ns e = rw (← some-injective _ _ e) refl
numbers-written (f ∷ fs) ns e =
    let (y, ys, a, b, c) = cons-parts (number f) (numbers_of fs) ns e in
    rw (← c) (ap₂ (λ (t : List ℕ) (r : List ℕ). 9 ∷ t ++ r) (number-written f y a) (numbers-written fs ys b))

-- ---- a line, there and back

-- what is read of a line that is given: its word and the numbers that their texts spell
pub given-line : (g : Given) → line_of (given_text g) ≡ assemble g.word (numbers_of (map number_text g.numbers))
unfolding line_of line_of_fields
given-line g = rw (given-fields g, word-text g.word) refl

line-parts : (o : Option Word) (r : Option (List ℤ)) (l : Line) → assemble o r ≡ some l → (o ≡ some l.word) × (r ≡ some l.numbers)
unfolding assemble
line-parts none r l e = absurd (none-ne-some _ e)
line-parts (some w) none l e = absurd (none-ne-some _ e)
line-parts (some w) (some ns) l e = by_count ((kind_of w).is_counted ns) e
  where
    by_count : (b : Bool) → cond b (some (record { word = w; numbers = ns })) none ≡ some l → (some w ≡ some l.word) × (some ns ≡ some l.numbers)
    by_count true q = let i : record { word = w; numbers = ns } ≡ l = some-injective _ _ q in rw (← i) (refl, refl)
    by_count false q = absurd (none-ne-some _ q)

given_back : (g : Given) (l : Line) → line_of (given_text g) ≡ some l → given_of l ≡ g
unfolding given_of
given_back g l e =
    let (a, b) = line-parts g.word (numbers_of (map number_text g.numbers)) l (sym (given-line g) ∙ e) in
    ap₂ given (sym a) (numbers-back g.numbers l.numbers b)

fields_back : (fs : List (List ℕ)) (l : Line) → line_of_fields fs ≡ some l → given_text (given_of l) ≡ unsplit 9 fs
unfolding line_of_fields unsplit given_of given_text word_text
fields_back [] l e = absurd (none-ne-some _ e)
fields_back (f ∷ fs) l e =
    let (a, b) = line-parts _ _ l e in
    ap₂ (λ (w : List ℕ) (t : List ℕ). w ++ t) (sym (word-spelled words f l.word a)) (numbers-written fs l.numbers b)

line-back : (b : List ℕ) (l : Line) → line_of b ≡ some l → given_text (given_of l) ≡ b
unfolding line_of fields_of
line-back b l e = fields_back (split 9 b) l e ∙ split-joined 9 b

-- ---- a list, there and back

split_text : (gs : List Given) → split 10 (text_of gs) ≡ map given_text gs ++ [] ∷ []
unfolding text_of split
split_text [] = refl
split_text (g ∷ gs) = split-past 10 (given_text g) (text_of gs) (given-free g) ∙ ap (λ (ls : List (List ℕ)). given_text g ∷ ls) (split_text gs)

pub lines-given : (gs : List Given) → lines_of (text_of gs) ≡ map given_text gs
unfolding lines_of
lines-given gs = ap without_last (split_text gs) ∙ without-last (map given_text gs) []

-- lines that are spelled are written as they were
lines-back : (bs : List (List ℕ)) (ls : List Line) → map line_of bs ≡ map some ls → text_of (map given_of ls) ≡ ended bs
unfolding text_of ended
lines-back [] [] e = refl
lines-back [] (l ∷ ls) e = let z : ◌≡◌ {A = ℕ} 0 1 = cc in absurd (omega arith)
lines-back (b ∷ bs) [] e = let z : ◌≡◌ {A = ℕ} 0 1 = cc in absurd (omega arith)
lines-back (b ∷ bs) (l ∷ ls) e =
    let first : line_of b ≡ some l = cc in
    let later : map line_of bs ≡ map some ls = cc in
    ap₂ (λ (t : List ℕ) (r : List ℕ). t ++ 10 ∷ r) (line-back b l first) (lines-back bs ls later)

lines_same : (gs : List Given) (ls : List Line) → map line_of (map given_text gs) ≡ map some ls → map given_of ls ≡ gs
lines_same [] [] e = refl
lines_same [] (l ∷ ls) e = let z : ◌≡◌ {A = ℕ} 0 1 = cc in absurd (omega arith)
lines_same (g ∷ gs) [] e = let z : ◌≡◌ {A = ℕ} 0 1 = cc in absurd (omega arith)
lines_same (g ∷ gs) (l ∷ ls) e =
    let first : line_of (given_text g) ≡ some l = cc in
    let later : map line_of (map given_text gs) ≡ map some ls = cc in
    ap₂ (λ (h : Given) (hs : List Given). h ∷ hs) (given_back g l first) (lines_same gs ls later)

-- ---- the claims

read-ended : (text : List ℕ) (ls : List Line) (s : Known) → reading text ≡ read ls s → T (is_ended text)
read-ended text ls s e = ⊎_elim (λ t. t)
    (λ f. absurd ((reads-exactly text).0.0 (ls, s, e) 2 0 (not-ended refl refl (false-not (is_ended text) f)))) (decide (is_ended text))

-- the text of the lines that a text is read as is that text
text-back : (text : List ℕ) (ls : List Line) (s : Known) → reading text ≡ read ls s → text_of (map given_of ls) ≡ text
text-back text ls s e = lines-back (lines_of text) ls ((reads-exactly text).2 ls s e).0 ∙ lines-joined text (read-ended text ls s e)

pub one-spelling : OneSpelling
one-spelling text text' ls s s' e f = sym (text-back text ls s e) ∙ text-back text' ls s' f

pub writes-back : WritesBack
unfolding write_reply written on_reading
writes-back text ls s buffer e h =
    rw (text-back text ls s e, e, test-≡ (leb (length text) (length buffer)) ((leb-iff (length text) (length buffer)).1 h)) refl

-- the buffer begins with the text where the reply is 0
written-taken : (text buffer : List ℕ) → (written text buffer).answer.number ≡ 0
    → take (written text buffer).answer.place (written text buffer).buffer ≡ text
unfolding written
written-taken text buffer z = by-room (leb (length text) (length buffer)) z
  where
    by : Bool → Writing
    by b = cond b (writing (reply 0 (length text)) (text ++ drop (length text) buffer)) (writing (reply 21 0) buffer)

    by-room : (b : Bool) → (by b).answer.number ≡ 0 → take (by b).answer.place (by b).buffer ≡ text
    by-room true e = take_at text (drop (length text) buffer) (length text) refl
    by-room false e = absurd (omega arith)

pub is-read-back : IsReadBack
unfolding write_reply on_reading
is-read-back gs buffer z = by-reading (reading (text_of gs)) refl z
  where
    text : List ℕ
    text = text_of gs

    answered : Reading → Writing
    answered r = on_reading r (λ n i. writing (reply n i) buffer) (λ ls s. written text buffer)

    by-reading : (r : Reading) → reading text ≡ r → (answered r).answer.number ≡ 0
        → (ls : List Line) × (s : Known) × (map given_of ls ≡ gs) × (reading (take (answered r).answer.place (answered r).buffer) ≡ read ls s)
    by-reading (refused n i) e q = absurd (omega (arith, refused-not-zero text n i e))
    by-reading (read ls s) e q = (
      ls,
      s,
      lines_same gs ls (ap (map line_of) (sym (lines-given gs)) ∙ ((reads-exactly text).2 ls s e).0),
      ap reading (written-taken text buffer q) ∙ e,
    )
