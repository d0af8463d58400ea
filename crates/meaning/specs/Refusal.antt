-- Reading: a list is read where none of refusals 1 to 12 fits it. Limits, what the rules ask, the rules as a table, and their order;
-- clauses 4.1 to 4.8, 10.1 to 10.12 and 13.1 of docs/FORMAT.md.
use Rattle.std.specs.Prelude.{ℕ, zero, suc, ◌+◌, Bool, true, cond, ◌&&◌, not, List, [], ◌∷◌, ◌++◌, leb, ltb, eqb, length, ℤ, pos, nat_abs}
use Rattle.std.proofs.Math.Option.{Option, none, some}
use Rattle.std.specs.Int.Signed.{le_z, non_neg}
use Rattle.meaning.specs.Number.{in_range, odd_prime}
use Rattle.meaning.specs.Text.{lines_of, is_ended}
use Rattle.meaning.specs.Word.{Word, number_at, Digits, kind_of}
use Rattle.meaning.specs.Line.{Line, line_of}
use Rattle.meaning.specs.Known.{Known, fresh}
use Rattle.meaning.specs.Meaning.{gadget, after}

-- ---- limits

-- the most bytes of a text. FORMAT 4.8
abbrev pub text_limit : ℕ
text_limit = 65536

-- the most values of a list. FORMAT 4.6
abbrev pub value_limit : ℕ
value_limit = 256

-- the most cells of a list. FORMAT 4.7
abbrev pub cell_limit : ℕ
cell_limit = 4096

-- the most digits that a line may ask for. FORMAT 4.2
abbrev pub most_digits : ℕ
most_digits = 31

-- ---- what the rules ask

-- does every element pass a test?
unfoldable pub all : {A : Type 0} → (A → Bool) → List A → Bool
all f [] = true
all f (x ∷ xs) = f x && all f xs

-- what a number gives, and what stands in where there is none
unfoldable pub on_some : {A : Type 0} → Option ℕ → (ℕ → A) → A → A
on_some none f x = x
on_some (some i) f x = f i

-- a value, or the number of the refusal where there is none
pub data Result (A : Type 0) : Type 0 where
  value : A → Result A
  refused_by : (number : ℕ) → Result A

unfoldable pub or_refused : {A : Type 0} → (number : ℕ) → Option A → Result A
or_refused r none = refused_by r
or_refused r (some x) = value x

-- the field line is line 0, and no other line is one. FORMAT 3.5, 10.4
unfoldable pub is_placed : (line : ℕ) → Word → Bool
is_placed zero w = (kind_of w).is_field
is_placed (suc n) w = not (kind_of w).is_field

-- p is an odd prime. FORMAT 1.1, 10.5
unfoldable pub is_over_prime : Word → List ℤ → Bool
is_over_prime w ns = cond (kind_of w).is_field (non_neg (number_at ns 0) && odd_prime (nat_abs (number_at ns 0))) true

-- b and k are in their ranges. FORMAT 4.1, 4.2
unfoldable pub is_digits : Digits → Bool
is_digits d = le_z (pos 2) d.b && le_z (pos 1) d.k && le_z d.k (pos most_digits)

-- so are they, L, c0 and the coefficients of a line. FORMAT 4.1, 4.2, 4.3, 4.4, 10.6
unfoldable pub is_ranged : ℕ → Word → List ℤ → Bool
is_ranged p w ns = all is_digits ((kind_of w).digits ns) && all (in_range p) ((kind_of w).shifts ns) && all (in_range p) ((kind_of w).coefficients ns)

-- does v name one of the n values that are made? FORMAT 3.3, 10.7
unfoldable pub is_made : (n : ℕ) (v : ℤ) → Bool
is_made n v = non_neg v && ltb (nat_abs v) n

-- ---- the rules

-- a rule that each line has to keep, by what is known before it, and the refusal of one that does not. FORMAT 13.2
pub record RuleOf (S : Type 0) : Type 0 where
  pub refusal : ℕ
  pub keeps : (line : ℕ) → S → Line → Bool

abbrev pub Rule : Type 0
Rule = RuleOf Known

abbrev pub rule : {S : Type 0} → ℕ → (ℕ → S → Line → Bool) → RuleOf S
rule r f = record { refusal = r; keeps = f }

-- the table of rules in the order of their tests, after refusal 3 (a line that spells nothing), for a list that may have so many cells; `before9`
-- are rules that are tested just before 9. FORMAT 13.1, 13.5
unfoldable pub rules_with : (before9 : List Rule) (cells : ℕ) → List Rule
rules_with before9 cells =
    -- FORMAT 10.4
    rule 4 (λ n s l. is_placed n l.word)
    -- FORMAT 10.5
    ∷ rule 5 (λ n s l. is_over_prime l.word l.numbers)
    -- FORMAT 10.6
    ∷ rule 6 (λ n s l. is_ranged s.p l.word l.numbers)
    -- FORMAT 10.7
    ∷ rule 7 (λ n s l. all (is_made (length s.known)) ((kind_of l.word).names l.numbers))
    -- FORMAT 10.8
    ∷ rule 8 (λ n s l. leb (length s.known + length (gadget s l).made) value_limit)
    ∷ before9
    -- FORMAT 10.9
    ++ rule 9 (λ n s l. leb (s.cells + (gadget s l).width) cells)
    -- FORMAT 10.10
    ∷ rule 10 (λ n s l. (gadget s l).unambiguous)
    -- FORMAT 10.11
    ∷ rule 11 (λ n s l. (gadget s l).fits)
    -- FORMAT 10.12
    ∷ rule 12 (λ n s l. (gadget s l).overlaps)
    ∷ []

-- the table with no rule more before 9
unfoldable pub rules_within : (cells : ℕ) → List Rule
rules_within cells = rules_with [] cells

-- the rules of a list. FORMAT 4.7, 13.1
unfoldable pub rules : List Rule
rules = rules_within cell_limit

-- the refusal of the first rule that a line breaks. FORMAT 13.1
unfoldable pub first_broken : {S : Type 0} → List (RuleOf S) → ℕ → S → Line → Option ℕ
first_broken [] n s l = none
first_broken (r ∷ rs) n s l = cond (r.keeps n s l) (first_broken rs n s l) (some r.refusal)

-- ---- the order of the tests

-- the refusals of a list in the order in which they are tested. FORMAT 13.1
unfoldable pub test_order : List ℕ
test_order = 1 ∷ 2 ∷ 3 ∷ 4 ∷ 5 ∷ 6 ∷ 7 ∷ 8 ∷ 9 ∷ 10 ∷ 11 ∷ 12 ∷ []

-- the place of a number among others, and their count where it is none of them
unfoldable pub place_among : List ℕ → ℕ → ℕ
place_among [] n = 0
place_among (m ∷ ms) n = cond (eqb n m) 0 (suc (place_among ms n))

-- when a refusal is tested, among the others. FORMAT 13.2
unfoldable pub rank : (number : ℕ) → ℕ
rank n = place_among test_order n

-- ---- reading

-- a way of reading: what is known before line 0, what is known after a line that is not refused, and the rules. FORMAT 9.5
pub record Way (S : Type 0) : Type 0 where
  pub start : S
  pub next : S → Line → S
  pub rules : List (RuleOf S)

-- the way that Known.antt and Meaning.antt give, by these rules
abbrev pub way_by : List Rule → Way Known
way_by rs = record { start = fresh; next = after; rules = rs }

abbrev pub plain : Way Known
plain = way_by rules

-- a list that is read, its lines and what is known at its end; or its refusal and place. FORMAT 13.3
pub data ReadingOf (S : Type 0) : Type 0 where
  refused : (number place : ℕ) → ReadingOf S
  read : List Line → S → ReadingOf S

abbrev pub Reading : Type 0
Reading = ReadingOf Known

-- what is done in either case
unfoldable pub on_reading : {S A : Type 0} → ReadingOf S → (refused : (number place : ℕ) → A) → (read : List Line → S → A) → A
on_reading (refused r n) f g = f r n
on_reading (read ls s) f g = g ls s

-- a line before those that are read
unfoldable pub cons_line : {S : Type 0} → Line → ReadingOf S → ReadingOf S
cons_line l (refused r n) = refused r n
cons_line l (read ls s) = read (l ∷ ls) s

-- line n in state s, before the rest; the rest waits, so that a refused line is the last one looked at. Bytes that spell no line are refused
-- before any rule is asked. FORMAT 10.3, 13.1, 13.4
unfoldable pub read_line : {S : Type 0} → Way S → ℕ → S → Option Line → (S → ReadingOf S) → ReadingOf S
read_line w n s none rest = refused 3 n
read_line w n s (some l) rest = on_some (first_broken w.rules n s l) (λ r. refused r n) (cons_line l (rest (w.next s l)))

-- the lines in order, counted from 0. FORMAT 2.8, 13.1
unfoldable pub read_from : {S : Type 0} → Way S → ℕ → S → List (List ℕ) → ReadingOf S
read_from w n s [] = read [] s
read_from w n s (b ∷ bs) = read_line w n s (line_of b) (λ s'. read_from w (suc n) s' bs)

-- the length and the last byte are tested before any line. FORMAT 10.1, 10.2, 13.1
unfoldable pub reading_by : {S : Type 0} → Way S → List ℕ → ReadingOf S
reading_by w text =
    cond (leb (length text) text_limit) (cond (is_ended text) (read_from w 0 w.start (lines_of text)) (refused 2 0)) (refused 1 0)

-- by the rules above. FORMAT 13.1
abbrev pub reading : List ℕ → Reading
reading text = reading_by plain text
