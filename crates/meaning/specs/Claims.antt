-- What is claimed of the definitions, as types, over whole lists, tables and sequences of calls: reading is exact, checking is exact, digits are
-- exact, what is accepted is the true table of its own inputs and nothing else, the maker writes it, the desk counts, a list is written as it is
-- read. Their proofs are terms of these types, in proofs/.
use Rattle.std.specs.Prelude.{ℕ, ◌+◌, ◌-◌, ◌≤◌, ◌<◌, ◌^◌, ◌≡◌, ◌↔◌, ◌⊎◌, List, [], ◌∷◌, ◌++◌, map, T, length, get_or, take, drop, ℤ, pos, ◌+ℤ◌, ◌≤ℤ◌}
use mathlib.Core.Bool.{Bool, true, not}
use Rattle.std.proofs.Math.Option.{Option, none, some}
use Rattle.meaning.specs.Number.{signed, in_range, remainder}
use Rattle.meaning.specs.Text.{lines_of, is_ended}
use Rattle.meaning.specs.Line.{Line, line_of}
use Rattle.meaning.specs.Write.{Given, given_of}
use Rattle.meaning.specs.Known.{Ends, Known, fresh, digit_rule}
use Rattle.meaning.specs.Row.{Form, eval, among, holds, group}
use Rattle.meaning.specs.Gadget.Digits.{group_cells}
use Rattle.meaning.specs.Meaning.{gadget, after}
use Rattle.meaning.specs.Refusal.{text_limit, RuleOf, rule, rank, Way, plain, refused, read, reading_by, reading}
use Rattle.meaning.specs.Work.{false-at, true-table, work}
use Rattle.meaning.specs.Reply.{reply, rows_of, check_reply, make_reply, writing, write_reply}
use Rattle.meaning.specs.Desk.{Desk, called, fresh_desk, full_count, is_accepted, Call, check_of, desk_call, desk_after, desk_replies}

-- ---- reading is exact

-- the bytes of a line of a text
unfoldable pub line_at : (text : List ℕ) (line : ℕ) → List ℕ
line_at text n = get_or (lines_of text) n []

-- what is known after bytes: no more than before, where they spell no line
unfoldable pub after_bytes : {S : Type 0} → (S → Line → S) → S → Option Line → S
after_bytes next s none = s
after_bytes next s (some l) = next s l

-- what is known before line n, if the lines before it are read. FORMAT 13.2
unfoldable pub known_before : {S : Type 0} → (S → Line → S) → S → List (List ℕ) → (n : ℕ) → S
known_before next s bs ℕ.zero = s
known_before next s [] (ℕ.suc n) = s
known_before next s (b ∷ bs) (ℕ.suc n) = known_before next (after_bytes next s (line_of b)) bs n

-- the rule at a place of a table, and one that stands for none of them
abbrev pub no_rule : {S : Type 0} → RuleOf S
no_rule = rule 0 (λ n s l. true)

abbrev pub rule_at : {S : Type 0} → List (RuleOf S) → ℕ → RuleOf S
rule_at rs k = get_or rs k no_rule

-- a refusal from 3 on fits line n, in state s, that has these bytes. FORMAT 13.2
pub data FitsLine {S : Type 0} (rs : List (RuleOf S)) (n : ℕ) (s : S) (bytes : List ℕ) (number : ℕ) : Type 0 where
  no_line : number ≡ 3 → line_of bytes ≡ none → FitsLine rs n s bytes number
  breaks : (k : ℕ) (l : Line) → k < length rs → number ≡ (rule_at rs k).refusal → line_of bytes ≡ some l
      → ¬ T ((rule_at rs k).keeps n s l) → FitsLine rs n s bytes number

-- a refusal fits the text at a place, where it is read in this way. FORMAT 10.1, 10.2, 13.2
pub data FitsBy {S : Type 0} (w : Way S) (text : List ℕ) (number place : ℕ) : Type 0 where
  too_long : number ≡ 1 → place ≡ 0 → text_limit < length text → FitsBy w text number place
  not-ended : number ≡ 2 → place ≡ 0 → ¬ T (is_ended text) → FitsBy w text number place
  in-line : place < length (lines_of text)
      → FitsLine w.rules place (known_before w.next w.start (lines_of text) place) (line_at text place) number → FitsBy w text number place

-- 1 to 12. FORMAT 13.2
abbrev pub Fits : (text : List ℕ) (number place : ℕ) → Type 0
Fits text number place = FitsBy plain text number place

-- by place, then in the order of the tests: 1 and 2 have place 0. FORMAT 13.2
abbrev pub Before : (number place number' place' : ℕ) → Type 0
Before n i n' i' = (i < i') ⊎ ((i ≡ i') × (rank n < rank n'))

-- the lines of a text are these. FORMAT 2.1, 2.7
abbrev pub Spells : List ℕ → List Line → Type 0
Spells text ls = map line_of (lines_of text) ≡ map some ls

-- what is known after lines. FORMAT 9.5
unfoldable pub known_after : {S : Type 0} → (S → Line → S) → S → List Line → S
known_after next s [] = s
known_after next s (l ∷ ls) = known_after next (next s l) ls

-- a list is read exactly when no refusal fits it, a refusal that is replied is the first that fits, and what is read are the lines that the text
-- spells. FORMAT 13.3
abbrev pub ReadsExactlyBy : {S : Type 0} → Way S → Type 0
ReadsExactlyBy {S} w =
    (text : List ℕ) →
    (((ls : List Line) × (s : S) × (reading_by w text ≡ read ls s)) ↔ ((number place : ℕ) → ¬ FitsBy w text number place))
    × ((number place : ℕ) → reading_by w text ≡ refused number place ↔
    (FitsBy w text number place × ((n i : ℕ) → Before n i number place → ¬ FitsBy w text n i)))
    × ((ls : List Line) (s : S) → reading_by w text ≡ read ls s → Spells text ls × (s ≡ known_after w.next w.start ls))

-- by the rules of Refusal.antt. FORMAT 13.3
abbrev pub ReadsExactly : Type 0
ReadsExactly = ReadsExactlyBy plain

-- ---- rows

-- a table of the list's length with all cells below p. FORMAT 8.8
pub record WellFormed (s : Known) (t : List ℕ) : Type 0 where
  pub long : length t ≡ s.cells
  pub below : (i : ℕ) → i < length t → get_or t i 0 < s.p

-- row i of the list holds in the table. FORMAT 1.9, 7.6
abbrev pub Holds : Known → List Line → List ℕ → ℕ → Type 0
Holds s ls t i = T (holds s.p t (get_or (rows_of ls) i (among 0 0)))

-- accepted exactly when all rows hold, else the first that does not is named. FORMAT 8.12
abbrev pub ChecksRows : Type 0
ChecksRows =
    (text : List ℕ) (ls : List Line) (s : Known) (t : List ℕ) → reading text ≡ read ls s → WellFormed s t →
    (check_reply text t ≡ reply 0 0 ↔ ((i : ℕ) → i < s.rows → Holds s ls t i))
    × ((r : ℕ) → check_reply text t ≡ reply 15 r ↔ ((r < s.rows) × (¬ Holds s ls t r) × ((i : ℕ) → i < r → Holds s ls t i)))
    × ((check_reply text t ≡ reply 0 0) ⊎ ((r : ℕ) × (check_reply text t ≡ reply 15 r)))

-- ---- accepted

-- the number alone tells a reply 0, 0: by it the desk counts. FORMAT 9.3
abbrev pub AcceptedByNumber : Type 0
AcceptedByNumber =
    ((text t : List ℕ) → T (is_accepted (check_reply text t)) ↔ (check_reply text t ≡ reply 0 0))
    × ((text : List ℕ) (xs : List ℤ) (t : List ℕ) → T (is_accepted (make_reply text xs t).answer) ↔ ((make_reply text xs t).answer ≡ reply 0 0))

-- ---- the digit rule

-- where the digit rule allows a group over a form with ends E..F and shift L, the rows of the group hold exactly where the whole number x of the
-- form lies in L..L+c-1 and the cells are the digits of x - L; for all b, k and forms together. FORMAT 6.3
abbrev pub DigitsAreExact : Type 0
DigitsAreExact =
    (p b k at : ℕ) (es : Ends) (L x : ℤ) (form : Form) (t : List ℕ) → 0 < p → 0 < b → T (digit_rule p b k es L) → es.E ≤ℤ x → x ≤ℤ es.F →
    at + k ≤ length t → remainder p (eval t form) ≡ remainder p x →
    ((i : ℕ) → i < length (group form L at b k) → T (holds p t (get_or (group form L at b k) i (among 0 0))))
    ↔ ((L ≤ℤ x) × (x ≤ℤ (L +ℤ pos (b ^ k - 1))) × (take k (drop at t) ≡ group_cells b k x L))

-- ---- true tables

-- the input cells of a list. FORMAT 8.10
unfoldable pub input_cells_from : Known → List Line → List ℕ
input_cells_from s [] = []
input_cells_from s (l ∷ ls) = take (gadget s l).inputs (s.cells ∷ []) ++ input_cells_from (after s l) ls

-- the signed value of the cell at a place. FORMAT 1.7
unfoldable pub signed_at : ℕ → List ℕ → ℕ → ℤ
signed_at p t i = signed p (get_or t i 0)

-- the column of inputs that stands in a table. FORMAT 8.10
unfoldable pub inputs_of : Known → List Line → List ℕ → List ℤ
inputs_of s ls t = map (signed_at s.p t) (input_cells_from fresh ls)

-- a table's signed values. FORMAT 8.9
unfoldable pub values_of : Known → List ℕ → List ℤ
values_of s t = map (signed_at s.p t) s.places

-- whoever wrote the table: it is accepted exactly when it fits the list and is the true table of the column that stands in it. FORMAT 8.11, 8.14
abbrev pub AcceptsTrueTables : Type 0
AcceptsTrueTables =
    (text : List ℕ) (ls : List Line) (s : Known) (t : List ℕ) → reading text ≡ read ls s →
    check_reply text t ≡ reply 0 0 ↔ (WellFormed s t × (work ls (inputs_of s ls t) ≡ true-table (values_of s t) t))

-- ---- making

-- a column of inputs for a list that is read. FORMAT 8.2
pub record Column (s : Known) (xs : List ℤ) : Type 0 where
  pub count : length xs ≡ s.inputs
  pub within : (i : ℕ) → i < length xs → T (in_range s.p (get_or xs i (pos 0)))

-- the maker writes the true table, which is accepted, and no other table in which these inputs stand is; or it replies the first false line, and
-- then none is. FORMAT 8.13
abbrev pub MakesTheOnly : Type 0
MakesTheOnly =
    (text : List ℕ) (ls : List Line) (s : Known) (xs : List ℤ) (t : List ℕ) →
    reading text ≡ read ls s → Column s xs → length t ≡ s.cells →
    ((vs : List ℤ) (cs : List ℕ) → work ls xs ≡ true-table vs cs →
    ((make_reply text xs t).answer ≡ reply 0 0) × ((make_reply text xs t).table ≡ cs)
    × (check_reply text cs ≡ reply 0 0) × (inputs_of s ls cs ≡ xs) × (values_of s cs ≡ vs)
    × ((u : List ℕ) → inputs_of s ls u ≡ xs → check_reply text u ≡ reply 0 0 → u ≡ cs))
    × ((n : ℕ) → work ls xs ≡ false-at n →
    ((make_reply text xs t).answer ≡ reply 18 n) × ((make_reply text xs t).table ≡ t)
    × ((u : List ℕ) → inputs_of s ls u ≡ xs → ¬ (check_reply text u ≡ reply 0 0)))

-- ---- counts

-- how many elements pass a test
unfoldable pub how_many : {A : Type 0} → (A → Bool) → List A → ℕ
how_many f [] = 0
how_many f (x ∷ xs) = mathlib.Core.Bool.cond (f x) 1 0 + how_many f xs

-- is a call's check accepted? FORMAT 9.3
unfoldable pub passes : Call → Bool
passes c = is_accepted (check_of c)

-- from a fresh desk, up to the full count: each count is the number of such calls, and each call is answered by its check. FORMAT 9.14
abbrev pub Counts : Type 0
Counts =
    (calls : List Call) → length calls < 2 ^ 64 →
    let d : Desk = desk_after fresh_desk calls in
    (d.heard ≡ d.accepted + d.refused)
    × (d.heard ≡ length calls)
    × (d.accepted ≡ how_many passes calls)
    × (d.refused ≡ how_many (λ c. not (passes c)) calls)
    × (desk_replies fresh_desk calls ≡ map check_of calls)

-- at the full count every further call is refused 20 and nothing moves. FORMAT 9.15
abbrev pub StaysFull : Type 0
StaysFull =
    (d : Desk) → d.heard ≡ d.accepted + d.refused → d.heard ≡ full_count →
    (list table : List ℕ) → desk_call d list table ≡ called d (reply 20 0)

-- ---- writing

-- text that is read and written comes back byte for byte, in every buffer that has room. FORMAT 9.28
abbrev pub WritesBack : Type 0
WritesBack =
    (text : List ℕ) (ls : List Line) (s : Known) (buffer : List ℕ) → reading text ≡ read ls s → length text ≤ length buffer →
    write_reply (map given_of ls) buffer ≡ writing (reply 0 (length text)) (text ++ drop (length text) buffer)

-- what is written is read as the same lines. FORMAT 9.28
abbrev pub IsReadBack : Type 0
IsReadBack =
    (gs : List Given) (buffer : List ℕ) → (write_reply gs buffer).answer.number ≡ 0 →
    let n : ℕ = (write_reply gs buffer).answer.place in
    (ls : List Line) × (s : Known) × (map given_of ls ≡ gs) × (reading (take n (write_reply gs buffer).buffer) ≡ read ls s)

-- two texts that are read as the same lines are the same text. FORMAT 9.28
abbrev pub OneSpelling : Type 0
OneSpelling = (text text' : List ℕ) (ls : List Line) (s s' : Known) → reading text ≡ read ls s → reading text' ≡ read ls s' → text ≡ text'
