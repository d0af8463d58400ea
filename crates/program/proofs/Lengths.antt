-- How long an answer's text is, from the counts of digits in it, and how long it can be.
use mathlib.Core.Path.{◌≡◌, sym, ap, ◌∙◌}
use mathlib.Core.List.{List, [], ◌∷◌}
use Prim.Native.Nat.{ℕ, suc, ◌+◌, ◌*◌, ◌≤◌, ◌<◌}
use native.Mathlib.Omega.{arith}
use native.Mathlib.Numerals.{add-one}
use lib.ListN.{length, get_or, drop, length-append, drop_of_length-le}
use lib.Seq.{drop-cons}
use Rattle.meaning.specs.Refusal.{cell_limit}
use Rattle.meaning.specs.Machine.{past_u32, past_u64}
use Rattle.meaning.specs.Text.{bytes, decimal_of}
use Rattle.meaning.specs.Reply.{reply}
use Rattle.meaning.specs.Program.{tabbed, refusal_text, cells_text, table_text}
use Rattle.meaning.proofs.Decimal.{decimal-most, decimal-of-32, decimal-of-64}
use Rattle.program.specs.Texts.{pair_text, heading_text, longest_pair}
use Rattle.program.specs.Answered.{longest_answer}
use Rattle.program.proofs.Texts.{table-parts, cell_parts}
use Rattle.service.proofs.Replies.{number-most}
use Rattle.program.proofs.Answering.{answered-room, answered-no-room}

pub pair-length : (first second : ℕ) → length (pair_text first second) ≡ length (decimal_of first) + length (decimal_of second) + 2
unfolding tabbed
pair-length first second =
    omega (arith, length-append (tabbed (decimal_of first) (decimal_of second)) (10 ∷ []), length-append (decimal_of first) (9 ∷ decimal_of second))

-- of two numbers of 64 bits
pub pair-most : (first second : ℕ) → first < past_u64 → second < past_u64 → length (pair_text first second) ≤ longest_pair
pair-most first second h k = omega (arith, pair-length first second, decimal-of-64 first h, decimal-of-64 second k)

pub refusal-length : (number place : ℕ) → length (refusal_text (reply number place)) ≡ 8 + length (pair_text number place)
unfolding refusal_text tabbed bytes
refusal-length number place = omega arith

pub heading-length : (count : ℕ) → length (heading_text count) ≡ 7 + length (decimal_of count)
unfolding tabbed bytes
heading-length count = omega (arith, length-append (decimal_of count) (10 ∷ []))

table-length : (t : List ℕ) → length (table_text t) ≡ 7 + length (decimal_of (length t)) + length (cells_text 0 t)
table-length t = sym (ap length (table-parts t)) ∙ omega (arith, length-append (heading_text (length t)) (cells_text 0 t), heading-length (length t))

cell-length : (i c : ℕ) (cs : List ℕ) → length (cells_text i (c ∷ cs)) ≡ length (pair_text i c) + length (cells_text (suc i) cs)
cell-length i c cs = ap length (cell_parts i c cs) ∙ length-append (pair_text i c) (cells_text (suc i) cs)

-- ---- summing up the lines

-- so many bytes stand before the line of cell i
pub record AddingLengths (table : List ℕ) (total i : ℕ) : Type 0 where
  pub within : i ≤ length table
  pub few : total ≤ 27 + longest_pair * i
  pub sum : total + length (cells_text i (drop i table)) ≡ length (table_text table)

pub summing_start : (table : List ℕ) (count : ℕ) → length table < past_u64 → count ≡ length (decimal_of (length table)) → AddingLengths table (7 + count) 0
summing_start table count h e = record { within = omega arith; few = omega (arith, decimal-of-64 (length table) h); sum = omega (arith, table-length table) }

module _ {table : List ℕ} {total i : ℕ} (s : AddingLengths table total i) where
  pub summing-turn : i < length table → (n : ℕ) → n ≡ length (pair_text i (get_or table i 0)) → n ≤ longest_pair → AddingLengths table (total + n) (i + 1)
  summing-turn h n e short = record {
    within = omega arith;
    few = omega (arith, s.few);
    sum = rw (add-one i) (omega (arith, s.sum, line));
  }
    where
      line : length (cells_text i (drop i table)) ≡ length (pair_text i (get_or table i 0)) + length (cells_text (suc i) (drop (suc i) table))
      line = ap (λ (t : List ℕ). length (cells_text i t)) (drop-cons table i 0 h) ∙ cell-length i (get_or table i 0) (drop (suc i) table)

  pub summing-end : length table ≤ i → total ≡ length (table_text table)
  unfolding cells_text
  summing-end h = omega (arith, s.sum, none)
    where
      none : length (cells_text i (drop i table)) ≡ 0
      none = ap (λ (t : List ℕ). length (cells_text i t)) (drop_of_length-le table h)

-- ---- the longest

cells-most : (i : ℕ) (t : List ℕ) → i + length t ≤ cell_limit → ((j : ℕ) → get_or t j 0 < past_u32) → length (cells_text i t) ≤ 16 * length t
unfolding cells_text
cells-most i [] h small = omega arith
cells-most i (c ∷ cs) h small =
    omega (arith, cell-length i c cs, pair-length i c, decimal-most 3 i (omega arith), decimal-of-32 c (small 0), cells-most (suc i) cs (omega arith) (λ j. small (suc j)))

-- 4,096 lines of at most 16 bytes, after a first line of 11
pub table-most : (t : List ℕ) → length t ≤ cell_limit → ((j : ℕ) → get_or t j 0 < past_u32) → length (table_text t) ≤ longest_answer
table-most t h small = omega (arith, table-length t, decimal-most 3 (length t) (omega arith), cells-most 0 t (omega arith) small)

pub refusal-most : (number place : ℕ) → number < past_u32 → place < past_u64 → length (refusal_text (reply number place)) ≤ longest_answer
refusal-most number place h k = omega (arith, refusal-length number place, pair-length number place, decimal-of-32 number h, decimal-of-64 place k)

-- ---- the laws that the check applies

-- a number's digits are few, and a line's length is that of its two numbers and two bytes more
pub ruleset line_lengths = (decimal-of-64, pair-length, pair-most, summing_start)

pub ruleset refusal_lengths = (refusal-length)

-- an answer is written where it has room, and is short
pub ruleset answers = (refusal-most, table-most, number-most, answered-room, answered-no-room)
