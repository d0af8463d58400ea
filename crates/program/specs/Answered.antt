-- What an answer leaves in the output, and what is returned.
use Rattle.std.specs.Prelude.{◌≡◌, cond, List, ◌++◌, ℕ, ◌+◌, ◌*◌, ◌≤◌, leb, length, drop}
use Rattle.meaning.specs.Refusal.{cell_limit}

-- the most bytes of an answer: a table's first line, and 4,096 lines of a cell's number, its remainder, a tab and the byte 10. FORMAT 9.17
abbrev pub longest_answer : ℕ
longest_answer = 11 + cell_limit * (4 + 10 + 2)

-- where the answer has room, the output begins with it and is else unchanged, and its length is returned; where it has none, nothing is written
-- and 0 is returned; and in an output of the greatest length every answer has room. FORMAT 9.16, 9.17
pub record Answered (answer before after : List ℕ) (r : ℕ) : Type 0 where
  pub left : after ≡ cond (leb (length answer) (length before)) (answer ++ drop (length answer) before) before
  pub returned : r ≡ cond (leb (length answer) (length before)) (length answer) 0
  pub short : length answer ≤ longest_answer
