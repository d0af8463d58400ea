-- The parts of an answer's text.
use Rattle.std.specs.Prelude.{List, [], ◌∷◌, ◌++◌, ℕ, ◌+◌}
use Rattle.meaning.specs.Text.{bytes, decimal_of}
use Rattle.meaning.specs.Program.{tabbed}

-- a line of two numbers. FORMAT 11.8
abbrev pub pair_text : (first second : ℕ) → List ℕ
pair_text first second = tabbed (decimal_of first) (decimal_of second) ++ 10 ∷ []

-- its most bytes: two numbers of 20 digits, a tab and the byte 10
abbrev pub longest_pair : ℕ
longest_pair = 20 + 20 + 2

-- the first line of a table. FORMAT 11.8
abbrev pub heading_text : (count : ℕ) → List ℕ
heading_text count = tabbed (bytes "table") (decimal_of count) ++ 10 ∷ []
