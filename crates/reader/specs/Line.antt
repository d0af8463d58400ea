-- A line as its rules are asked: its word and its numbers, and what it yields by them.
use Rattle.std.specs.Prelude.{◌≡◌, true, ◌≤◌, List, length, ℤ}
use Rattle.meaning.specs.Word.{Word, field, input, span, sum, relu, which, max, root, kind_of, most_numbers}
use Rattle.meaning.specs.Line.{Line}
use Rattle.meaning.specs.Known.{Known}
use Rattle.text.specs.Word.{word_of}
use Rattle.text.specs.declared.Word.{Word as WordYield}
use Rattle.rules.specs.Ready.{Small}
use Rattle.rules.specs.Yield.{Yield, yield_of, span_yield}

-- a line as the line reader gives it: as many numbers as belong to its word
pub record ParsedLine (w : WordYield) (numbers : List ℤ) : Type 0 where
  pub counted : (kind_of (word_of w)).is_counted numbers ≡ true
  pub most : length numbers ≤ most_numbers
  pub small : Small (length numbers) numbers

-- the first rule that a line breaks, or the ends of the value that it makes, or narrows, for every kind
unfoldable pub yield_by : Word → Known → Line → Yield
yield_by field s l = yield_of s l
yield_by input s l = yield_of s l
yield_by span s l = span_yield s l
yield_by sum s l = yield_of s l
yield_by relu s l = yield_of s l
yield_by which s l = yield_of s l
yield_by max s l = yield_of s l
yield_by root s l = yield_of s l

unfoldable pub line_yield : Known → Line → Yield
line_yield s l = yield_by l.word s l

-- a line that narrows no ends
abbrev pub NotSpan : Word → Type 0
NotSpan field = Unit {0}
NotSpan input = Unit {0}
NotSpan span = ⊥
NotSpan sum = Unit {0}
NotSpan relu = Unit {0}
NotSpan which = Unit {0}
NotSpan max = Unit {0}
NotSpan root = Unit {0}
