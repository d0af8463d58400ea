-- What the rules say of one line after line 0, and how the code's answers are read as it.
use Rattle.std.specs.Prelude.{Result, Ok, Err, ℕ, List, [], ◌∷◌, ℤ}
use Rattle.meaning.specs.Word.{Word, number_at, size_at}
use Rattle.meaning.specs.Line.{Line}
use Rattle.meaning.specs.Known.{Ends, ends, Known, ends_of}
use Rattle.meaning.specs.Gadget.Span.{shared}
use Rattle.meaning.specs.Meaning.{gadget}
use Rattle.meaning.specs.Refusal.{on_some, rules, first_broken}
use Rattle.rules.specs.declared.ends.Ends.{Ends as ReadEnds}
use Rattle.refusal.specs.declared.refused.Refusal.{Refusal}
use Rattle.refusal.specs.Refusal.{number_of}

-- the first rule that a line breaks, or the ends of the values that it makes. The rule of refusal 4 is the same for every line after line 0
pub data Yield : Type 0 where
  refuses : (number : ℕ) → Yield
  makes : List Ends → Yield

unfoldable pub yield_of : Known → Line → Yield
yield_of s l = on_some (first_broken rules 1 s l) refuses (makes (gadget s l).made)

-- the same for a span line, which makes no value: the first rule that it breaks, or the new ends of v
unfoldable pub span_yield : Known → Line → Yield
span_yield s l =
    let ns : List ℤ = l.numbers in
    on_some (first_broken rules 1 s l) refuses
    (makes (shared (size_at ns 1) (size_at ns 2) (number_at ns 3) (ends_of s (size_at ns 0)) ∷ []))

abbrev pub ends_meaning : ReadEnds → Ends
ends_meaning e = ends e.low.0 e.high.0

abbrev pub made_meaning : Result ReadEnds Refusal → Yield
made_meaning (Ok e) = makes (ends_meaning e ∷ [])
made_meaning (Err broken) = refuses (number_of broken)

abbrev pub line_with : Word → List ℤ → Line
line_with w ns = record { word = w; numbers = ns }
