-- What working a line and writing its cells are given, and what they then yield, by the line's gadget.
use Rattle.std.specs.Prelude.{◌≡◌, false, cond, List, ◌++◌, ℕ, ◌≤◌, ℤ, length, drop, Option, Result}
use Rattle.meaning.specs.Word.{Word, kind_of}
use Rattle.meaning.specs.Gadget.Interface.{Gadget}
use Rattle.meaning.specs.Refusal.{value, refused_by}
use Rattle.meaning.specs.Known.{Within}
use Rattle.groups.specs.Cells.{worked_meaning}
use Rattle.number.specs.declared.whole.Whole.{Whole}
use Rattle.refusal.specs.declared.refused.Refusal.{Refusal}
use Rattle.table.specs.Line.{KeptLine, gadget_of}

-- ---- working

-- the values are those before the line, each between its ends
pub record ValuesGiven (w : Word) (numbers values : List ℤ) : Type 0 where
  pub kept : KeptLine w numbers
  pub within : Within kept.state.known values

-- the answer is the values that the line makes where its statement is true, and refusal 18 where not
abbrev pub WorkYield : (w : Word) (numbers values : List ℤ) (next : ℤ) → Result (Option Whole) Refusal → Type 0
WorkYield w numbers values next r =
    (a : ValuesGiven w numbers values)
    → worked_meaning r ≡ cond ((gadget_of a.kept).statement values) (value ((gadget_of a.kept).values values next)) (refused_by 18)

-- ---- cells

-- as many values as the line makes are given beside those before it, and the part of the table that is lent has room for its cells
pub record CellsGiven (p : ℕ) (w : Word) (numbers values made : List ℤ) (part : List ℕ) : Type 0 where
  pub given : ValuesGiven w numbers values
  pub prime : (kind_of w).is_field ≡ false → given.kept.state.p ≡ p
  pub made-long : length made ≡ length (gadget_of given.kept).made
  pub room : (gadget_of given.kept).width ≤ length part

-- where those are the values that the line makes, the part begins with the line's cells, and the rest is as it was
abbrev pub CellsYield : (p : ℕ) (w : Word) (numbers values made : List ℤ) (part after : List ℕ) → Type 0
CellsYield p w numbers values made part after =
    (a : CellsGiven p w numbers values made part) (next : ℤ)
    → let g : Gadget = gadget_of a.given.kept in
    g.values values next ≡ made → after ≡ g.cells values next ++ drop g.width part
