-- The cells of a line, as places in a table and in memory.
use Rattle.std.specs.Prelude.{◌≡◌, List, ℕ, ◌+◌, ◌-◌, ◌*◌, ◌≤◌, take, drop}
use Rattle.meaning.specs.Known.{fresh}
use Rattle.meaning.specs.Reply.{stretch, start_from}
use Rattle.service.specs.Walk.{ListRead}
use Rattle.std.specs.declared.ops.Range.{Range}
use Rattle.number.specs.declared.cell.Cell.{Cell}

-- where a cell lies of a slice that starts at this place, a block of memory and an offset in bytes: a cell has 4
abbrev pub cell_place : (start : ℕ × ℕ) (cell : ℕ) → ℕ × ℕ
cell_place start cell = (start.0, cell * 4 + start.1)

-- from one cell to another are the cells of that line of the list, in every table. FORMAT 9.9, 9.10
pub record IsStretch (list : List ℕ) (line : ℕ) (l : ListRead list) (r : Range Cell) : Type 0 where
  pub ordered : r.start.0 ≤ r.end.0
  pub inside : r.end.0 ≤ l.last.cells
  pub is : (t : List ℕ) → take (r.end.0 - r.start.0) (drop r.start.0 t) ≡ stretch fresh l.lines line t
  pub starts : r.start.0 ≡ start_from fresh l.lines line
