-- `span v b k L`: shows by digits that a value lies in L..L+c-1, and so narrows what is known of it.
use Rattle.std.specs.Prelude.{ℕ, ◌-◌, ◌^◌, true, [], set, ℤ, pos, ◌+ℤ◌}
use Rattle.std.specs.Int.Signed.{le_z}
use Rattle.meaning.specs.Number.{between}
use Rattle.meaning.specs.Known.{Known, Ends, ends, ends_of, place_of, larger, smaller, digit_rule}
use Rattle.meaning.specs.Row.{cell, group}
use Rattle.meaning.specs.Gadget.Interface.{Gadget}
use Rattle.meaning.specs.Gadget.Digits.{value_at, group_cells}

-- L+c-1, the highest number of the span. FORMAT 3.7
unfoldable pub span_top : (b k : ℕ) → ℤ → ℤ
span_top b k L = L +ℤ pos (b ^ k - 1)

-- what the known ends and L..L+c-1 share. FORMAT 5.10
unfoldable pub shared : (b k : ℕ) → ℤ → Ends → Ends
shared b k L old = ends (larger old.E L) (smaller old.F (span_top b k L))

-- the cells and the rows of the group over v with shift L. FORMAT 3.7, 5.10, 6.2, 7.9
unfoldable pub span_line : Known → (v b k : ℕ) → ℤ → Gadget
span_line s v b k L =
    let new : Ends = shared b k L (ends_of s v) in
    record {
      unambiguous = digit_rule s.p b k (ends_of s v) L;
      fits = true;
      overlaps = le_z new.E new.F;
      narrowed = set s.known v new;
      made = [];
      width = k;
      inputs = 0;
      rows = group (cell (place_of s v)) L s.cells b k;
      statement = λ vs. between L (value_at vs v) (span_top b k L);
      values = λ vs next. [];
      cells = λ vs next. group_cells b k (value_at vs v) L;
    }
