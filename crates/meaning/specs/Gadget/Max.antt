-- `max u v b k`: the greater of two values. It is one of them, and digits show that it is below neither.
use Rattle.std.specs.Prelude.{ℕ, suc, ◌+◌, ◌*◌, ◌^◌, true, ◌&&◌, [], ◌∷◌, ◌++◌, ltb, ℤ, pos, nat_abs, ◌-ℤ◌}
use Rattle.meaning.specs.Number.{remainder}
use Rattle.meaning.specs.Known.{Known, Ends, ends, ends_of, place_of, larger, above, digit_rule}
use Rattle.meaning.specs.Row.{Form, cell, constant, ◌⊖◌, ◌⊗◌, ◌≅◌, group}
use Rattle.meaning.specs.Gadget.Interface.{Gadget}
use Rattle.meaning.specs.Gadget.Digits.{value_at, group_cells}

-- y, then the groups over y-u and y-v with shift 0; the rows are (y-u)·(y-v) ≡ 0, then the groups. Both groups have to keep the digit rule, by
-- which values that no span has narrowed are turned down. FORMAT 3.11, 5.8, 6.2, 7.15, 12.13
unfoldable pub max_line : Known → (u v b k : ℕ) → Gadget
max_line s u v b k =
    let eu : Ends = ends_of s u in
    let ev : Ends = ends_of s v in
    let y-u : Form = cell s.cells ⊖ cell (place_of s u) in
    let y-v : Form = cell s.cells ⊖ cell (place_of s v) in
    record {
      unambiguous = digit_rule s.p b k (above eu ev) (pos 0) && digit_rule s.p b k (above ev eu) (pos 0);
      fits = true;
      overlaps = true;
      narrowed = s.known;
      made = ends (larger eu.E ev.E) (larger eu.F ev.F) ∷ [];
      width = suc (2 * k);
      inputs = 0;
      rows = y-u ⊗ y-v ≅ constant (pos 0)
          ∷ group y-u (pos 0) (suc s.cells) b k ++ group y-v (pos 0) (suc s.cells + k) b k;
      statement = λ vs. ltb (nat_abs (value_at vs u -ℤ value_at vs v)) (b ^ k);
      values = λ vs next. larger (value_at vs u) (value_at vs v) ∷ [];
      cells = λ vs next.
          let y : ℤ = larger (value_at vs u) (value_at vs v) in
          remainder s.p y ∷ group_cells b k (y -ℤ value_at vs u) (pos 0) ++ group_cells b k (y -ℤ value_at vs v) (pos 0);
    }
