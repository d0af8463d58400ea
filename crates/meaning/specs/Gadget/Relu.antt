-- `relu v b k`: the greater of 0 and v. The sign of v is shown by digits, f and w (Sign.antt).
use Rattle.std.specs.Prelude.{ℕ, suc, ◌+◌, true, [], ◌∷◌, pos}
use Rattle.meaning.specs.Number.{remainder}
use Rattle.meaning.specs.Known.{Known, Ends, ends, ends_of, place_of, larger, digit_rule}
use Rattle.meaning.specs.Row.{cell, ◌⊗◌, ◌≅◌}
use Rattle.meaning.specs.Gadget.Interface.{Gadget}
use Rattle.meaning.specs.Gadget.Digits.{value_at}
use Rattle.meaning.specs.Gadget.Sign.{sign_shift, sign_statement, sign_rows, sign_cells}

-- y, then the cells of the sign of v; the last row is f·v ≡ y. FORMAT 3.9, 5.6, 6.2, 7.13
unfoldable pub relu_line : Known → (v b k : ℕ) → Gadget
relu_line s v b k =
    let old : Ends = ends_of s v in
    record {
      unambiguous = digit_rule s.p b k old (sign_shift b k);
      fits = true;
      overlaps = true;
      narrowed = s.known;
      made = ends (larger (pos 0) old.E) (larger (pos 0) old.F) ∷ [];
      width = k + 3;
      inputs = 0;
      rows = sign_rows (cell (place_of s v)) (suc s.cells) b k (λ f. f ⊗ cell (place_of s v) ≅ cell s.cells);
      statement = λ vs. sign_statement b k (value_at vs v);
      values = λ vs next. larger (pos 0) (value_at vs v) ∷ [];
      cells = λ vs next. remainder s.p (larger (pos 0) (value_at vs v)) ∷ sign_cells s.p b k (value_at vs v);
    }
