-- `which u v b k`: 0 where u is at least v, else 1. The sign of u - v is shown as that of a relu's v (Sign.antt).
use Rattle.std.specs.Prelude.{ℕ, suc, ◌+◌, true, cond, List, [], ◌∷◌, ℤ, pos, ◌-ℤ◌}
use Rattle.std.specs.Int.Signed.{le_z}
use Rattle.meaning.specs.Number.{remainder}
use Rattle.meaning.specs.Known.{Known, ends, ends_of, place_of, apart, digit_rule}
use Rattle.meaning.specs.Row.{cell, constant, ◌⊖◌, ◌≅◌}
use Rattle.meaning.specs.Gadget.Interface.{Gadget}
use Rattle.meaning.specs.Gadget.Digits.{value_at}
use Rattle.meaning.specs.Gadget.Sign.{sign_shift, sign_statement, sign_rows, sign_cells}

-- compared as whole numbers, never as remainders. FORMAT 3.10, 12.15
unfoldable pub which_value : (u v : ℤ) → ℤ
which_value u v = cond (le_z v u) (pos 0) (pos 1)

-- y, then the cells of the sign of u - v; the last row is y ≡ 1-f. FORMAT 3.10, 5.7, 6.2, 7.14
unfoldable pub which_line : Known → (u v b k : ℕ) → Gadget
which_line s u v b k =
    let y : List ℤ → ℤ = λ vs. which_value (value_at vs u) (value_at vs v) in
    record {
      unambiguous = digit_rule s.p b k (apart (ends_of s u) (ends_of s v)) (sign_shift b k);
      fits = true;
      overlaps = true;
      narrowed = s.known;
      made = ends (pos 0) (pos 1) ∷ [];
      width = k + 3;
      inputs = 0;
      rows = sign_rows (cell (place_of s u) ⊖ cell (place_of s v)) (suc s.cells) b k (λ f. cell s.cells ≅ constant (pos 1) ⊖ f);
      statement = λ vs. sign_statement b k (value_at vs u -ℤ value_at vs v);
      values = λ vs next. y vs ∷ [];
      cells = λ vs next. remainder s.p (y vs) ∷ sign_cells s.p b k (value_at vs u -ℤ value_at vs v);
    }
