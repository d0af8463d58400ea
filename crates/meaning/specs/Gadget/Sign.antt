-- What relu and which share: a digit group over x with shift -B, whose top digit is b-1 just where x is not negative; f says so in a cell, and w
-- is the witness that t, the top digit less b-1, is not 0 where f is 0. `inverse p t`, of algebra, is the remainder w below p with t·w ≡ 1.
use Rattle.std.specs.Prelude.{ℕ, suc, ◌+◌, ◌-◌, ◌^◌, ◌/◌, ◌%◌, Bool, cond, List, [], ◌∷◌, ◌++◌, eqb, ℤ, pos, neg_ℤ, nat_abs, ◌-ℤ◌}
use Rattle.meaning.specs.Number.{between, remainder}
use Rattle.meaning.specs.Known.{top_part}
use Rattle.meaning.specs.Row.{Form, cell, constant, ◌⊖◌, ◌⊗◌, Row, ◌≅◌, group}
use Rattle.meaning.specs.Gadget.Digits.{group_cells}
unfoldable pub use Rattle.algebra.specs.Congruence.{inverse}

-- -B. FORMAT 7.10
unfoldable pub sign_shift : (b k : ℕ) → ℤ
sign_shift b k = neg_ℤ (pos (top_part b k))

-- does x lie in -B..b^(k-1)-1? FORMAT 3.9, 3.10
unfoldable pub sign_statement : (b k : ℕ) → ℤ → Bool
sign_statement b k x = between (sign_shift b k) x (pos (b ^ (k - 1)) -ℤ pos 1)

-- the rows of t, f and w. The last of them leaves one w where f is 1. FORMAT 7.12, 12.12
abbrev pub flag_rows : (t f w : Form) → List Row
flag_rows t f w = t ⊗ w ≅ constant (pos 1) ⊖ f ∷ t ⊗ f ≅ constant (pos 0) ∷ w ⊗ f ≅ constant (pos 0) ∷ []

-- the group at the k cells from the one called at, then f and w; last is the row that ties the line's value to f. FORMAT 7.10, 7.12
unfoldable pub sign_rows : Form → (at b k : ℕ) → (Form → Row) → List Row
sign_rows form at b k last =
    let t : Form = cell (at + (k - 1)) ⊖ constant (pos (b - 1)) in
    let f : Form = cell (at + k) in
    let w : Form = cell (at + suc k) in
    group form (sign_shift b k) at b k ++ (flag_rows t f w ++ last f ∷ [])

-- t modulo p, where the group's cells are the digits of x + B. FORMAT 7.10
unfoldable pub sign_top : (p b k : ℕ) → ℤ → ℕ
sign_top p b k x = remainder p (pos (nat_abs (x -ℤ sign_shift b k) / b ^ (k - 1) % b) -ℤ pos (b - 1))

-- the digits, f and w. FORMAT 7.10, 7.11
unfoldable pub sign_cells : (p b k : ℕ) → ℤ → List ℕ
sign_cells p b k x =
    let t : ℕ = sign_top p b k x in
    group_cells b k x (sign_shift b k) ++ cond (eqb t 0) 1 0 ∷ cond (eqb t 0) 0 (inverse p t) ∷ []
