-- `root v b k`: the square root of v, rounded down. Digits show that v and y are small, and that y·y is at most v and (y+1)·(y+1) above it.
-- `square_root n`, of algebra, is the greatest y with y·y at most n.
use Rattle.std.specs.Prelude.{ℕ, suc, ◌+◌, ◌*◌, ◌-◌, ◌^◌, true, ◌&&◌, [], ◌∷◌, ◌++◌, leb, ℤ, pos, nat_abs, ◌-ℤ◌, ◌+ℤ◌, ◌*ℤ◌}
use Rattle.meaning.specs.Number.{half, between, remainder}
use Rattle.meaning.specs.Known.{Known, ends, place_of}
use Rattle.meaning.specs.Row.{Form, cell, constant, ◌⊕◌, ◌⊖◌, ◌⊗◌, ◌≅◌, group}
use Rattle.meaning.specs.Gadget.Interface.{Gadget}
use Rattle.meaning.specs.Gadget.Digits.{value_at, group_cells}
unfoldable pub use Rattle.algebra.specs.Root.{square_root}

-- the greatest y with y·y at most v. FORMAT 3.12
unfoldable pub root_value : ℤ → ℤ
root_value v = pos (square_root (nat_abs v))

-- y, q, then the groups over v, y, v-q and q+2·y-v with shift 0; the rows are y·y ≡ q, then the groups. FORMAT 3.12, 5.9, 7.16
unfoldable pub root_line : Known → (v b k : ℕ) → Gadget
root_line s v b k =
    let v' : Form = cell (place_of s v) in
    let y : Form = cell s.cells in
    let q : Form = cell (suc s.cells) in
    let at : ℕ = s.cells + 2 in
    record {
      -- the root rule. FORMAT 6.4, 12.16
      unambiguous = leb 3 (b ^ k) && leb (b ^ k * b ^ k) (half s.p + 1);
      fits = true;
      overlaps = true;
      narrowed = s.known;
      made = ends (pos 0) (pos (b ^ k - 1)) ∷ [];
      width = 2 + 4 * k;
      inputs = 0;
      rows = y ⊗ y ≅ q
          ∷ group v' (pos 0) at b k ++ group y (pos 0) (at + k) b k
          ++ group (v' ⊖ q) (pos 0) (at + 2 * k) b k ++ group (q ⊕ constant (pos 2) ⊗ y ⊖ v') (pos 0) (at + 3 * k) b k;
      statement = λ vs. between (pos 0) (value_at vs v) (pos (b ^ k) -ℤ pos 1);
      values = λ vs next. root_value (value_at vs v) ∷ [];
      cells = λ vs next.
          let x : ℤ = value_at vs v in
          let r : ℤ = root_value x in
          remainder s.p r ∷ remainder s.p (r *ℤ r)
          ∷ group_cells b k x (pos 0) ++ group_cells b k r (pos 0)
          ++ group_cells b k (x -ℤ r *ℤ r) (pos 0) ++ group_cells b k (r *ℤ r +ℤ pos 2 *ℤ r -ℤ x) (pos 0);
    }
