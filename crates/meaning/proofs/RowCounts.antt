-- How many rows a digit group has, and those that several groups make: a row for each digit and one for the value.
use mathlib.Core.Path.{◌≡◌, refl, ap, ◌∙◌}
use mathlib.Core.List.{[], ◌∷◌, ◌++◌}
use Prim.Native.Nat.{ℕ, zero, suc, ◌+◌, ◌*◌}
use native.Mathlib.Omega.{arith}
use lib.ListN.{length, length-append}
use lib.IntN.{ℤ}
use Rattle.meaning.specs.Row.{Row, Form, constant, ◌⊖◌, ◌≅◌, digit_rows, place_values, group}
use Rattle.meaning.specs.Gadget.Sign.{sign_rows, sign_shift}

pub length-digit_rows : (at b k : ℕ) → length (digit_rows at b k) ≡ k
unfolding digit_rows
length-digit_rows at b zero = refl
length-digit_rows at b (suc k) = ap suc (length-digit_rows (suc at) b k)

pub length-group_rows : (f : Form) (L : ℤ) (at b k : ℕ) → length (group f L at b k) ≡ k + 1
unfolding group
length-group_rows f L at b k = length-append (digit_rows at b k) (f ⊖ constant L ≅ place_values 1 at b k ∷ []) ∙ ap (λ (n : ℕ). n + 1) (length-digit_rows at b k)

pub length-sign_rows : (f : Form) (at b k : ℕ) (last : Form → Row) → length (sign_rows f at b k last) ≡ k + 5
unfolding sign_rows
length-sign_rows f at b k last =
    length-append (group f (sign_shift b k) at b k) (_ ∷ _ ∷ _ ∷ _ ∷ []) ∙ rw (length-group_rows f (sign_shift b k) at b k) (omega arith)

pub two-groups : (f g : Form) (L : ℤ) (at at' b k : ℕ) → suc (length (group f L at b k ++ group g L at' b k)) ≡ 2 * k + 3
two-groups f g L at at' b k = ap suc (length-append (group f L at b k) (group g L at' b k))
    ∙ omega (arith, length-group_rows f L at b k, length-group_rows g L at' b k)

pub four-groups : (f g h l : Form) (L : ℤ) (a b c d base k : ℕ)
    → suc (length (group f L a base k ++ group g L b base k ++ group h L c base k ++ group l L d base k)) ≡ 4 * k + 5
four-groups f g h l L a b c d base k =
    let one = group f L a base k in
    let two = group g L b base k in
    let three = group h L c base k in
    let four = group l L d base k in
    omega (
      arith,
      length-append (one ++ two ++ three) four,
      length-append (one ++ two) three,
      length-append one two,
      length-group_rows f L a base k,
      length-group_rows g L b base k,
      length-group_rows h L c base k,
      length-group_rows l L d base k,
    )
