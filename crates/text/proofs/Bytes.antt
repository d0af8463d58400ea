-- Laws of byte strings: the bytes from a place on, taken apart at the first, and the comparison of two.
use mathlib.Core.Path.{◌≡◌, refl, ap}
use mathlib.Core.List.{List, [], ◌∷◌}
use mathlib.Core.Bool.{◌&&◌}
use Prim.Native.Nat.{ℕ, zero, suc, ◌+◌, ◌<◌}
use native.Mathlib.Numerals.{add-one}
use native.Mathlib.Omega.{arith}
use lib.Dec.{eqb}
use lib.ListN.{length, get_or, take, drop}
use lib.Seq.{drop-cons, take-nil}
use Rattle.std.specs.Str.{bytes_eq}
use Rattle.meaning.specs.Text.{same_bytes}

pub drop_more : (xs : List ℕ) (i : ℕ) → i < length xs → drop i xs ≡ get_or xs i 0 ∷ drop (i + 1) xs
drop_more xs i h = rw (add-one, ← drop-cons xs i 0 h)

pub drop-take : (n m : ℕ) (xs : List ℕ) → drop n (take (n + m) xs) ≡ take m (drop n xs)
drop-take zero m xs = let e : 0 + m ≡ m = omega arith in rw e
drop-take (suc n) m [] = rw (take-nil (suc n + m), take-nil m)
drop-take (suc n) m (x ∷ xs) = let e : suc n + m ≡ suc (n + m) = omega arith in rw e (drop-take n m xs)

-- what `==` says of two byte strings
pub bytes-equal : (xs ys : List ℕ) → bytes_eq xs ys ≡ same_bytes xs ys
unfolding same_bytes
bytes-equal [] [] = refl
bytes-equal [] (y ∷ ys) = refl
bytes-equal (x ∷ xs) [] = refl
bytes-equal (x ∷ xs) (y ∷ ys) = ap (λ t. eqb x y && t) (bytes-equal xs ys)
