-- Writing into a list one stretch after another: the first n elements are xs, and the part from the n-th on is lent and gets ys.
use mathlib.Core.Path.{◌≡◌, sym, ap, ap₂, ◌∙◌}
use mathlib.Core.List.{List, [], ◌++◌, append_assoc, append-nil}
use Prim.Native.Nat.{ℕ, ◌+◌, ◌-◌, ◌≤◌}
use native.Mathlib.Omega.{arith}
use lib.ListN.{length, take, drop, length-drop, drop_of_length-le}
use lib.Seq.{take_at, drop_at, take_all, drop-drop}
use borrow.Rule.Slice.PartMut.{put_mid}

pub written_after : (n m width : ℕ) (before first last xs ys : List ℕ) → length xs ≡ n → first ≡ xs ++ drop n before
    → last ≡ ys ++ drop m (take (length first - n) (drop n first)) → width ≡ n + m
    → put_mid n (length first - n) first last ≡ (xs ++ ys) ++ drop width before
written_after n m width before first last xs ys l f p w =
    ap₂ (λ (us vs : List ℕ). us ++ vs) front (ap₂ (λ (us vs : List ℕ). us ++ vs) part none ∙ append-nil (ys ++ drop width before))
    ∙ sym (append_assoc xs ys (drop width before))
  where
    front : take n first ≡ xs
    front = ap (take n) f ∙ take_at xs (drop n before) n l

    back : drop n first ≡ drop n before
    back = ap (drop n) f ∙ drop_at xs (drop n before) n l

    short : length (drop n first) ≤ length first - n
    short = omega (arith, length-drop n first)

    none : drop (length first - n) (drop n first) ≡ []
    none = drop_of_length-le (drop n first) short

    part : last ≡ ys ++ drop width before
    part = p ∙ ap (λ (t : List ℕ). ys ++ drop m t) (take_all (length first - n) (drop n first) short ∙ back)
        ∙ ap (λ (t : List ℕ). ys ++ t) (drop-drop m n before ∙ ap (λ (i : ℕ). drop i before) (sym w))
