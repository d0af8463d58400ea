-- The first row that fails, and its refusal, of a list that is put together from parts: a check of a line follows these laws.
use mathlib.Core.Path.{◌≡◌, refl, sym, ap, ◌∙◌}
use mathlib.Core.Bool.{Bool, cond, true, false}
use mathlib.Core.List.{List, [], ◌∷◌, ◌++◌}
use mathlib.Core.Option.{Option, none, some}
use Prim.Native.Nat.{ℕ, suc, ◌+◌}
use native.Mathlib.Nat.{add-zero}
use native.Mathlib.Omega.{arith}
use lib.ListN.{length}
use Rattle.meaning.specs.Reply.{Reply, reply, first_fail, refusal_at}
use Rattle.std.specs.Prelude.{Result, Ok, Err}
use Rattle.std.specs.Result.{result_and}
use Rattle.groups.specs.Rows.{first_of, first_refusal, rows_meaning}

-- a choice between two answers, and then a later one
first_of-cond : (c : Bool) (a : Option ℕ) (n : ℕ) (b : Option ℕ) → cond c (first_of a b) (some n) ≡ first_of (cond c a (some n)) b
unfolding first_of
first_of-cond true a n b = refl
first_of-cond false a n b = refl

-- a list in two parts: the second is looked at where the first has none that fails, and its places go on from there
pub first-append : {A : Type 0} (f : A → Bool) (n : ℕ) (xs ys : List A)
    → first_fail f n (xs ++ ys) ≡ first_of (first_fail f n xs) (first_fail f (n + length xs) ys)
unfolding first_fail first_of
first-append f n [] ys = rw add-zero refl
first-append f n (x ∷ xs) ys =
    let e : suc n + length xs ≡ n + suc (length xs) = omega arith in
    rw (first-append f (suc n) xs ys, e) (first_of-cond (f x) (first_fail f (suc n) xs) n (first_fail f (n + suc (length xs)) ys))

-- ---- the refusal at a place

refusal-cond : (r : ℕ) (c : Bool) (later : Option ℕ) (n : ℕ) → cond c (refusal_at r later) (some (reply r n)) ≡ refusal_at r (cond c later (some n))
unfolding refusal_at
refusal-cond r true later n = refl
refusal-cond r false later n = refl

refusal-first : (r : ℕ) (earlier later : Option ℕ) → first_of (refusal_at r earlier) (refusal_at r later) ≡ refusal_at r (first_of earlier later)
unfolding refusal_at first_of
refusal-first r none later = refl
refusal-first r (some i) later = refl

-- ---- a check of rows

-- the answer for some rows and then others is the first that fails
pub rows-and : {r : Result (Unit {0}) ℕ} (a b : Result (Unit {0}) ℕ) → r ≡ result_and a b → rows_meaning r ≡ first_of (rows_meaning a) (rows_meaning b)
unfolding first_of
rows-and (Ok _) b e = rw e refl
rows-and (Err i) b e = rw e refl

-- a list with nothing in it
pub first-none : {A : Type 0} (f : A → Bool) (n : ℕ) → none ≡ first_refusal f n []
unfolding first_fail refusal_at
first-none f n = refl

-- the answer for an element and those after it, from its test and theirs: the next place is m
pub first-row : {A : Type 0} (f : A → Bool) (n m : ℕ) (x : A) (xs : List A) {r later : Option Reply} {test : Bool} → m ≡ suc n → test ≡ f x
    → r ≡ cond test later (some (reply 15 n)) → later ≡ first_refusal f m xs → r ≡ first_refusal f n (x ∷ xs)
unfolding first_fail
first-row f n m x xs h e s l = s ∙ rw (e, l, h) (refusal-cond 15 (f x) (first_fail f (suc n) xs) n)

-- and for a list in two parts: the second begins at m
pub first_rows : {A : Type 0} (f : A → Bool) (n m : ℕ) (xs ys : List A) {r earlier later : Option Reply} → m ≡ n + length xs
    → r ≡ first_of earlier later → earlier ≡ first_refusal f n xs → later ≡ first_refusal f m ys → r ≡ first_refusal f n (xs ++ ys)
first_rows f n m xs ys h s e l =
    s ∙ rw (e, l, h) (refusal-first 15 (first_fail f n xs) (first_fail f (n + length xs) ys) ∙ ap (refusal_at 15) (sym (first-append f n xs ys)))
