-- Bytes parted at a separator and joined again, each undone by the other; and the lines of a text, joined by the byte that ends each. FORMAT 2.1, 2.2
use mathlib.Core.Path.{◌≡◌, refl, sym, ap, ap₂, ◌∙◌}
use mathlib.Core.Bool.{Bool, true, false, cond}
use mathlib.Core.List.{List, [], ◌∷◌, ◌++◌}
use Prim.Native.Nat.{ℕ}
use native.Mathlib.Omega.{arith}
use lib.Dec.{T, eqb, eqb→eq, eqb_refl}
use lib.ListN.{length}
use Rattle.algebra.proofs.Test.{test-≡, cond_cases}
use Rattle.meaning.specs.Text.{on_first, split, lines_of, without_last, is_ended}

-- ---- parts between separators

-- no byte is the separator
abbrev pub Free : ℕ → List ℕ → Type 0
Free separator [] = Unit {0}
Free separator (x ∷ xs) = (eqb x separator ≡ false) × Free separator xs

pub free-append : (separator : ℕ) (xs ys : List ℕ) → Free separator xs → Free separator ys → Free separator (xs ++ ys)
free-append separator [] ys f g = g
free-append separator (x ∷ xs) ys f g = (f.0, free-append separator xs ys f.1 g)

pub split-free : (separator : ℕ) (xs : List ℕ) → Free separator xs → split separator xs ≡ xs ∷ []
unfolding split on_first
split-free separator [] f = refl
split-free separator (x ∷ xs) f = rw (f.0, split-free separator xs f.1) refl

pub split-past : (separator : ℕ) (xs ys : List ℕ) → Free separator xs → split separator (xs ++ separator ∷ ys) ≡ xs ∷ split separator ys
unfolding split on_first
split-past separator [] ys f = rw (test-≡ (eqb separator separator) (eqb_refl separator)) refl
split-past separator (x ∷ xs) ys f = rw (f.0, split-past separator xs ys f.1) refl

-- parts joined again
unfoldable pub after_each : ℕ → List (List ℕ) → List ℕ
after_each separator [] = []
after_each separator (f ∷ fs) = separator ∷ f ++ after_each separator fs

unfoldable pub unsplit : ℕ → List (List ℕ) → List ℕ
unsplit separator [] = []
unsplit separator (f ∷ fs) = f ++ after_each separator fs

unsplit-first : (separator x : ℕ) (fs : List (List ℕ)) → unsplit separator (on_first x fs) ≡ x ∷ unsplit separator fs
unfolding unsplit on_first after_each
unsplit-first separator x [] = refl
unsplit-first separator x (f ∷ fs) = refl

unsplit-none : (separator : ℕ) (fs : List (List ℕ)) → (length fs ≡ 0 → ⊥) → unsplit separator ([] ∷ fs) ≡ separator ∷ unsplit separator fs
unfolding unsplit after_each
unsplit-none separator [] h = absurd (h refl)
unsplit-none separator (f ∷ fs) h = refl

some-part-at : (t : Bool) (x : ℕ) (rest : List (List ℕ)) → length (cond t ([] ∷ rest) (on_first x rest)) ≡ 0 → ⊥
unfolding on_first
some-part-at true x rest e = omega arith
some-part-at false x [] e = omega arith
some-part-at false x (f ∷ fs) e = omega arith

some-part : (separator : ℕ) (xs : List ℕ) → length (split separator xs) ≡ 0 → ⊥
unfolding split
some-part separator [] e = omega arith
some-part separator (x ∷ xs) e = some-part-at (eqb x separator) x (split separator xs) e

one-empty : (n : ℕ) → unsplit n ([] ∷ []) ≡ []
unfolding unsplit after_each
one-empty n = refl

pub split-joined : (separator : ℕ) (xs : List ℕ) → unsplit separator (split separator xs) ≡ xs
unfolding split
split-joined separator [] = one-empty separator
split-joined separator (x ∷ xs) =
    cond_cases (λ o. unsplit separator o ≡ x ∷ xs) (eqb x separator) _ _
    (λ t. unsplit-none separator (split separator xs) (some-part separator xs)
    ∙ ap₂ (λ (b : ℕ) (bs : List ℕ). b ∷ bs) (sym (eqb→eq x separator t)) (split-joined separator xs))
    (λ _. unsplit-first separator x (split separator xs) ∙ ap (λ (bs : List ℕ). x ∷ bs) (split-joined separator xs))

-- ---- the lines of a text

pub without-last : (ls : List (List ℕ)) (l : List ℕ) → without_last (ls ++ l ∷ []) ≡ ls
unfolding without_last
without-last [] l = refl
without-last (k ∷ []) l = refl
without-last (k ∷ (m ∷ ls)) l = ap (λ (r : List (List ℕ)). k ∷ r) (without-last (m ∷ ls) l)

-- lines, each ended by byte 10
unfoldable pub ended : List (List ℕ) → List ℕ
ended [] = []
ended (l ∷ ls) = l ++ 10 ∷ ended ls

-- there are two parts at least, and the last is empty
abbrev LastEmpty : List (List ℕ) → Type 0
LastEmpty [] = ⊥
LastEmpty (f ∷ []) = ⊥
LastEmpty (f ∷ (g ∷ [])) = g ≡ []
LastEmpty (f ∷ (g ∷ (h ∷ fs))) = LastEmpty (g ∷ (h ∷ fs))

last-empty-first : (x : ℕ) (fs : List (List ℕ)) → LastEmpty fs → LastEmpty (on_first x fs)
unfolding on_first
last-empty-first x [] e = absurd e
last-empty-first x (f ∷ []) e = absurd e
last-empty-first x (f ∷ (g ∷ [])) e = e
last-empty-first x (f ∷ (g ∷ (h ∷ fs))) e = e

last-empty-cons : (f : List ℕ) (fs : List (List ℕ)) → LastEmpty fs → LastEmpty (f ∷ fs)
last-empty-cons f [] e = absurd e
last-empty-cons f (g ∷ []) e = absurd e
last-empty-cons f (g ∷ (h ∷ fs)) e = e

last-empty-at : (t : Bool) (x : ℕ) (fs : List (List ℕ)) → LastEmpty fs → LastEmpty (cond t ([] ∷ fs) (on_first x fs))
last-empty-at true x fs e = last-empty-cons [] fs e
last-empty-at false x fs e = last-empty-first x fs e

split-ended : (text : List ℕ) → T (is_ended text) → LastEmpty (split 10 text)
unfolding is_ended split
split-ended [] t = absurd t
split-ended (x ∷ []) t = let e = test-≡ (eqb x 10) t in rw e refl
split-ended (x ∷ (y ∷ xs)) t = last-empty-at (eqb x 10) x _ (split-ended (y ∷ xs) t)

joined-ended : (fs : List (List ℕ)) → LastEmpty fs → unsplit 10 fs ≡ ended (without_last fs)
unfolding unsplit after_each ended without_last
joined-ended [] e = absurd e
joined-ended (f ∷ []) e = absurd e
joined-ended (f ∷ (g ∷ [])) e = rw e refl
joined-ended (f ∷ (g ∷ (h ∷ fs))) e = ap (λ (t : List ℕ). f ++ 10 ∷ t) (joined-ended (g ∷ (h ∷ fs)) e)

pub lines-joined : (text : List ℕ) → T (is_ended text) → ended (lines_of text) ≡ text
unfolding lines_of
lines-joined text t = sym (joined-ended (split 10 text) (split-ended text t)) ∙ split-joined 10 text
