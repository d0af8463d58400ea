-- `first_fail`, for any test: it finds nothing exactly when every element passes, and else the place of the first that fails.
use Prim.Native.Nat.{ℕ, zero, suc, ◌+◌, ◌<◌}
use native.Mathlib.Nat.{zero-add}
use native.Mathlib.Omega.{arith}
use mathlib.Core.Path.{◌≡◌, refl, sym, ap, ◌∙◌}
use mathlib.Core.Bool.{Bool, false}
use mathlib.Core.Logic.{◌↔◌, ◌⊎◌, inl, inr}
use mathlib.Core.List.{List, [], ◌∷◌}
use mathlib.Core.Option.{Option, none, some, none-ne-some, some-injective}
use lib.Dec.{T}
use lib.ListN.{length, get_or}
use Rattle.algebra.proofs.Test.{false-not, cond_cases}
use Rattle.meaning.specs.Reply.{first_fail}

-- elements are read with a default d, which stands for none of them
module _ {A : Type 0} (f : A → Bool) (d : A) where
  abbrev pub AllPass : List A → Type 0
  AllPass xs = (i : ℕ) → i < length xs → T (f (get_or xs i d))

  -- the element at i is the first that fails
  pub record FirstFails (xs : List A) (i : ℕ) : Type 0 where
    pub inside : i < length xs
    pub fails : ¬ T (f (get_or xs i d))
    pub earlier : (j : ℕ) → j < i → T (f (get_or xs j d))

  -- ---- an element in front

  pub all-pass-cons : (x : A) (xs : List A) → T (f x) → AllPass xs → AllPass (x ∷ xs)
  all-pass-cons x xs t h zero k = t
  all-pass-cons x xs t h (suc i) k = h i (omega arith)

  pub first-fails-here : (x : A) (xs : List A) → f x ≡ false → FirstFails (x ∷ xs) 0
  first-fails-here x xs e = record { inside = omega arith; fails = false-not (f x) e; earlier = λ j h. absurd (omega arith) }

  pub first-fails-later : (x : A) (xs : List A) (i : ℕ) → T (f x) → FirstFails xs i → FirstFails (x ∷ xs) (suc i)
  first-fails-later x xs i t h = record { inside = omega arith; fails = h.fails; earlier = before }
    where
      before : (j : ℕ) → j < suc i → T (f (get_or (x ∷ xs) j d))
      before zero k = t
      before (suc j) k = h.earlier j (omega arith)

  -- ---- what is found

  abbrev Found : (n : ℕ) (xs : List A) (o : Option ℕ) → Type 0
  Found n xs o = ((o ≡ none) × AllPass xs) ⊎ ((i : ℕ) × (o ≡ some (n + i)) × FirstFails xs i)

  found-later : (n : ℕ) (x : A) (xs : List A) (o : Option ℕ) → T (f x) → Found (suc n) xs o → Found n (x ∷ xs) o
  found-later n x xs o t (inl h) = inl (h.0, all-pass-cons x xs t h.1)
  found-later n x xs o t (inr h) =
      let e : suc n + h.0 ≡ n + suc h.0 = omega arith in
      inr (suc h.0, (rw e at h.1), first-fails-later x xs h.0 t h.2)

  found : (n : ℕ) (xs : List A) → Found n xs (first_fail f n xs)
  unfolding first_fail
  found n [] = inl (refl, λ i h. absurd (omega arith))
  found n (x ∷ xs) =
      cond_cases (Found n (x ∷ xs)) (f x) (first_fail f (suc n) xs) (some n)
      (λ t. found-later n x xs (first_fail f (suc n) xs) t (found (suc n) xs))
      (λ e. inr (0, ap some (omega arith), first-fails-here x xs e))

  -- ---- the two laws

  pub all_pass : (n : ℕ) (xs : List A) → (first_fail f n xs ≡ none) ↔ AllPass xs
  all_pass n xs = (λ e. to e (found n xs), λ h. from h (found n xs))
    where
      to : first_fail f n xs ≡ none → Found n xs (first_fail f n xs) → AllPass xs
      to e (inl h) = h.1
      to e (inr h) = absurd (none-ne-some _ (sym e ∙ h.1))

      from : AllPass xs → Found n xs (first_fail f n xs) → first_fail f n xs ≡ none
      from a (inl h) = h.0
      from a (inr h) = absurd (h.2.fails (a h.0 h.2.inside))

  -- of two first failures neither comes before the other
  one-first : (xs : List A) (i j : ℕ) → FirstFails xs i → FirstFails xs j → i ≡ j
  one-first xs i j h k =
      let a : ¬ (i < j) = λ l. h.fails (k.earlier i l) in
      let b : ¬ (j < i) = λ l. k.fails (h.earlier j l) in
      omega arith

  pub first-fails : (n r : ℕ) (xs : List A) → (first_fail f n xs ≡ some r) ↔ ((i : ℕ) × (r ≡ n + i) × FirstFails xs i)
  first-fails n r xs = (λ e. to e (found n xs), λ h. from h (found n xs))
    where
      to : first_fail f n xs ≡ some r → Found n xs (first_fail f n xs) → (i : ℕ) × (r ≡ n + i) × FirstFails xs i
      to e (inl h) = absurd (none-ne-some _ (sym h.0 ∙ e))
      to e (inr h) = (h.0, some-injective _ _ (sym e ∙ h.1), h.2)

      from : (i : ℕ) × (r ≡ n + i) × FirstFails xs i → Found n xs (first_fail f n xs) → first_fail f n xs ≡ some r
      from k (inl h) = absurd (k.2.fails (h.1 k.0 k.2.inside))
      from k (inr h) = rw (k.1, one-first xs k.0 h.0 k.2 h.2) h.1

  -- the same where places are counted from 0
  pub first-fails-at : (r : ℕ) (xs : List A) → (first_fail f 0 xs ≡ some r) ↔ FirstFails xs r
  first-fails-at r xs = (λ e. to ((first-fails 0 r xs).0 e), λ h. (first-fails 0 r xs).1 (r, sym (zero-add r), h))
    where
      to : (i : ℕ) × (r ≡ 0 + i) × FirstFails xs i → FirstFails xs r
      to h = rw (h.1, zero-add h.0) h.2
