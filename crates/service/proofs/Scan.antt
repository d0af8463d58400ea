-- Looking at the elements of a list by a test: for the first that fails, where at element i those before it have passed, or at all of
-- them, for whether all pass.
use mathlib.Core.Path.{◌≡◌, refl, sym, ap, ◌∙◌}
use mathlib.Core.Bool.{Bool, true, false, not, cond, ◌&&◌, false≢true, and-true, and_assoc}
use mathlib.Core.List.{List, [], ◌∷◌}
use mathlib.Core.Option.{Option, none, some}
use Prim.Native.Nat.{ℕ, suc, ◌+◌, ◌<◌}
use native.Mathlib.Numerals.{add-one}
use lib.ListN.{length, get_or}
use Rattle.std.specs.List.{fold, position, position_from}
use Rattle.std.specs.Prelude.{Some, None}
use Rattle.std.specs.Prelude.{Option as Perhaps}
use Rattle.std.proofs.lemmas.Iterator.Adapters.{position_from-zero}
use Rattle.algebra.proofs.Test.{test-≡, ≡-test, false-not, cond_cases}
use Rattle.meaning.specs.Refusal.{all, on_some}
use Rattle.meaning.specs.Reply.{first_fail}
use Rattle.meaning.proofs.Lists.{all_pass, first-fails, first-fails-at}

-- ---- all pass where none fails

none_found : (o : Option ℕ) → on_some o (λ i. false) true ≡ true → o ≡ none
unfolding on_some
none_found none e = refl
none_found (some i) e = absurd (false≢true e)

all_found : {A : Type 0} (f : A → Bool) (n : ℕ) (xs : List A) → all f xs ≡ on_some (first_fail f n xs) (λ i. false) true
unfolding all first_fail on_some
all_found f n [] = refl
all_found f n (x ∷ xs) =
    cond_cases (λ o. (f x && all f xs) ≡ on_some o (λ i. false) true) (f x) (first_fail f (suc n) xs) (some n)
    (λ t. rw (test-≡ (f x) t) (all_found f (suc n) xs)) (λ e. rw e refl)

pub all_none : {A : Type 0} (f : A → Bool) (xs : List A) → all f xs ≡ true → none ≡ first_fail f 0 xs
all_none f xs e = sym (none_found (first_fail f 0 xs) (sym (all_found f 0 xs) ∙ e))

-- ---- the place of the first that fails, as the library finds it

abbrev pub place_in : Perhaps ℕ → Option ℕ
place_in None = none
place_in (Some i) = some i

module _ {A : Type 0} (f g : A → Bool) (fails : (x : A) → g x ≡ not (f x)) where
  first-here : (b c : Bool) (n : ℕ) (o : Option ℕ) (q : Perhaps ℕ) → c ≡ not b → o ≡ place_in q → cond b o (some n) ≡ place_in (cond c (Some n) q)
  first-here true c n o q e h = rw e h
  first-here false c n o q e h = rw e refl

  first-from-position : (n : ℕ) (xs : List A) → first_fail f n xs ≡ place_in (position_from g n xs)
  unfolding first_fail
  first-from-position n [] = refl
  first-from-position n (x ∷ xs) = first-here (f x) (g x) n _ _ (fails x) (rw (add-one n) (first-from-position (suc n) xs))

  pub first-position : (xs : List A) → first_fail f 0 xs ≡ place_in (position g xs)
  first-position xs = first-from-position 0 xs ∙ ap place_in (sym (position_from-zero g xs))

-- ---- whether all pass, taken together from the first on

module _ {A : Type 0} (f : A → Bool) where
  folded-from : (passed : Bool) (xs : List A) → (passed && all f xs) ≡ fold (λ together x. together && f x) passed xs
  unfolding all
  folded-from passed [] = and-true passed
  folded-from passed (x ∷ xs) = sym (and_assoc passed (f x) (all f xs)) ∙ folded-from (passed && f x) xs

  pub all_folded : (xs : List A) → all f xs ≡ fold (λ together x. together && f x) true xs
  all_folded xs = folded-from true xs

module _ {A : Type 0} (f : A → Bool) (d : A) (xs : List A) where
  -- ---- looked at from the first on, up to one that fails

  abbrev pub PassedBefore : ℕ → Type 0
  PassedBefore i = (k : ℕ) → k < i → f (get_or xs k d) ≡ true

  pub first_at : (i : ℕ) → i < length xs → f (get_or xs i d) ≡ false → PassedBefore i → some i ≡ first_fail f 0 xs
  first_at i h e before =
      sym ((first-fails-at f d i xs).1 (record { inside = h; fails = false-not _ e; earlier = λ k l. ≡-test _ (before k l) }))

  pub none-at : PassedBefore (length xs) → none ≡ first_fail f 0 xs
  none-at before = sym ((all_pass f d 0 xs).1 (λ k l. ≡-test _ (before k l)))

  -- ---- counted from another number

  pub first-from : (n i : ℕ) → first_fail f 0 xs ≡ some i → first_fail f n xs ≡ some (n + i)
  first-from n i e = (first-fails f d n (n + i) xs).1 (i, refl, (first-fails-at f d i xs).0 e)

  pub none_from : (n : ℕ) → first_fail f 0 xs ≡ none → first_fail f n xs ≡ none
  none_from n e = (all_pass f d n xs).1 ((all_pass f d 0 xs).0 e)

  -- the place that is found is one of the elements
  pub found_inside : (i : ℕ) → first_fail f 0 xs ≡ some i → i < length xs
  found_inside i e = ((first-fails-at f d i xs).0 e).inside
