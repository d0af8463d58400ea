-- A list of an even length, taken two at a time: the first of each two are every other number of it, and the second those of what is left
-- without the first number.
use mathlib.Core.Path.{◌≡◌, refl, sym, ap, ◌∙◌}
use mathlib.Core.Bool.{Bool, true, false, and-false}
use mathlib.Core.List.{List, [], ◌∷◌, ◌++◌}
use Prim.Native.Nat.{ℕ, zero, suc, ◌-◌, ◌%◌, ◌<◌}
use native.Mathlib.Omega.{arith}
use lib.ListN.{length, get_or, take, drop, length-drop}
use lib.IntN.{ℤ, pos}
use denote.Ref.{Bor}
use Rattle.std.proofs.lemmas.List.{length-append, take_all}
use Rattle.std.proofs.lemmas.Iterator.{YieldsList}
use Rattle.std.specs.Bool.{MatchBool}
use Rattle.std.specs.List.{AllWithin, HoldsAt}
use Rattle.std.specs.Iterator.{AlwaysYields}
use Rattle.std.specs.Slice.Iter.{chunks_exact_steps, chunks_exact_rest, chunks_exact_size}
use Rattle.meaning.specs.Word.{alternate, without_first}
use Rattle.meaning.specs.Refusal.{all}

pub without-drop : (l : List ℤ) (i : ℕ) → without_first (drop i l) ≡ drop (suc i) l
unfolding without_first
without-drop [] zero = refl
without-drop [] (suc i) = refl
without-drop (x ∷ xs) zero = refl
without-drop (x ∷ xs) (suc i) = without-drop xs i

-- the two numbers that come, and what is left after them
two-first : (a b : ℤ) (xs l r : List ℤ) → a ∷ (b ∷ xs) ≡ l ++ r → length l ≡ 2 → (get_or l 0 (pos 0) ≡ a) × (get_or l 1 (pos 0) ≡ b) × (r ≡ xs)
two-first a b xs [] r e n = absurd (omega arith)
two-first a b xs (x ∷ []) r e n = absurd (omega arith)
two-first a b xs (x ∷ (y ∷ [])) r e n = (cc, cc, cc)
two-first a b xs (x ∷ (y ∷ (z ∷ l))) r e n = absurd (omega arith)

module _ where
  abbrev pub first : Bor (List ℤ) → ℤ
  first pair = get_or pair.now 0 (pos 0)

  abbrev pub second : Bor (List ℤ) → ℤ
  second pair = get_or pair.now 1 (pos 0)

  firsts : (xs : List ℤ) → length xs % 2 ≡ 0 → (s : _) → chunks_exact_rest s ≡ xs → chunks_exact_size s ≡ 2
      → AlwaysYields (chunks_exact_steps {A = ℤ}) first s (alternate xs)
  unfolding alternate
  firsts [] even s is two = λ x j step. omega (arith, ap length step.1.0, length-append x.now (chunks_exact_rest j), ap length is)
  firsts (a ∷ []) even s is two = absurd (omega arith)
  firsts (a ∷ (b ∷ xs)) even s is two = (
    λ j step. omega (arith, ap length is),
    λ x j step.
        let w = two-first a b xs x.now (chunks_exact_rest j) (sym is ∙ step.1.0) (step.1.1 ∙ two) in
        (w.0, firsts xs (omega arith) j w.2 (step.0 ∙ two)),
  )

  seconds : (xs : List ℤ) → length xs % 2 ≡ 0 → (s : _) → chunks_exact_rest s ≡ xs → chunks_exact_size s ≡ 2
      → AlwaysYields (chunks_exact_steps {A = ℤ}) second s (alternate (without_first xs))
  unfolding alternate without_first
  seconds [] even s is two = λ x j step. omega (arith, ap length step.1.0, length-append x.now (chunks_exact_rest j), ap length is)
  seconds (a ∷ []) even s is two = absurd (omega arith)
  seconds (a ∷ (b ∷ [])) even s is two = (
    λ j step. omega (arith, ap length is),
    λ x j step.
        let w = two-first a b [] x.now (chunks_exact_rest j) (sym is ∙ step.1.0) (step.1.1 ∙ two) in
        (w.1, seconds [] refl j w.2 (step.0 ∙ two)),
  )
  seconds (a ∷ (b ∷ (c ∷ xs))) even s is two = (
    λ j step. omega (arith, ap length is),
    λ x j step.
        let w = two-first a b (c ∷ xs) x.now (chunks_exact_rest j) (sym is ∙ step.1.0) (step.1.1 ∙ two) in
        (w.1, seconds (c ∷ xs) (omega arith) j w.2 (step.0 ∙ two)),
  )

-- a walk over the pairs that follow the first number of a list of an odd length meets these numbers
module _ (ns : List ℤ) (odd : length ns % 2 ≡ 1) where
  pub whole : take (length ns - 1) (drop 1 ns) ≡ drop 1 ns
  whole = take_all (length ns - 1) (drop 1 ns) (omega (arith, length-drop 1 ns))

  pub yields-firsts : {s : _} → chunks_exact_rest s ≡ take (length ns - 1) (drop 1 ns) → chunks_exact_size s ≡ 2 → YieldsList (chunks_exact_steps {A = ℤ}) first s (alternate (drop 1 ns))
  yields-firsts {s} is two = record { runs = firsts (drop 1 ns) (omega (arith, length-drop 1 ns)) s (is ∙ whole) two }

  pub yields-seconds : {s : _} → chunks_exact_rest s ≡ take (length ns - 1) (drop 1 ns) → chunks_exact_size s ≡ 2 → YieldsList (chunks_exact_steps {A = ℤ}) second s (alternate (drop 2 ns))
  yields-seconds {s} is two = record { runs = rw (← without-drop ns 1) (seconds (drop 1 ns) (omega (arith, length-drop 1 ns)) s (is ∙ whole) two) }

-- a test of each of them
module _ (f : ℤ → Bool) where
  abbrev Tested : Bool → List ℤ → Type 0
  Tested r zs = MatchBool r (AllWithin (λ z. f z ≡ true) zs 0 (length zs)) ((k : ℕ) × (k < length zs) × HoldsAt (λ z. f z ≡ false) zs k)

  all_pass : (zs : List ℤ) → AllWithin (λ z. f z ≡ true) zs 0 (length zs) → all f zs ≡ true
  unfolding all
  all_pass [] h = refl
  all_pass (z ∷ zs) h = rw (h 0 z (omega arith) (omega arith), all_pass zs (λ k d l m. h (suc k) d (omega arith) (omega arith)))

  one-fails : (zs : List ℤ) (k : ℕ) → k < length zs → HoldsAt (λ z. f z ≡ false) zs k → all f zs ≡ false
  unfolding all
  one-fails [] k l h = absurd (omega arith)
  one-fails (z ∷ zs) zero l h = rw (h z)
  one-fails (z ∷ zs) (suc k) l h = rw (one-fails zs k (omega arith) h, and-false (f z))

  pub tested-all : (r : Bool) (zs : List ℤ) → Tested r zs → r ≡ all f zs
  tested-all true zs h = sym (all_pass zs h)
  tested-all false zs h = sym (one-fails zs h.0 h.1 h.2)
