-- Writing a digit group: what is known before each digit, how a digit is written, and what is known at the end.
use mathlib.Core.Path.{◌≡◌, refl, sym, ap, ap₂, ◌∙◌}
use mathlib.Core.List.{List, [], ◌∷◌, ◌++◌, append_assoc, append-nil}
use Prim.Native.Nat.{ℕ, suc, ◌+◌, ◌-◌, ◌/◌, ◌%◌, ◌≤◌, ◌<◌}
use native.Mathlib.Omega.{arith}
use native.Mathlib.Numerals.{add-one}
use lib.ListN.{length, take, drop, set, length-set, take-append-drop}
use lib.Seq.{take-suc-set, drop-set-lt, drop-drop}
use Rattle.algebra.specs.Digits.{digits}

-- i digits of n are written over the cells that were there before, and the rest of n is what the other digits are of
pub record GroupFilling (b k n : ℕ) (before cells : List ℕ) (i rest : ℕ) : Type 0 where
  pub within : i ≤ k
  pub kept : length cells ≡ length before
  pub written : take i cells ++ digits b (k - i) rest ≡ digits b k n
  pub later : drop i cells ≡ drop i before

module _ (b k n : ℕ) where
  module _ {before cells : List ℕ} {i rest : ℕ} (f : GroupFilling b k n before cells i rest) where
    pub filling-turn : i < k → k ≤ length before → GroupFilling b k n before (set cells i (rest % b)) (i + 1) (rest / b)
    unfolding digits
    filling-turn h room =
        record {
          within = omega arith;
          kept = length-set cells i (rest % b) ∙ f.kept;
          written = rw (add-one i, take-suc-set cells i (rest % b) fits) (again ∙ f.written);
          later = rw (add-one i) (drop-set-lt (suc i) cells i (rest % b) (omega arith) ∙ further);
        }
      where
        fits : i < length cells
        fits = omega (arith, f.kept)

        less : k - i ≡ suc (k - suc i)
        less = omega arith

        again : (take i cells ++ (rest % b ∷ [])) ++ digits b (k - suc i) (rest / b) ≡ take i cells ++ digits b (k - i) rest
        again = rw (append_assoc, less) refl

        further : drop (suc i) cells ≡ drop (suc i) before
        further = rw (← add-one i, ← drop-drop 1 i cells, ← drop-drop 1 i before) (ap (drop 1) f.later)

    pub filling-end : k ≤ i → cells ≡ digits b k n ++ drop k before
    unfolding digits
    filling-end h = sym (take-append-drop i cells) ∙ ap₂ (λ (xs ys : List ℕ). xs ++ ys) all rest-kept
      where
        full : i ≡ k
        full = omega (arith, f.within)

        none : k - i ≡ 0
        none = omega arith

        all : take i cells ≡ digits b k n
        all = sym (append-nil (take i cells)) ∙ (rw none at f.written)

        rest-kept : drop i cells ≡ drop k before
        rest-kept = f.later ∙ ap (λ (m : ℕ). drop m before) full
