-- Codes that no word has.
use mathlib.Core.Path.{◌≡◌, refl}
use mathlib.Core.List.{List, [], ◌∷◌}
use mathlib.Core.Option.{none}
use Prim.Native.Nat.{ℕ, zero, suc, ◌≤◌}
use native.Mathlib.Omega.{arith}
use lib.ListN.{length}
use Rattle.meaning.specs.Word.{words}
use Rattle.meaning.specs.Write.{element_at, word_with}

element-past : {A : Type 0} (xs : List A) (i : ℕ) → length xs ≤ i → element_at xs i ≡ none
unfolding element_at
element-past [] i h = refl
element-past (x ∷ xs) zero h = absurd (omega arith)
element-past (x ∷ xs) (suc i) h = element-past xs i (omega arith)

pub past_words : (code : ℕ) → 8 ≤ code → word_with code ≡ none
unfolding word_with words
past_words code h = element-past words code h
