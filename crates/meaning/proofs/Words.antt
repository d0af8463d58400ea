-- What a test finds of each word of the list of words holds of every word. So a law that a computed test says needs no clause for a new word. And
-- a word and its spelling, each found by the other.
use Prim.Native.Nat.{ℕ, zero, suc, ◌<◌}
use native.Mathlib.Omega.{arith}
use mathlib.Core.Path.{◌≡◌, refl, sym}
use mathlib.Core.Bool.{Bool, true, false, cond, ◌&&◌}
use mathlib.Core.List.{List, [], ◌∷◌}
use mathlib.Core.Option.{Option, some, none-ne-some}
use borrow.Author.Tests.{eqb-true}
use lib.Dec.{T, lit<, ltb, eqb}
use lib.ListN.{length, get_or}
use Rattle.algebra.proofs.Test.{left, right, test-≡, ≡-test}
use Rattle.meaning.specs.Text.{bytes, same_bytes}
use Rattle.meaning.specs.Word.{Word, field, input, span, sum, relu, which, max, root, words, kind_of}
use Rattle.meaning.specs.Line.{word_among}
use Rattle.meaning.specs.Refusal.{all}

module _ (f : Word → Bool) where
  at_place : (ws : List Word) → T (all f ws) → (i : ℕ) → i < length ws → T (f (get_or ws i field))
  unfolding all
  at_place [] t i h = absurd (omega arith)
  at_place (w ∷ ws) t zero h = left (f w) (all f ws) t
  at_place (w ∷ ws) t (suc i) h = at_place ws (right (f w) (all f ws) t) i (omega arith)

  passes : T (all f words) → (w : Word) → T (f w)
  unfolding words
  passes t field = at_place words t 0 (lit< tt)
  passes t input = at_place words t 1 (lit< tt)
  passes t span = at_place words t 2 (lit< tt)
  passes t sum = at_place words t 3 (lit< tt)
  passes t relu = at_place words t 4 (lit< tt)
  passes t which = at_place words t 5 (lit< tt)
  passes t max = at_place words t 6 (lit< tt)
  passes t root = at_place words t 7 (lit< tt)

  pub every-word : all f words ≡ true → (w : Word) → f w ≡ true
  every-word e w = test-≡ (f w) (passes (≡-test (all f words) e) w)

-- ---- a word and its spelling

-- no byte of a spelling ends a field or a line
unfoldable pub all_above : List ℕ → Bool
all_above [] = true
all_above (x ∷ xs) = ltb 10 x && all_above xs

pub same-spelled : (xs ys : List ℕ) → same_bytes xs ys ≡ true → xs ≡ ys
unfolding same_bytes
same-spelled [] [] q = refl
same-spelled [] (y ∷ ys) q = let z : ◌≡◌ {A = ℕ} 0 1 = cc in absurd (omega arith)
same-spelled (x ∷ xs) [] q = let z : ◌≡◌ {A = ℕ} 0 1 = cc in absurd (omega arith)
same-spelled (x ∷ xs) (y ∷ ys) q =
    let t = ≡-test (eqb x y && same_bytes xs ys) q in
    rw (eqb-true x y (test-≡ (eqb x y) (left (eqb x y) (same_bytes xs ys) t)), same-spelled xs ys (test-≡ (same_bytes xs ys) (right (eqb x y) (same_bytes xs ys) t)))

pub among-spelling : (w : Word) → word_among words (kind_of w).spelling ≡ some w
unfolding word_among words kind_of bytes same_bytes
among-spelling field = refl
among-spelling input = refl
among-spelling span = refl
among-spelling sum = refl
among-spelling relu = refl
among-spelling which = refl
among-spelling max = refl
among-spelling root = refl

spelled_at : (t : Bool) (v w : Word) (f : List ℕ) (later : Option Word) → same_bytes (kind_of v).spelling f ≡ t → (later ≡ some w → f ≡ (kind_of w).spelling)
    → cond t (some v) later ≡ some w → f ≡ (kind_of w).spelling
spelled_at true v w f later s rest q = let e : v ≡ w = cc in rw (← e) (sym (same-spelled (kind_of v).spelling f s))
spelled_at false v w f later s rest q = rest q

-- a word's field has its spelling
pub word-spelled : (ws : List Word) (f : List ℕ) (w : Word) → word_among ws f ≡ some w → f ≡ (kind_of w).spelling
unfolding word_among
word-spelled [] f w q = absurd (none-ne-some _ q)
word-spelled (v ∷ ws) f w q = spelled_at (same_bytes (kind_of v).spelling f) v w f (word_among ws f) refl (word-spelled ws f w) q
