-- The numbers of a line `sum c0 c1 v1 c2 v2 ..` after c0, as a loop over its pairs takes them: the first pair and the rest, until none is left.
use mathlib.Core.Path.{◌≡◌, refl, ap, ◌∙◌}
use mathlib.Core.Bool.{◌&&◌}
use lib.Dec.{T}
use mathlib.Core.List.{List, [], ◌∷◌, ◌++◌}
use Prim.Native.Nat.{ℕ, ◌-◌, ◌≤◌, ◌<◌}
use native.Mathlib.Omega.{arith}
use lib.IntN.{ℤ, pos, nat_abs}
use lib.ListN.{length, get_or, take, drop}
use lib.Seq.{take-length}
use lib.Signed.{◌≤ℤ◌}
use Rattle.algebra.proofs.Test.{left, right}
use Rattle.meaning.specs.Word.{alternate, without_first}
use Rattle.meaning.specs.Refusal.{all, is_made}
use Rattle.meaning.specs.Gadget.Sum.{terms_of}
use Rattle.table.specs.Sum.{Named}
use Rattle.table.proofs.LineNumbers.{made-is}

alternate-cons : (x : ℤ) (xs : List ℤ) → alternate (x ∷ xs) ≡ x ∷ alternate (without_first xs)
unfolding alternate without_first
alternate-cons x [] = refl
alternate-cons x (y ∷ ys) = refl

pair-is : (xs : List ℤ) → length xs ≡ 2 → xs ≡ get_or xs 0 (pos 0) ∷ get_or xs 1 (pos 0) ∷ []
pair-is [] h = absurd (omega arith)
pair-is (c ∷ []) h = absurd (omega arith)
pair-is (c ∷ (v ∷ [])) h = refl
pair-is (c ∷ (v ∷ (d ∷ ns))) h = absurd (omega arith)

short-terms : (ns : List ℤ) → length ns < 2 → terms_of ns ≡ []
unfolding terms_of
short-terms [] h = refl
short-terms (c ∷ []) h = refl
short-terms (c ∷ (v ∷ ns)) h = absurd (omega arith)

-- the first pair of those that are left
module _ (pairs pair rest : List ℤ) (split : pairs ≡ pair ++ rest) (two : length pair ≡ 2) where
  begins : pairs ≡ get_or pair 0 (pos 0) ∷ get_or pair 1 (pos 0) ∷ rest
  begins = split ∙ ap (λ (xs : List ℤ). xs ++ rest) (pair-is pair two)

  pub first-term : terms_of pairs ≡ record { coefficient = get_or pair 0 (pos 0); value = nat_abs (get_or pair 1 (pos 0)) } ∷ terms_of rest
  unfolding terms_of
  first-term = rw begins refl

  module _ (n : ℕ) (named : Named n pairs) where
    listed : T (is_made n (get_or pair 1 (pos 0)) && all (is_made n) (alternate (without_first rest)))
    unfolding all without_first
    listed = rw (begins, alternate-cons (get_or pair 1 (pos 0)) rest) at named

    pub first-named : (pos 0 ≤ℤ get_or pair 1 (pos 0)) × (nat_abs (get_or pair 1 (pos 0)) < n)
    first-named = made-is n (get_or pair 1 (pos 0)) (left _ _ listed)

    pub rest-named : Named n rest
    rest-named = right (is_made n (get_or pair 1 (pos 0))) _ listed

-- those after the first number
pub left-after-first : (ns : List ℤ) → 1 ≤ length ns → take (length ns - 1) (drop 1 ns) ≡ without_first ns
unfolding without_first
left-after-first [] h = absurd (omega arith)
left-after-first (c ∷ ns) h = let e : length (c ∷ ns) - 1 ≡ length ns = omega arith in rw e (take-length ns)

-- at the end
pub no-terms : (n : ℕ) (rest : List ℤ) → n ≡ 2 → length rest < n → terms_of rest ≡ []
no-terms n rest e h = short-terms rest (omega arith)
