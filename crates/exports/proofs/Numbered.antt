-- A list whose elements are their own places: its first part, and how it is written one by one.
use mathlib.Core.Path.{◌≡◌, refl, sym, ap, ◌∙◌}
use mathlib.Core.List.{List, [], ◌∷◌, ◌++◌}
use Prim.Native.Nat.{ℕ, zero, suc, ◌+◌, ◌≤◌, ◌<◌}
use native.Mathlib.Omega.{arith}
use native.Mathlib.Numerals.{add-one}
use lib.ListN.{length, take, set, length-set}
use lib.Seq.{take-suc-set}
use Rattle.std.specs.List.{range_with_len}

pub take-up : (i n k : ℕ) → k ≤ n → take k (range_with_len i n) ≡ range_with_len i k
take-up i n zero h = refl
take-up i zero (suc k) h = absurd (omega arith)
take-up i (suc n) (suc k) h = ap (λ (r : List ℕ). i ∷ r) (take-up (i + 1) n k (omega arith))

up-one-more : (i n : ℕ) → range_with_len i (suc n) ≡ range_with_len i n ++ ((i + n) ∷ [])
up-one-more i zero = let e : i ≡ i + 0 = omega arith in ap (λ (j : ℕ). j ∷ []) e
up-one-more i (suc n) =
    let e : i + 1 + n ≡ i + suc n = omega arith in
    ap (λ (r : List ℕ). i ∷ r) (up-one-more (i + 1) n ∙ ap (λ (j : ℕ). range_with_len (i + 1) n ++ (j ∷ [])) e)

-- ---- writing it

-- the cells before cell i hold their own numbers
pub record Numbering (before cells : List ℕ) (i : ℕ) : Type 0 where
  pub long : length cells ≡ length before
  pub inside : i ≤ length before
  pub numbered : take i cells ≡ range_with_len 0 i

pub numbering-none : (before : List ℕ) → Numbering before before 0
numbering-none before = record { long = refl; inside = omega arith; numbered = refl }

module _ {before cells : List ℕ} {i : ℕ} (w : Numbering before cells i) where
  pub numbering-next : i < length before → Numbering before (set cells i i) (i + 1)
  numbering-next h = record {
    long = length-set cells i i ∙ w.long;
    inside = let same = w.long in omega arith;
    numbered = rw (add-one i, take-suc-set cells i i (omega (arith, w.long))) (ap (λ (r : List ℕ). r ++ (i ∷ [])) w.numbered ∙ sym (up-one-more 0 i ∙ last));
  }
    where
      last : range_with_len 0 i ++ ((0 + i) ∷ []) ≡ range_with_len 0 i ++ (i ∷ [])
      last = let e : 0 + i ≡ i = omega arith in ap (λ (j : ℕ). range_with_len 0 i ++ (j ∷ [])) e
