-- The order of the tests, and the rules that are in it (`in_order`): with those, of two tests the earlier is the one whose number has the
-- lesser rank, and a rank tells the number.
use Prim.Native.Nat.{ℕ, zero, suc, ◌<◌, ◌≤◌}
use native.Mathlib.Omega.{arith}
use mathlib.Core.Path.{◌≡◌, refl, sym, ap, ◌∙◌}
use mathlib.Core.Bool.{Bool, ◌&&◌}
use mathlib.Core.List.{List, [], ◌∷◌, map}
use lib.Dec.{T, leb}
use lib.ListN.{length, get_or, length-map}
use Rattle.algebra.proofs.Test.{left, right, leb-iff}
use Rattle.meaning.specs.Refusal.{RuleOf, test_order, rank}
use Rattle.meaning.specs.Claims.{rule_at}

-- ---- the order

-- these numbers are in the order, from a rank on, each before the next
unfoldable pub ascends : (from : ℕ) → List ℕ → Bool
ascends from [] = leb from (length test_order)
ascends from (n ∷ ns) = leb from (rank n) && ascends (suc (rank n)) ns

-- the numbers of all tests, where these are the rules
unfoldable pub tests_of : {S : Type 0} → List (RuleOf S) → List ℕ
tests_of {S} rs = 1 ∷ 2 ∷ 3 ∷ map (λ (r : RuleOf S). r.refusal) rs

-- with these rules, are the tests made in the order?
unfoldable pub in_order : {S : Type 0} → List (RuleOf S) → Bool
in_order rs = ascends 0 (tests_of rs)

-- ---- numbers that ascend by rank

module _ (from n : ℕ) (ns : List ℕ) (t : T (ascends from (n ∷ ns))) where
  ascends-here : from ≤ rank n
  unfolding ascends
  ascends-here = (leb-iff from (rank n)).0 (left (leb from (rank n)) (ascends (suc (rank n)) ns) t)

  ascends-later : T (ascends (suc (rank n)) ns)
  unfolding ascends
  ascends-later = right (leb from (rank n)) (ascends (suc (rank n)) ns) t

ascends_within : (from : ℕ) (ns : List ℕ) → T (ascends from ns) → from ≤ length test_order
unfolding ascends
ascends_within from [] t = (leb-iff from (length test_order)).0 t
ascends_within from (n ∷ ns) t =
    omega (arith, ascends-here from n ns t, ascends_within (suc (rank n)) ns (ascends-later from n ns t))

rank-from : (from : ℕ) (ns : List ℕ) → T (ascends from ns) → (k : ℕ) → k < length ns
    → (from ≤ rank (get_or ns k 0)) × (rank (get_or ns k 0) < length test_order)
rank-from from [] t k h = absurd (omega arith)
rank-from from (n ∷ ns) t zero h = (ascends-here from n ns t, ascends_within (suc (rank n)) ns (ascends-later from n ns t))
rank-from from (n ∷ ns) t (suc k) h =
    let later = rank-from (suc (rank n)) ns (ascends-later from n ns t) k (omega arith) in
    (omega (arith, ascends-here from n ns t, later.0), later.1)

ranks-ascend : (from : ℕ) (ns : List ℕ) → T (ascends from ns) → (j k : ℕ) → j < k → k < length ns → rank (get_or ns j 0) < rank (get_or ns k 0)
ranks-ascend from [] t j k h i = absurd (omega arith)
ranks-ascend from (n ∷ ns) t j zero h i = absurd (omega arith)
ranks-ascend from (n ∷ ns) t zero (suc k) h i = (rank-from (suc (rank n)) ns (ascends-later from n ns t) k (omega arith)).0
ranks-ascend from (n ∷ ns) t (suc j) (suc k) h i =
    ranks-ascend (suc (rank n)) ns (ascends-later from n ns t) j k (omega arith) (omega arith)

-- ---- the tests

module _ {S : Type 0} (rs : List (RuleOf S)) where
  -- test k is that of refusal r
  pub record IsTest (k r : ℕ) : Type 0 where
    pub inside : k < length (tests_of rs)
    pub number : r ≡ get_or (tests_of rs) k 0

  pub too-long-test : IsTest 0 1
  unfolding tests_of
  too-long-test = record { inside = omega arith; number = refl }

  pub not-ended-test : IsTest 1 2
  unfolding tests_of
  not-ended-test = record { inside = omega arith; number = refl }

  pub no-line-test : IsTest 2 3
  unfolding tests_of
  no-line-test = record { inside = omega arith; number = refl }

  pub rule-test : (k : ℕ) → k < length rs → IsTest (suc (suc (suc k))) (rule_at rs k).refusal
  unfolding tests_of
  rule-test k h = record { inside = omega (arith, length-map rs (λ (r : RuleOf S). r.refusal)); number = refusal-at rs k }
    where
      refusal-at : (rs : List (RuleOf S)) (k : ℕ) → (rule_at rs k).refusal ≡ get_or (map (λ (r : RuleOf S). r.refusal) rs) k 0
      refusal-at [] k = refl
      refusal-at (r ∷ rs) zero = refl
      refusal-at (r ∷ rs) (suc k) = refusal-at rs k

  -- a test has one number
  one_number : {j k q r : ℕ} → IsTest j q → IsTest k r → j ≡ k → q ≡ r
  one_number t u e = t.number ∙ ap (λ (i : ℕ). get_or (tests_of rs) i 0) e ∙ sym u.number

  module _ (ordered : T (in_order rs)) where
    -- every test has its place in the order
    pub test-ranked : {k r : ℕ} → IsTest k r → rank r < length test_order
    unfolding in_order
    test-ranked {k} {r} t = rw t.number (rank-from 0 (tests_of rs) ordered k t.inside).1

    later-rank : {j k q r : ℕ} → IsTest j q → IsTest k r → j < k → rank q < rank r
    unfolding in_order
    later-rank {j} {k} {q} {r} t u h = rw (t.number, u.number) (ranks-ascend 0 (tests_of rs) ordered j k h u.inside)

    module _ {j k q r : ℕ} (t : IsTest j q) (u : IsTest k r) where
      pub earlier-test : rank q < rank r → j < k
      earlier-test h =
          let not-later : ¬ (k < j) = λ l. omega (arith, later-rank u t l) in
          let not_same : ¬ (j ≡ k) = λ e. omega (arith, ap rank (one_number t u e)) in
          omega arith

      pub same_test : rank q ≡ rank r → q ≡ r
      same_test h =
          let not_earlier : ¬ (j < k) = λ l. omega (arith, later-rank t u l) in
          let not-later : ¬ (k < j) = λ l. omega (arith, later-rank u t l) in
          one_number t u (omega arith)
