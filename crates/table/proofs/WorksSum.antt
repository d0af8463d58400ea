-- The loop of a sum: what is known before each term, what a term adds, and what is known at the end. The terms that are left are those of the
-- pairs that are left.
use lib.Signed.{◌≤ℤ◌}
use mathlib.Core.Path.{◌≡◌, refl, subst}
use mathlib.Core.List.{List, [], ◌∷◌, ◌++◌}
use Prim.Native.Nat.{ℕ, ◌<◌}
use native.Mathlib.Omega.{arith}
use lib.IntN.{ℤ, pos, nat_abs, ◌+ℤ◌, ◌-ℤ◌, ◌*ℤ◌}
use lib.ListN.{length, get_or}
use Rattle.algebra.proofs.Integer.Order.{plus}
use Rattle.algebra.proofs.Integer.Linear.{linear}
use Rattle.meaning.specs.Word.{number_at, without_first}
use Rattle.meaning.specs.Gadget.Digits.{value_at}
use Rattle.meaning.specs.Gadget.Sum.{Term, terms_of, sum_value}
use Rattle.number.specs.Bounded.{Bounded}
use Rattle.number.proofs.Bounded.{bounded-difference}
use Rattle.groups.specs.Cells.{power_bound, value_bound}
use Rattle.groups.specs.Numbers.{NameAt}
use Rattle.table.specs.Sum.{Named, sum_of, SumSmall, SumGiven}
use Rattle.table.proofs.LineSum.{first-term, first-named, rest-named, no-terms}

-- x is the sum up to the pairs that are left
pub record Summing (numbers values : List ℤ) (pairs : List ℤ) (x : ℤ) : Type 0 where
  pub named : Named (length values) pairs
  pub small : SumSmall values x (terms_of pairs)
  pub same : sum_value values x (terms_of pairs) ≡ sum_of numbers values

-- the term of a pair
abbrev pub term : (pair values : List ℤ) → ℤ
term pair values = get_or pair 0 (pos 0) *ℤ get_or values (nat_abs (get_or pair 1 (pos 0))) (pos 0)

pub record Turn (numbers values : List ℤ) (pair rest : List ℤ) (x : ℤ) : Type 0 where
  pub name : NameAt (length values) pair 1
  pub product : Bounded power_bound (term pair values)
  pub total : Bounded value_bound (x +ℤ term pair values)
  pub next : Summing numbers values rest (x +ℤ term pair values)

-- a sum that is small with further terms is small without them
small-now : (vs : List ℤ) (x : ℤ) (ts : List Term) → SumSmall vs x ts → Bounded value_bound x
unfolding SumSmall
small-now vs x [] s = s
small-now vs x (t ∷ ts) s = s.0

step-bounded : (x t : ℤ) → Bounded value_bound x → Bounded value_bound (x +ℤ t) → Bounded power_bound t
step-bounded x t s u = subst (Bounded power_bound) step (bounded-difference u s)
  where
    step : x +ℤ t -ℤ x ≡ t
    step = omega (linear, plus x t)

module _ (numbers values : List ℤ) where
  pub summing_start : SumGiven numbers values → {pairs : List ℤ} {x : ℤ} → pairs ≡ without_first numbers → x ≡ get_or numbers 0 (pos 0) → Summing numbers values pairs x
  unfolding number_at
  summing_start given e d = rw (e, d) (record { named = given.named; small = given.small; same = refl })

  module _ (pairs pair rest : List ℤ) {x : ℤ} (s : Summing numbers values pairs x) (split : pairs ≡ pair ++ rest) (two : length pair ≡ 2) where
    pub summing-turn : Turn numbers values pair rest x
    unfolding SumSmall sum_value value_at
    summing-turn = record {
      name = record { inside = omega (arith, two); natural = name.0; below = name.1 };
      product = step-bounded x (term pair values) steps.0 now;
      total = now;
      next = record {
        named = rest-named pairs pair rest split two (length values) s.named;
        small = later;
        same = rw listed at s.same;
      };
    }
      where
        listed : terms_of pairs ≡ record { coefficient = get_or pair 0 (pos 0); value = nat_abs (get_or pair 1 (pos 0)) } ∷ terms_of rest
        listed = first-term pairs pair rest split two

        name : (pos 0 ≤ℤ get_or pair 1 (pos 0)) × (nat_abs (get_or pair 1 (pos 0)) < length values)
        name = first-named pairs pair rest split two (length values) s.named

        steps : Bounded value_bound x × SumSmall values (x +ℤ term pair values) (terms_of rest)
        steps = rw listed at s.small

        later : SumSmall values (x +ℤ term pair values) (terms_of rest)
        later = steps.1

        now : Bounded value_bound (x +ℤ term pair values)
        now = small-now values _ (terms_of rest) later

  pub summing-end : (pairs : List ℤ) {x : ℤ} (size : ℕ) → Summing numbers values pairs x → size ≡ 2 → length pairs < size → x ≡ sum_of numbers values
  unfolding sum_value
  summing-end pairs size s e h = rw (no-terms size pairs e h) at s.same
