-- What a sum line yields: its coefficients and its names are every other number, and its ends are taken term by term.
use mathlib.Core.Path.{◌≡◌, refl, sym, ap, ◌∙◌}
use mathlib.Core.Bool.{Bool, true, false, cond}
use mathlib.Core.List.{List, [], ◌∷◌, ◌++◌}
use Prim.Native.Nat.{ℕ, suc, ◌%◌, ◌≤◌, ◌<◌}
use native.Mathlib.Omega.{arith}
use lib.ListN.{length, get_or, drop}
use lib.IntN.{ℤ, pos, nat_abs, ◌*ℤ◌}
use Rattle.algebra.proofs.Test.{≡-test}
use Rattle.meaning.specs.Word.{sum, number_at, alternate, without_first, kind_of}
use Rattle.meaning.specs.Number.{half, lowest, highest, between, in_range}
use Rattle.meaning.specs.Known.{Known, Ends, ends}
use Rattle.meaning.specs.Gadget.Sum.{Term, terms_of, scaled, added, sum_ends, ends_in_range, sum_fits, sum_line}
use Rattle.meaning.specs.Meaning.{gadget}
use Rattle.meaning.specs.Refusal.{all, is_ranged, is_made}
use Rattle.meaning.proofs.Order.{between-iff}
use Rattle.number.specs.Bounded.{Bounded}
use Rattle.number.proofs.Bounded.{bounded-range, bounded-more, bounded-product}
use Rattle.rules.specs.declared.ends.Ends.{Ends as ReadEnds}
use Rattle.rules.specs.Ready.{BoundedEnds, greatest, greatest_product, Small, Represented, ends_at}
use Rattle.rules.specs.Yield.{refuses, makes, yield_of, line_with, ends_meaning}
use Rattle.rules.specs.Rule.{early_broken}
use Rattle.rules.specs.Sum.{sum_yield}
use Rattle.rules.proofs.Pairs.{without-drop}
use Rattle.rules.proofs.Tests.{both_true}
use Rattle.rules.proofs.Values.{known-count, known-ends}
use Rattle.rules.proofs.Rules.{passed-on, late, yield_unless, early_of, yield-by-rules, early-named}
use Rattle.std.specs.Prelude.{Result, Ok, Err}
use Rattle.refusal.specs.Refusal.{number_of}
use Rattle.refusal.specs.declared.refused.Refusal.{Refusal}

pub all_first : (f : ℤ → Bool) (x : ℤ) (xs : List ℤ) → all f (x ∷ xs) ≡ true → f x ≡ true
unfolding all
all_first f x xs e = (both_true (f x) (all f xs) e).0

-- ---- every other number

alternate-cons : (x : ℤ) (xs : List ℤ) → alternate (x ∷ xs) ≡ x ∷ alternate (without_first xs)
unfolding alternate without_first
alternate-cons x [] = refl
alternate-cons x (y ∷ ys) = refl

-- ---- one term

-- the ends so far and the pairs that are left say what the whole sum says
pub record Summing (p : ℕ) (known : List ReadEnds) (numbers : List ℤ) (so_far : Ends) (rest : List ℤ) : Type 0 where
  pub even : length rest % 2 ≡ 0
  pub ranged : ends_in_range p so_far ≡ true
  pub made : all (is_made (length known)) (alternate (without_first rest)) ≡ true
  pub small : Small (length rest) rest
  pub left : sum_yield p known (ends (get_or numbers 0 (pos 0)) (get_or numbers 0 (pos 0))) (terms_of (drop 1 numbers)) ≡ sum_yield p known so_far (terms_of rest)

-- two numbers, and what follows them
split-two : (l r : List ℤ) → length l ≡ 2 → l ++ r ≡ get_or l 0 (pos 0) ∷ (get_or l 1 (pos 0) ∷ r)
split-two [] r n = absurd (omega arith)
split-two (x ∷ []) r n = absurd (omega arith)
split-two (x ∷ (y ∷ [])) r n = refl
split-two (x ∷ (y ∷ (z ∷ l))) r n = absurd (omega arith)

module _ {p : ℕ} {known : List ReadEnds} {numbers : List ℤ} {so_far : Ends} where
  pub summing-end : (rest : List ℤ) → Summing p known numbers so_far rest → length rest < 2
      → makes (so_far ∷ []) ≡ sum_yield p known (ends (get_or numbers 0 (pos 0)) (get_or numbers 0 (pos 0))) (terms_of (drop 1 numbers))
  unfolding sum_yield terms_of
  summing-end [] sums few = sym sums.left
  summing-end (x ∷ []) sums few = let e = sums.even in absurd (omega arith)
  summing-end (x ∷ (y ∷ rest)) sums few = absurd (omega arith)

  module _ {x y : ℤ} {r : List ℤ} (sums : Summing p known numbers so_far (x ∷ (y ∷ r))) where
    made_here : (is_made (length known) y ≡ true) × (all (is_made (length known)) (alternate (without_first r)) ≡ true)
    unfolding all without_first
    made_here = both_true (is_made (length known) y) (all (is_made (length known)) (alternate (without_first r))) (rw (alternate-cons y r) at sums.made)

    module _ {next : Ends} (is : next ≡ added so_far (scaled x (ends_at known (nat_abs y)))) where
      turn : sum_yield p known (ends (get_or numbers 0 (pos 0)) (get_or numbers 0 (pos 0))) (terms_of (drop 1 numbers))
          ≡ cond (ends_in_range p next) (sum_yield p known next (terms_of r)) (refuses 11)
      unfolding sum_yield terms_of
      turn = sums.left ∙ rw is

      leaves : ends_in_range p next ≡ false → refuses 11 ≡ sum_yield p known (ends (get_or numbers 0 (pos 0)) (get_or numbers 0 (pos 0))) (terms_of (drop 1 numbers))
      leaves broken = sym (turn ∙ rw broken)

      goes_on : ends_in_range p next ≡ true → Summing p known numbers next r
      goes_on kept = record {
        even = let e = sums.even in omega arith;
        ranged = kept;
        made = made_here.1;
        small = λ i l. sums.small (suc (suc i)) (omega arith);
        left = turn ∙ rw kept;
      }

  -- the same, as the loop has the pair
  module _ {rest : List ℤ} (l r : List ℤ) (sums : Summing p known numbers so_far rest) (is : rest ≡ l ++ r) (two : length l ≡ 2) where
    here : Summing p known numbers so_far (get_or l 0 (pos 0) ∷ (get_or l 1 (pos 0) ∷ r))
    here = rw (is, split-two l r two) at sums

    pub name-made : is_made (length known) (get_or l 1 (pos 0)) ≡ true
    name-made = (made_here here).0

    pub coefficient-small : nat_abs (get_or l 0 (pos 0)) ≤ greatest
    coefficient-small = here.small 0 (omega arith)

    module _ {next : Ends} (term : next ≡ added so_far (scaled (get_or l 0 (pos 0)) (ends_at known (nat_abs (get_or l 1 (pos 0)))))) where
      pub sum-leaves : ends_in_range p next ≡ false → refuses 11 ≡ sum_yield p known (ends (get_or numbers 0 (pos 0)) (get_or numbers 0 (pos 0))) (terms_of (drop 1 numbers))
      sum-leaves broken = leaves here term broken

      pub sum-goes : ends_in_range p next ≡ true → Summing p known numbers next r
      sum-goes kept = goes_on here term kept

-- before the first turn
pub sum-starts : {p : ℕ} {known : List ReadEnds} (numbers : List ℤ) → length numbers % 2 ≡ 1 → Small (length numbers) numbers → in_range p (get_or numbers 0 (pos 0)) ≡ true
    → all (is_made (length known)) (alternate (drop 2 numbers)) ≡ true → Summing p known numbers (ends (get_or numbers 0 (pos 0)) (get_or numbers 0 (pos 0))) (drop 1 numbers)
unfolding ends_in_range
sum-starts [] odd small within made = absurd (omega arith)
sum-starts (x ∷ xs) odd small within made = record {
  even = omega arith;
  ranged = rw within;
  made = rw (without-drop (x ∷ xs) 1) made;
  small = λ i l. small (suc i) (omega arith);
  left = refl;
}

-- ends in the range are small
range_small : (p : ℕ) (x : ℤ) → p ≤ greatest → in_range p x ≡ true → Bounded greatest x
unfolding in_range lowest highest half
range_small p x most within =
    let w = (between-iff (lowest p) x (highest p)).0 (≡-test (between (lowest p) x (highest p)) within) in
    bounded-more (bounded-range x w.0 w.1) (omega arith)

pub range-sized : (p : ℕ) (e : ReadEnds) → p ≤ greatest → ends_in_range p (ends_meaning e) ≡ true → BoundedEnds greatest e
unfolding ends_in_range
range-sized p e most within =
    let w = both_true (in_range p e.low.0) (in_range p e.high.0) within in
    record { low-sized = range_small p e.low.0 most w.0; high-sized = range_small p e.high.0 most w.1 }

-- ---- the whole line

sum-gadget : (s : Known) (c0 : ℤ) (ts : List Term) → late (sum_line s c0 ts) (sum_line s c0 ts).made
    ≡ cond (sum_fits s (ends c0 c0) ts) (makes (sum_ends s (ends c0 c0) ts ∷ [])) (refuses 11)
unfolding late sum_line
sum-gadget s c0 ts = refl

no-fit : (s : Known) (es : Ends) (ts : List Term) → ends_in_range s.p es ≡ false → sum_fits s es ts ≡ false
unfolding sum_fits
no-fit s es [] e = e
no-fit s es (t ∷ ts) e = rw e

module _ {p cells : ℕ} {known : List ReadEnds} {s : Known} (meaning : Represented s p cells known) where
  sum_step : (next : Ends) (ts : List Term) (t : Bool) → ends_in_range p next ≡ t
      → (ends_in_range p next ≡ true → cond (sum_fits s next ts) (makes (sum_ends s next ts ∷ [])) (refuses 11) ≡ sum_yield p known next ts)
      → cond (sum_fits s next ts) (makes (sum_ends s next ts ∷ [])) (refuses 11) ≡ cond t (sum_yield p known next ts) (refuses 11)
  sum_step next ts true e later = later e
  sum_step next ts false e later = rw (no-fit s next ts (rw meaning.prime e))

  -- the sum over the state is the sum over the arrays, where its names are made
  sum_over : (ns : List ℤ) → all (is_made (length known)) (alternate (without_first ns)) ≡ true → (es : Ends) → ends_in_range p es ≡ true
      → cond (sum_fits s es (terms_of ns)) (makes (sum_ends s es (terms_of ns) ∷ [])) (refuses 11) ≡ sum_yield p known es (terms_of ns)
  unfolding terms_of sum_fits sum_ends sum_yield all without_first
  sum_over [] made es within = rw (meaning.prime, within)
  sum_over (c ∷ []) made es within = rw (meaning.prime, within)
  sum_over (c ∷ (v ∷ ns)) made es within =
      let w = both_true (is_made (length known) v) (all (is_made (length known)) (alternate (without_first ns))) (rw (alternate-cons v ns) at made) in
      let next : Ends = added es (scaled c (ends_at known (nat_abs v))) in
      let here : ends_in_range s.p es ≡ true = rw meaning.prime within in
      rw (known-ends meaning (nat_abs v), here)
      (sum_step next (terms_of ns) (ends_in_range p next) refl (λ q. sum_over ns w.1 next q))

  module _ (numbers : List ℤ) where
    abbrev coefficients : List ℤ
    coefficients = get_or numbers 0 (pos 0) ∷ alternate (drop 1 numbers)

    sum-plain : (kind_of sum).is_field ≡ false
    unfolding kind_of
    sum-plain = refl

    sum-ranged : is_ranged s.p sum numbers ≡ all (in_range p) coefficients
    unfolding is_ranged all kind_of number_at
    sum-ranged = rw (without-drop numbers 0) (ap (λ (q : ℕ). all (in_range q) coefficients) meaning.prime)

    sum-yield : yield_of s (line_with sum numbers) ≡ cond (all (in_range p) coefficients)
        (yield_unless (early_of s sum numbers) (late ((kind_of sum).gadget s numbers) ((kind_of sum).gadget s numbers).made)) (refuses 6)
    unfolding yield_of gadget
    sum-yield = yield-by-rules s sum numbers ((kind_of sum).gadget s numbers).made sum-plain ∙ rw sum-ranged

    pub sum-6 : all (in_range p) coefficients ≡ false → yield_of s (line_with sum numbers) ≡ refuses 6
    sum-6 out = sum-yield ∙ rw out

    module _ (ranged : all (in_range p) coefficients ≡ true) {n : Result Unit Refusal}
        (early : n ≡ early_broken (all (is_made (length known)) (alternate (drop 2 numbers))) (length known) 1 cells 1) where
      early-too : early_of s sum numbers ≡ n
      unfolding kind_of sum_line
      early-too = rw (known-count meaning, meaning.cells_are, without-drop numbers 0, without-drop numbers 1) (sym early)

      pub sum-early : {broken : Refusal} → n ≡ Err broken → yield_of s (line_with sum numbers) ≡ refuses (number_of broken)
      sum-early is = sum-yield ∙ rw (ranged, early-too, is)

      pub sum-late : n ≡ Ok tt → yield_of s (line_with sum numbers)
          ≡ sum_yield p known (ends (get_or numbers 0 (pos 0)) (get_or numbers 0 (pos 0))) (terms_of (drop 1 numbers))
      unfolding kind_of ends_in_range number_at
      sum-late none =
          let c0 : ℤ = get_or numbers 0 (pos 0) in
          let first = all_first (in_range p) c0 (alternate (drop 1 numbers)) ranged in
          let named = early-named (all (is_made (length known)) (alternate (drop 2 numbers))) (length known) 1 cells 1 (sym none ∙ early) in
          sum-yield ∙ rw (ranged, early-too, none) (sum-gadget s c0 (terms_of (without_first numbers))
          ∙ rw (without-drop numbers 0) (sum_over (drop 1 numbers) (rw (without-drop numbers 1) named) (ends c0 c0) (rw first)))

-- how large a product of a coefficient and an end is
pub product_sized : {a b : ℤ} → Bounded greatest a → Bounded greatest b → Bounded greatest_product (a *ℤ b)
product_sized s t = bounded-product s t

pub ruleset sum_laws = (sum-6, sum-late, all_first, early-named)
