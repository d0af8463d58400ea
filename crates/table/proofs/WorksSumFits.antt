-- What a read list gives of a sum, as `sum_works` takes it: where the ends of every step lie in -M..M, and each value lies between
-- its ends, no step of the sum is great.
use mathlib.Core.List.{List, [], ◌∷◌}
use Prim.Native.Nat.{ℕ, ◌≤◌}
use lib.Dec.{T}
use lib.IntN.{ℤ}
use lib.Signed.{≤ℤ_refl}
use Rattle.algebra.proofs.Test.{left, right}
use Rattle.algebra.proofs.Integer.Linear.{linear}
use Rattle.meaning.specs.Number.{half, lowest, highest, in_range}
use Rattle.meaning.specs.Known.{Known, Ends, ends, ends_of, Within}
use Rattle.meaning.specs.Gadget.Digits.{value_at}
use Rattle.meaning.specs.Gadget.Sum.{Term, scaled, added, ends_in_range, sum_fits}
use Rattle.meaning.proofs.Order.{between-iff}
use Rattle.meaning.proofs.Law.{low_end, high_end}
use Rattle.meaning.proofs.Gadget.Sum.{Named, Between, scaled-between, added-between}
use Rattle.number.specs.Bounded.{Bounded}
use Rattle.number.proofs.Bounded.{bounded-more, bounded-range}
use Rattle.groups.specs.Cells.{value_bound}
use Rattle.table.specs.Sum.{SumSmall}

ends-bounded : (p : ℕ) (es : Ends) (x : ℤ) → half p ≤ value_bound → T (ends_in_range p es) → Between es x → Bounded value_bound x
unfolding ends_in_range in_range lowest highest
ends-bounded p es x h t b =
    let low = ((between-iff (lowest p) es.E (highest p)).0 (left (in_range p es.E) (in_range p es.F) t)).0 in
    let high = ((between-iff (lowest p) es.F (highest p)).0 (right (in_range p es.E) (in_range p es.F) t)).1 in
    bounded-more (bounded-range x (omega (linear, b.0, low)) (omega (linear, b.1, high))) h

module _ (s : Known) (vs : List ℤ) (within : Within s.known vs) (small : half s.p ≤ value_bound) where
  sum-small-from : (es : Ends) (x : ℤ) (ts : List Term) → Named s ts → Between es x → T (sum_fits s es ts) → SumSmall vs x ts
  unfolding SumSmall sum_fits
  sum-small-from es x [] n b t = ends-bounded s.p es x small t b
  sum-small-from es x (u ∷ ts) n b t =
      let low = low_end s vs u.value n.0 within in
      let high = high_end s vs u.value n.0 within in
      let one = scaled-between u.coefficient (value_at vs u.value) (ends_of s u.value) (low, high) in
      let next : Ends = added es (scaled u.coefficient (ends_of s u.value)) in (
        ends-bounded s.p es x small (left (ends_in_range s.p es) (sum_fits s next ts) t) b,
        sum-small-from next _ ts n.1 (added-between es (scaled u.coefficient (ends_of s u.value)) x _ b one)
            (right (ends_in_range s.p es) (sum_fits s next ts) t),
      )

  pub sum-small : (c0 : ℤ) (ts : List Term) → Named s ts → T (sum_fits s (ends c0 c0) ts) → SumSmall vs c0 ts
  sum-small c0 ts n t = sum-small-from (ends c0 c0) c0 ts n (≤ℤ_refl c0, ≤ℤ_refl c0) t
