-- A sign and then the digits of the negation, or the digits alone; any other number by its magnitude.
use mathlib.Core.Path.{◌≡◌, sym, ap, ◌∙◌}
use mathlib.Core.List.{[], ◌∷◌}
use Prim.Native.Nat.{ℕ, ◌≤◌}
use lib.ListN.{length, set}
use lib.IntN.{neg_ℤ, nat_abs}
use Rattle.meaning.specs.Text.{decimal_of, number_text}
use Rattle.output.specs.Written.{Written}
use Rattle.output.proofs.Writing.{Halves, rest-starts, rest-room, written-whole}
use Rattle.given_lines.proofs.Digits.{below-limit, plain-number, negation-of}
use Rattle.given_lines.proofs.Tabbed.{sign-room, sign-written, sign-halves}
use Rattle.given_lines.proofs.writing.write_signed.Goals as goal
use Rattle.given_lines.proofs.writing.write_signed.Goals.{Then-is_short_negative, After-size_of, After-size_of-then-is_below}

-- ---- a negative number of one or two digits

signed : (c : Then-is_short_negative) → number_text c.args.x.0 ≡ 45 ∷ decimal_of (nat_abs (neg_ℤ c.args.x.0))
signed c = (negation-of c.args.x.0 (sym c.is_short_negative.ensures ∙ c.if-is_short_negative.true)).2

-- the sign, and what comes after it
sign : (c : Then-is_short_negative) → Written (45 ∷ []) c.args.part.now (set c.args.part.now 0 45) 1
sign c = sign-written c.args.x.0 c.args.part.now c.requires _ (signed c)

starts : (c : Then-is_short_negative) → 1 ≤ length (set c.args.part.now 0 45)
starts c = rest-starts (sign-halves c.args.x.0 c.args.part.now c.requires _ (signed c)) (sign c)

pub bounds-part-0 : goal.bounds-part-0
bounds-part-0 c = sign-room c.args.x.0 c.args.part.now c.requires _ (signed c)

pub slice_bounds-write_decimal-count : goal.slice_bounds-write_decimal-count
slice_bounds-write_decimal-count c = starts c

pub slice_bounds-write_decimal-start : goal.slice_bounds-write_decimal-start
slice_bounds-write_decimal-start c = starts c

-- the size that is written
halves : (c : After-size_of) → number_text c.args.x.0 ≡ 45 ∷ decimal_of (nat_abs (neg_ℤ c.args.x.0))
    → Halves (number_text c.args.x.0) (45 ∷ []) (decimal_of c.size_of.result) c.args.part.now
halves c signed =
    sign-halves c.args.x.0 c.args.part.now c.requires _
    (signed ∙ ap (λ (n : ℕ). 45 ∷ decimal_of n) (sym (c.size_of.ensures ∙ ap nat_abs c.negated.ensures)))

pub write_decimal-requires : goal.write_decimal-requires
write_decimal-requires c =
    let then = (goal.at.write_decimal-requires c).Then-is_short_negative in
    rest-room (halves c (signed then)) (sign then)

pub returns-then-is_short_negative : goal.returns-then-is_short_negative
returns-then-is_short_negative c =
    let then = (goal.at.returns-then-is_short_negative c).Then-is_short_negative in
    written-whole (halves (goal.at.returns-then-is_short_negative c).After-size_of (signed then)) (sign then) c.write_decimal.ensures

-- ---- a number of two digits

plain : (c : After-size_of-then-is_below) → decimal_of c.size_of-then-is_below.result ≡ number_text c.args.x.0
plain c =
    sym (plain-number c.args.x.0 (below-limit c.args.x.0 100 (sym c.is_below.ensures ∙ c.if-is_below.true)).0
    ∙ ap decimal_of (sym c.size_of-then-is_below.ensures))

pub write_decimal-requires-then-is_below : goal.write_decimal-requires-then-is_below
write_decimal-requires-then-is_below c = rw (plain c) c.requires

pub returns-then-is_below : goal.returns-then-is_below
returns-then-is_below c = rw (plain (goal.at.returns-then-is_below c).After-size_of-then-is_below) at c.write_decimal-then-is_below.ensures
