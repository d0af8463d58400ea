-- Line 0 is a field line over an odd prime, or it is refused 4 or 5.
use mathlib.Core.Path.{◌≡◌, sym, ap, ◌∙◌}
use mathlib.Core.Bool.{false}
use Prim.Native.Nat.{ℕ}
use native.Mathlib.Omega.{arith}
use lib.IntN.{pos, nat_abs}
use lib.ListN.{get_or}
use lib.Signed.{lt_z}
use Rattle.meaning.specs.Number.{odd_prime}
use Rattle.reader.specs.Step.{goes}
use Rattle.reader.specs.Read.{only}
use Rattle.reader.proofs.Firsts.{first-other, other-word, first-negative, first-size, one, first-composite, first-odd-prime}
use Rattle.reader.proofs.first.first_parsed.Goals as goal
use Rattle.reader.proofs.first.first_parsed.Goals.{After-size_of-p, Else-is_negative}

pub returns-in_default : goal.returns-in_default
returns-in_default c = record { yields = first-other _ _ (other-word c.args.line.word c.in_default.not-Field); small = tt }

pub returns-then-is_negative : goal.returns-then-is_negative
returns-then-is_negative c =
    let test = sym (rw c.whole_at-n.ensures at c.is_negative.ensures) in
    record { yields = first-negative c.args.line.parsed c.in-Field.is (test ∙ c.if-is_negative.true); small = tt }

pub whole_at-n-requires : goal.whole_at-n-requires
whole_at-n-requires c = omega (arith, one c.args.line.parsed c.in-Field.is)

-- the number that was read is not negative
passed : (c : Else-is_negative) → lt_z (get_or c.args.line.numbers.now 0 (pos 0)) (pos 0) ≡ false
passed c = sym (rw c.whole_at-n.ensures at c.is_negative.ensures) ∙ c.if-is_negative.false

-- its size is what is tested
number : (c : After-size_of-p) → c.size_of-p.result ≡ nat_abs (get_or c.args.line.numbers.now 0 (pos 0))
number c = c.size_of-p.ensures ∙ ap nat_abs c.whole_at-n.ensures

pub overflow_cast-p : goal.overflow_cast-p
overflow_cast-p c = omega (arith, number (goal.at.overflow_cast-p c).After-size_of-p, first-size c.args.line.parsed c.in-Field.is)

pub returns-then-not-is_odd_prime : goal.returns-then-not-is_odd_prime
returns-then-not-is_odd_prime c =
    let at_size = (goal.at.returns-then-not-is_odd_prime c).After-size_of-p in
    let at-if = (goal.at.returns-then-not-is_odd_prime c).Else-is_negative in
    record {
      yields = first-composite c.args.line.parsed c.in-Field.is (passed at-if) (ap odd_prime (sym (number at_size)) ∙ sym c.is_odd_prime.ensures ∙ c.if-not-is_odd_prime.true);
      small = tt;
    }

pub returns : goal.returns
returns c =
    let at_size = (goal.at.returns c).After-size_of-p in
    let at-if = (goal.at.returns c).Else-is_negative in
    record {
      yields =
          ap (λ (m : ℕ). goes (only m)) (number at_size)
          ∙ first-odd-prime c.args.line.parsed c.in-Field.is (passed at-if) (ap odd_prime (sym (number at_size)) ∙ sym c.is_odd_prime.ensures ∙ c.if-not-is_odd_prime.false);
      small = rw (number at_size) (first-size c.args.line.parsed c.in-Field.is);
    }
