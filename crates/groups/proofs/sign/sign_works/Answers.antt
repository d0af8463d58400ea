-- `groups::sign::sign_works`: c / b is b^(k-1), and the rest of c is B, so `within` tests the definition's range.
use mathlib.Core.Path.{ap₂, ◌∙◌}
use Prim.Native.Nat.{ℕ}
use lib.IntN.{ℤ, pos, ◌-ℤ◌}
use Rattle.meaning.specs.Number.{between}
use Rattle.meaning.specs.Gadget.Sign.{sign_statement}
use Rattle.groups.proofs.SignPower.{part-power, rest-shift}
use Rattle.groups.proofs.sign.sign_works.Goals as goal

pub returns : goal.returns
unfolding sign_statement
returns c k h e =
    c.within.ensures
    ∙ rw (
      c.negated.ensures,
      c.wide_whole-2.ensures,
      c.whole_difference-high.ensures,
      c.wide_whole.ensures,
      c.from.ensures,
      c.divided-part.ensures,
    )
    (ap₂ (λ (low : ℤ) (m : ℕ). between low c.args.x.0 (pos m -ℤ pos 1))
    (rest-shift _ k _ c.requires.0 h e) (part-power _ k _ c.requires.0 h e))
