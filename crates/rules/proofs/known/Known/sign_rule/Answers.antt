-- Where b^(k-1) is above p, so is b^k; else c is the next power, and B is what it has more than part.
use mathlib.Core.Path.{sym, ◌∙◌}
use Prim.Native.Nat.{◌-◌, ◌≤◌}
use native.Mathlib.Omega.{arith}
use borrow.Author.Rules.{rules}
use lib.IntN.{pos}
use Rattle.meaning.specs.Gadget.Sign.{sign_shift}
use Rattle.meaning.specs.Known.{top_part}
use Rattle.number.proofs.Bounded.{bounded-negation}
use Rattle.rules.specs.Ready.{greatest}
use Rattle.rules.specs.Digits.{PowerWithin}
use Rattle.rules.proofs.Digits.{short-power, shorter-above, rule-above, rule-within, step-above, part-power, part-within, top-part, part-fits}
use Rattle.rules.proofs.known.Known.sign_rule.Goals as goal
use Rattle.rules.proofs.known.Known.sign_rule.Goals.{In-Some}

module _ (c : In-Some) where
  base : 1 ≤ c.args.digits.base
  base = omega (arith, c.args.digits.kept.base-two)

  part : let a = c.args in PowerWithin a.self.p a.digits.base (a.digits.count - 1) c.in-Some.part
  part = short-power _ _ _ base c.capped_power.ensures c.in-Some.is

pub returns-in_default : goal.returns-in_default
returns-in_default c =
    let kept = c.args.digits.kept in
    sym (rule-above _ _ _ _ _ (step-above _ _ _ (omega (arith, kept.base-two)) (shorter-above _ _ _ c.capped_power.ensures c.in_default.is)))

pub overflow_mul-c : goal.overflow_mul-c
overflow_mul-c c =
    let at = (goal.at.overflow_mul-c c).In-Some in
    part-fits (base at) c.args.digits.kept.count-one (part at) (omega (arith, c.args.self.ready.p-high)) (search rules)

pub returns-then-from-c : goal.returns-then-from-c
returns-then-from-c c =
    let at = (goal.at.returns-then-from-c c).In-Some in
    sym (rule-above _ _ _ _ _ (rw (part-power (base at) c.args.digits.kept.count-one (part at)) at (rw c.from.ensures at c.if-from-c.true)))

pub is_narrow-requires : goal.is_narrow-requires
is_narrow-requires c =
    let at = (goal.at.is_narrow-requires c).In-Some in
    let one = c.args.digits.kept.count-one in
    let r = part-within (base at) one (part at) (rw c.from.ensures at c.if-from-c.false) in
    let small : top_part c.args.digits.base c.args.digits.count ≤ greatest = omega (arith, r.within, top-part (base at) one (part at), c.args.self.ready.p-high) in (
      r.positive,
      r.within,
      c.requires,
      rw (c.negated.ensures, c.wide_whole.ensures, top-part (base at) one (part at)) (bounded-negation {a = pos (top_part c.args.digits.base c.args.digits.count)} (record { size = small })),
    )

pub returns : goal.returns
unfolding sign_shift
returns c =
    let at = (goal.at.returns c).In-Some in
    let one = c.args.digits.kept.count-one in
    (rw (c.negated.ensures, c.wide_whole.ensures, top-part (base at) one (part at)) at c.is_narrow.ensures)
    ∙ sym (rule-within _ _ _ _ _ (part-within (base at) one (part at) (rw c.from.ensures at c.if-from-c.false)))
