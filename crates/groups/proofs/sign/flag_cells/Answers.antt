-- `groups::sign::flag_cells`: t is the remainder of the digit less b - 1, and the two ways out are the definition's.
use mathlib.Core.Path.{◌≡◌, sym, ap, ◌∙◌}
use mathlib.Core.List.{List, ◌++◌}
use Prim.Native.Nat.{ℕ, ◌-◌}
use lib.IntN.{pos, ◌-ℤ◌}
use lib.ListN.{drop}
use borrow.Author.Tests.{eqb-true, eqb-false}
use Rattle.algebra.specs.Congruence.{remainder, inverse}
use Rattle.groups.proofs.CellsSign.{flag-zero, flag-other}
use Rattle.groups.proofs.sign.flag_cells.Goals as goal
use Rattle.groups.proofs.sign.flag_cells.Goals.{After-difference-t}

top : (c : After-difference-t)
    → let a = c.args in c.difference-t.result.0 ≡ remainder a.p (pos a.digit.0 -ℤ pos (a.b - 1))
top c =
    let a = c.args in
    c.difference-t.ensures.1 ∙ ap (λ (n : ℕ). remainder a.p (pos a.digit.0 -ℤ pos n)) c.from.ensures

pub returns-then-eq : goal.returns-then-eq
returns-then-eq c =
    let a = c.args in
    (rw (c.from-then-eq.ensures, c.from-then-eq-2.ensures) at c.two_cells.ensures)
    ∙ ap (λ (l : List ℕ). l ++ drop 2 a.out.now)
    (flag-zero a.p (sym (top (goal.at.returns-then-eq c).After-difference-t) ∙ eqb-true _ _ (sym (rw c.from-2.ensures at c.eq.ensures) ∙ c.if-eq.true)))

pub returns-else-eq : goal.returns-else-eq
returns-else-eq c =
    let a = c.args in
    (rw c.from-else-eq.ensures at c.two_cells-else-eq.ensures)
    ∙ ap (λ (l : List ℕ). l ++ drop 2 a.out.now)
    (flag-other a.p (λ e. eqb-false _ _ (sym (rw c.from-2.ensures at c.eq.ensures) ∙ c.if-eq.false) (top (goal.at.returns-else-eq c).After-difference-t ∙ e))
    (c.inverse_of-w.ensures ∙ ap (inverse a.p) (top (goal.at.returns-else-eq c).After-difference-t)))
