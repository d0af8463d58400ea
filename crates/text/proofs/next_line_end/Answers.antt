-- The search of the library finds the first byte 10.
use Rattle.text.proofs.Places.{found-some, found-none}
use Rattle.std.specs.Prelude.{◌≡◌, drop, ◌==◌}
use Rattle.std.proofs.Common.{refl, ◌∙◌, length-drop}
use lib.Seq.{take_all}
use Rattle.std.specs.List.{position}
use Rattle.std.proofs.lemmas.Iterator.{YieldsList-from_slice}
use Rattle.std.proofs.lemmas.Iterator.Search.{position_from_yields_List}
use borrow.Author.Tests.{tests}
use Rattle.text.proofs.next_line_end.Goals as goal
use Rattle.text.proofs.next_line_end.Goals.{After-position}
use Rattle.std.proofs.Common.{rules, arith}

searched : (c : After-position) → c.position.result ≡ position (λ x. x == 10) (drop c.args.at c.args.text.now)
searched c =
    let text = c.args.text.now in
    let left : c.iter.result.rest.now ≡ drop c.args.at text = c.iter.ensures.rest ∙ take_all _ (drop c.args.at text) (omega (arith, length-drop c.args.at text)) in
    rw left at (position_from_yields_List (λ x. x == 10) _ _ c.position.result c.position.ensures.ran (YieldsList-from_slice c.iter.result.rest.now refl)
    (λ x b q k. search (rules, tests)))

pub returns-in-Some : goal.returns-in-Some
returns-in-Some c =
    found-some 10 c.args.text.now c.args.at c.requires c.position.result (searched (goal.at.returns-in-Some c).After-position) c.in-Some.is

pub returns-in-None : goal.returns-in-None
returns-in-None c =
    found-none 10 c.args.text.now c.args.at c.requires c.position.result (searched (goal.at.returns-in-None c).After-position) c.in-None.is
