-- `service::checking::all_below`: what the cells say is taken together from the first on.
use mathlib.Core.Path.{sym, ◌∙◌}
use mathlib.Core.Bool.{Bool, true, ◌&&◌}
use Prim.Native.Nat.{ℕ}
use lib.Dec.{ltb}
use Rattle.std.proofs.Common.{rules, tests}
use Rattle.std.proofs.lemmas.Iterator.{YieldsList-from_slice}
use Rattle.std.proofs.lemmas.Iterator.Consumers.{fold_from_yields_List}
use Rattle.meaning.specs.Reply.{is_cell}
use Rattle.service.proofs.Scan.{all_folded}
use Rattle.service.proofs.checking.all_below.Goals as goal

pub returns : goal.returns
unfolding is_cell
returns c =
    fold_from_yields_List _ (λ (below : Bool) (cell : ℕ). below && ltb cell c.args.p) true c.fold.result c.fold.ensures.ran (YieldsList-from_slice c.args.table.now cc) (λ a x b q k. search (rules, tests))
    ∙ sym (all_folded (is_cell c.args.p) c.args.table.now)
