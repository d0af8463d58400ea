-- A single digit is written at once, and any other number into the part after the tab.
use mathlib.Core.Path.{◌≡◌, sym, ◌∙◌}
use mathlib.Core.Bool.{true, ◌&&◌}
use native.Mathlib.Omega.{arith}
use lib.Dec.{ltb}
use lib.ListN.{length-set}
use lib.IntN.{nat_abs}
use lib.Signed.{non_neg}
use Rattle.given_lines.proofs.Tabbed.{digit_room, digit-written}
use Rattle.given_lines.proofs.writing.write_tabbed.Goals as goal
use Rattle.given_lines.proofs.writing.write_tabbed.Goals.{After-size_of}

-- a single digit
single : (c : After-size_of) → (non_neg c.args.x.0 && ltb (nat_abs c.args.x.0) 10) ≡ true
single c = sym c.is_below.ensures ∙ c.if-is_below.true

pub bounds-part-1 : goal.bounds-part-1
bounds-part-1 c =
    omega (arith, digit_room c.args.x.0 c.args.part.now c.requires (single c) c.size_of.ensures, length-set c.args.part.now 0 9)

pub returns-then-is_below : goal.returns-then-is_below
returns-then-is_below c = digit-written c.args.x.0 c.args.part.now c.requires (single c) c.size_of.ensures
