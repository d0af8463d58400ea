-- What a line yields, by the first rule that it breaks: for every kind of line after line 0, and what follows for those with a base
-- and a digit count.
use mathlib.Core.Path.{◌≡◌, refl}
use mathlib.Core.Bool.{Bool, true, false, cond}
use mathlib.Core.List.{List}
use mathlib.Core.Option.{none, some}
use Prim.Native.Nat.{ℕ, ◌+◌}
use lib.Dec.{leb}
use lib.ListN.{length}
use lib.IntN.{ℤ}
use Rattle.meaning.specs.Word.{Word, kind_of}
use Rattle.meaning.specs.Line.{Line}
use Rattle.meaning.specs.Known.{Known, Ends}
use Rattle.meaning.specs.Gadget.Interface.{Gadget}
use Rattle.meaning.specs.Meaning.{gadget}
use Rattle.meaning.specs.Refusal.{value_limit, cell_limit, on_some, all, is_placed, is_over_prime, is_ranged, is_made, rules_with, rules_within, rules, first_broken}
use Rattle.rules.specs.Yield.{Yield, refuses, makes, made_meaning, line_with}
use Rattle.rules.specs.Rule.{early_broken}
use Rattle.std.specs.Prelude.{Result, Ok, Err}
use Rattle.std.specs.Result.{IsErrAnd}
use Rattle.rules.specs.declared.ends.Ends.{Ends as ReadEnds}
use Rattle.refusal.specs.Refusal.{number_of}
use Rattle.refusal.specs.declared.refused.Refusal.{Refusal}
use Rattle.refusal.specs.declared.refused.Refusal.TheVariants.{NameNotMade, TooManyValues, TooManyCells}

over-prime : (w : Word) (ns : List ℤ) → (kind_of w).is_field ≡ false → is_over_prime w ns ≡ true
unfolding is_over_prime kind_of
over-prime w ns e = rw e refl

-- the first broken rule, or these ends
abbrev pub yield_with : Known → Line → List Ends → Yield
yield_with s l es = on_some (first_broken rules 1 s l) refuses (makes es)

-- the rules from 10 on
unfoldable pub late : Gadget → List Ends → Yield
late g es = cond g.unambiguous (cond g.fits (cond g.overlaps (makes es) (refuses 12)) (refuses 11)) (refuses 10)

-- the rules from 7 on: `early` is the first broken of 7 to 9, and `rest` is what the line yields from rule 10 on
abbrev pub yield_unless : (early : Result Unit Refusal) (rest : Yield) → Yield
yield_unless (Ok kept) rest = rest
yield_unless (Err broken) rest = refuses (number_of broken)

-- the tests of the rules from 6 on, in their order
by_tests : (r a b c u f o : Bool) (es : List Ends)
    → on_some (cond r (cond a (cond b (cond c (cond u (cond f (cond o none (some 12)) (some 11)) (some 10)) (some 9)) (some 8)) (some 7)) (some 6)) refuses (makes es)
    ≡ cond r (yield_unless (cond a (cond b (cond c (Ok tt) (Err TooManyCells)) (Err TooManyValues)) (Err NameNotMade)) (cond u (cond f (cond o (makes es) (refuses 12)) (refuses 11)) (refuses 10))) (refuses 6)
unfolding on_some
by_tests true true true true true true true es = refl
by_tests true true true true true true false es = refl
by_tests true true true true true false o es = refl
by_tests true true true true false f o es = refl
by_tests true true true false u f o es = refl
by_tests true true false c u f o es = refl
by_tests true false b c u f o es = refl
by_tests false a b c u f o es = refl

-- what the rules 7 to 9 test
abbrev are_named : Known → Word → List ℤ → Bool
are_named s w ns = all (is_made (length s.known)) ((kind_of w).names ns)

abbrev values_fit : Known → Word → List ℤ → Bool
values_fit s w ns = leb (length s.known + length ((kind_of w).gadget s ns).made) value_limit

abbrev line_cells_fit : Known → Word → List ℤ → Bool
line_cells_fit s w ns = leb (s.cells + ((kind_of w).gadget s ns).width) cell_limit

abbrev pub early_of : Known → Word → List ℤ → Result Unit Refusal
early_of s w ns = early_broken (are_named s w ns) (length s.known) (length ((kind_of w).gadget s ns).made) s.cells ((kind_of w).gadget s ns).width

-- an error that is passed on
pub passed-on : (r : Result ReadEnds Refusal) (broken : Refusal) → IsErrAnd r (λ x. x ≡ broken) → made_meaning r ≡ refuses (number_of broken)
passed-on (Ok e) broken h = absurd h
passed-on (Err x) broken h = rw h refl

-- what any line after line 0 yields
pub yield-by-rules : (s : Known) (w : Word) (ns : List ℤ) (es : List Ends) → (kind_of w).is_field ≡ false
    → yield_with s (line_with w ns) es ≡ cond (is_ranged s.p w ns) (yield_unless (early_of s w ns) (late ((kind_of w).gadget s ns) es)) (refuses 6)
unfolding first_broken rules rules_with rules_within is_placed gadget late
yield-by-rules s w ns es plain =
    let g : Gadget = (kind_of w).gadget s ns in
    rw (plain, over-prime w ns plain) (by_tests (is_ranged s.p w ns) (are_named s w ns) (values_fit s w ns) (line_cells_fit s w ns) g.unambiguous g.fits g.overlaps es)

-- where no rule up to 9 is broken, the names are made
pub early-named : (named : Bool) (values new cells width : ℕ) → Ok tt ≡ early_broken named values new cells width → named ≡ true
early-named true values new cells width e = refl
early-named false values new cells width e = cc
