-- `in`: a value that is an input. Nothing is known of it but the signed range.
use Rattle.std.specs.Prelude.{true, [], ◌∷◌}
use Rattle.meaning.specs.Number.{lowest, highest, remainder}
use Rattle.meaning.specs.Known.{Known, ends}
use Rattle.meaning.specs.Gadget.Interface.{Gadget}

-- one cell, no row. FORMAT 3.6, 5.2, 7.7
unfoldable pub input_line : Known → Gadget
input_line s = record {
  unambiguous = true;
  fits = true;
  overlaps = true;
  narrowed = s.known;
  made = ends (lowest s.p) (highest s.p) ∷ [];
  width = 1;
  inputs = 1;
  rows = [];
  statement = λ vs. true;
  values = λ vs next. next ∷ [];
  cells = λ vs next. remainder s.p next ∷ [];
}
