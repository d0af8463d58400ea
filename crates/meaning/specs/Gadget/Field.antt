-- `field p`: it sets p and has no value, no cell and no row.
use Rattle.std.specs.Prelude.{true, []}
use Rattle.meaning.specs.Known.{Known}
use Rattle.meaning.specs.Gadget.Interface.{Gadget}

-- nothing is asked of values, and nothing is made. FORMAT 3.5, 7.7, 8.1, 8.15
unfoldable pub field_line : Known → Gadget
field_line s = record {
  unambiguous = true;
  fits = true;
  overlaps = true;
  narrowed = s.known;
  made = [];
  width = 0;
  inputs = 0;
  rows = [];
  statement = λ vs. true;
  values = λ vs next. [];
  cells = λ vs next. [];
}
