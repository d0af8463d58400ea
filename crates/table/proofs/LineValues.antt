-- The values that a line names, as working it and writing its cells read them.
use mathlib.Core.Path.{◌≡◌}
use mathlib.Core.Bool.{false}
use mathlib.Core.List.{List}
use Prim.Native.Nat.{ℕ}
use lib.IntN.{ℤ}
use lib.ListN.{length}
use Rattle.meaning.specs.Word.{Word, kind_of}
use Rattle.meaning.specs.Known.{Known}
use Rattle.meaning.specs.Gadget.Interface.{Gadget}
use Rattle.groups.specs.Numbers.{size, NameAt}
use Rattle.table.specs.Value.{ValueAt}
use Rattle.table.specs.Line.{KeptLine, known_count}
use Rattle.table.specs.LineValues.{ValuesGiven}
use Rattle.meaning.proofs.Law.{within-length}
use Rattle.table.proofs.LineNumbers.{value-bounded}
use Rattle.table.proofs.LineKinds.{OneWord, one_name, TwoWord, two-first, two-second}

-- ---- values

module _ {w : Word} {numbers values : List ℤ} (a : ValuesGiven w numbers values) where
  pub values-known : length values ≡ known_count a.kept
  values-known = within-length a.kept.state.known values a.within

  value-at : {i : ℕ} → (kind_of w).is_field ≡ false → NameAt (known_count a.kept) numbers i → ValueAt numbers values i
  value-at {i} late name = record {
    name = rw values-known name;
    small = value-bounded a.kept late values a.within (size numbers i) name.below;
  }

  -- as `value_at` asks it
  module _ {line : Known → (v b k : ℕ) → Gadget} (kind : KeptLine w numbers → OneWord w numbers line) where
    pub one-value : ValueAt numbers values 0
    one-value = value-at (kind a.kept).has-digits.late (one_name a.kept (kind a.kept))

  module _ {line : Known → (u v b k : ℕ) → Gadget} (kind : KeptLine w numbers → TwoWord w numbers line) where
    pub first-value : ValueAt numbers values 0
    first-value = value-at (kind a.kept).has-digits.late (two-first a.kept (kind a.kept))

    pub second-value : ValueAt numbers values 1
    second-value = value-at (kind a.kept).has-digits.late (two-second a.kept (kind a.kept))
