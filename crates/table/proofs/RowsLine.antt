-- A line of a list that was read, as the functions that check its rows take it: the places that its names lead to, the room for its
-- cells, and that what the code's numbers yield the line yields.
use mathlib.Core.Path.{◌≡◌, refl, sym, ap, subst, ◌∙◌}
use mathlib.Core.Bool.{false}
use mathlib.Core.List.{List}
use mathlib.Core.Option.{Option}
use mathlib.Core.Logic.{◌⊎◌, inl, inr}
use Prim.Native.Nat.{ℕ, ◌+◌, ◌^◌, ◌≤◌, ◌<◌}
use native.Mathlib.Omega.{arith}
use lib.IntN.{ℤ}
use lib.ListN.{length}
use Rattle.meaning.specs.Word.{Word, kind_of}
use Rattle.meaning.specs.Known.{Known, place_of}
use Rattle.meaning.specs.Row.{holds}
use Rattle.meaning.specs.Reply.{Reply, first_fail, refusal_at}
use Rattle.meaning.specs.Gadget.Interface.{Gadget}
use Rattle.meaning.specs.Gadget.Field.{field_line}
use Rattle.meaning.specs.Gadget.Input.{input_line}
use Rattle.meaning.specs.Meaning.{gadget}
use Rattle.text.specs.Word.{word_of}
use Rattle.text.specs.declared.Word.{Word as Coded}
use Rattle.text.specs.declared.Word.TheVariants.{Field, In}
use Rattle.groups.specs.Numbers.{size, placed, NameAt, DigitsAre}
use Rattle.groups.specs.Rows.{first_refusal}
use Rattle.std.specs.Prelude.{Ok}
use Rattle.table.specs.Line.{KeptLine, gadget_of, known_count}
use Rattle.table.specs.LineRows.{RowsGiven, RowsYield}
use Rattle.table.proofs.LineNumbers.{prime-is}
use Rattle.table.proofs.LineKinds.{DigitWord, word-power, OneWord, one_name, one-is, TwoWord, two-first, two-second, two_is}

-- a field and an input have no row
pub no-row : (p : ℕ) {word : Coded} (numbers : List ℤ) (table : List ℕ) (cells : ℕ) (places : List ℕ) → (word ≡ Field) ⊎ (word ≡ In)
    → RowsYield p (word_of word) numbers table cells places (Ok tt)
unfolding word_of gadget kind_of field_line input_line first_fail refusal_at
no-row p numbers table cells places (inl is) = rw is (λ a. refl)
no-row p numbers table cells places (inr is) = rw is (λ a. refl)

-- ---- what is given, and what it yields

-- p, and the room in the table of a line that has so many cells, as the functions that check its rows ask it
pub record GroupGiven (p : ℕ) (table : List ℕ) (cells width : ℕ) : Type 0 where
  pub three : 3 ≤ p
  pub room : cells + width ≤ length table

module _ {p : ℕ} {w : Word} {numbers : List ℤ} {table : List ℕ} {cells : ℕ} {places : List ℕ}
    (a : RowsGiven p w numbers table cells places) where
  pub p-three : (kind_of w).is_field ≡ false → 3 ≤ p
  p-three late = omega (arith, (prime-is a.kept late).three, a.prime late)

  -- the value that the number at place i names
  module _ {i : ℕ} (name : NameAt (known_count a.kept) numbers i) where
    name-given : NameAt (length places) numbers i
    name-given = rw a.places-long name

    name-inside : {place : ℕ} → place ≡ placed numbers i places → place < length table
    name-inside e = rw e (a.inside (size numbers i) name.below)

    name-placed : {place : ℕ} → place ≡ placed numbers i places → place_of a.kept.state (size numbers i) ≡ place
    unfolding place_of
    name-placed e = rw a.places-are (sym e)

  group-given : {g : Gadget} {i : ℕ} → gadget_of a.kept ≡ g → DigitWord w numbers i → GroupGiven p table cells g.width
  group-given is word = record {
    three = p-three word.late;
    room = subst (λ (g : Gadget). cells + g.width ≤ length table) is a.room;
  }

  group-power : {i b k : ℕ} → DigitWord w numbers i → DigitsAre numbers i b k → b ^ k ≤ p
  group-power word d = rw (a.prime word.late) at (word-power a.kept word d)

  -- ---- a line that names one value

  module _ {line : Known → (v b k : ℕ) → Gadget} (kind : KeptLine w numbers → OneWord w numbers line) where
    one-word : OneWord w numbers line
    one-word = kind a.kept

    -- as `place_at` asks it
    pub one-place : NameAt (length places) numbers 0
    one-place = name-given (one_name a.kept one-word)

    -- as the table with its digits asks it
    pub one-power : {b k : ℕ} → DigitsAre numbers 1 b k → b ^ k ≤ p
    one-power = group-power one-word.has-digits

    module _ {place b k : ℕ} (place_is : place ≡ placed numbers 0 places) (digits : DigitsAre numbers 1 b k) where
      pub one-checks : GroupGiven p table cells (line a.kept.state (size numbers 0) b k).width × (place < length table)
      one-checks = (
        group-given (one-is a.kept one-word digits) one-word.has-digits,
        name-inside (one_name a.kept one-word) place_is,
      )

      pub one-yield : {meaning : Option Reply}
          → ((s : Known) (v : ℕ) → s.p ≡ p → place_of s v ≡ place → s.cells ≡ cells → meaning ≡ first_refusal (holds p table) 0 (line s v b k).rows)
          → meaning ≡ first_refusal (holds p table) 0 (gadget_of a.kept).rows
      one-yield yields =
          yields a.kept.state (size numbers 0) (a.prime one-word.has-digits.late)
          (name-placed (one_name a.kept one-word) place_is) a.cells_are
          ∙ ap (λ (g : Gadget). first_refusal (holds p table) 0 g.rows) (sym (one-is a.kept one-word digits))

  -- ---- a line that names two

  module _ {line : Known → (u v b k : ℕ) → Gadget} (kind : KeptLine w numbers → TwoWord w numbers line) where
    two-word : TwoWord w numbers line
    two-word = kind a.kept

    -- as `place_at` asks it
    pub first-place : NameAt (length places) numbers 0
    first-place = name-given (two-first a.kept two-word)

    pub second-place : NameAt (length places) numbers 1
    second-place = name-given (two-second a.kept two-word)

    -- as the table with its digits asks it
    pub two-power : {b k : ℕ} → DigitsAre numbers 2 b k → b ^ k ≤ p
    two-power = group-power two-word.has-digits

    module _ {place-u place-v b k : ℕ} (first-is : place-u ≡ placed numbers 0 places) (second_is : place-v ≡ placed numbers 1 places)
        (digits : DigitsAre numbers 2 b k) where
      pub two-checks : GroupGiven p table cells (line a.kept.state (size numbers 0) (size numbers 1) b k).width
          × (place-u < length table) × (place-v < length table)
      two-checks = (
        group-given (two_is a.kept two-word digits) two-word.has-digits,
        name-inside (two-first a.kept two-word) first-is,
        name-inside (two-second a.kept two-word) second_is,
      )

      pub two-yield : {meaning : Option Reply}
          → ((s : Known) (u v : ℕ) → s.p ≡ p → place_of s u ≡ place-u → place_of s v ≡ place-v → s.cells ≡ cells
          → meaning ≡ first_refusal (holds p table) 0 (line s u v b k).rows)
          → meaning ≡ first_refusal (holds p table) 0 (gadget_of a.kept).rows
      two-yield yields =
          yields a.kept.state (size numbers 0) (size numbers 1) (a.prime two-word.has-digits.late)
          (name-placed (two-first a.kept two-word) first-is) (name-placed (two-second a.kept two-word) second_is) a.cells_are
          ∙ ap (λ (g : Gadget). first_refusal (holds p table) 0 g.rows) (sym (two_is a.kept two-word digits))
