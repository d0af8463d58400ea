-- The cells that are written for a line of each kind are those that its gadget has for the values before it.
use mathlib.Core.Path.{◌≡◌, refl, sym, ap, subst, ◌∙◌}
use mathlib.Core.Bool.{false}
use mathlib.Core.List.{List, [], ◌∷◌, ◌++◌}
use mathlib.Core.Logic.{◌⊎◌, inl, inr}
use Prim.Native.Nat.{ℕ, suc, ◌+◌, ◌*◌, ◌^◌, ◌≤◌, ◌<◌}
use native.Mathlib.Omega.{arith}
use lib.IntN.{ℤ, pos, ◌-ℤ◌}
use lib.ListN.{length, get_or, drop}
use Rattle.meaning.specs.Word.{Word, kind_of}
use Rattle.meaning.specs.Number.{remainder, OddPrime}
use Rattle.meaning.specs.Known.{Known, larger}
use Rattle.meaning.specs.Meaning.{gadget}
use Rattle.meaning.specs.Gadget.Interface.{Gadget}
use Rattle.meaning.specs.Gadget.Digits.{group_cells, value_at}
use Rattle.meaning.specs.Gadget.Field.{field_line}
use Rattle.meaning.specs.Gadget.Input.{input_line}
use Rattle.meaning.specs.Gadget.Span.{span_line}
use Rattle.meaning.specs.Gadget.Sum.{sum_line}
use Rattle.meaning.specs.Gadget.Sign.{sign_cells}
use Rattle.meaning.specs.Gadget.Relu.{relu_line}
use Rattle.meaning.specs.Gadget.Which.{which_value, which_line}
use Rattle.meaning.specs.Gadget.Max.{max_line}
use Rattle.meaning.specs.Gadget.Root.{root_line}
use Rattle.meaning.proofs.Number.{positive}
use Rattle.text.specs.Word.{word_of}
use Rattle.text.specs.declared.Word.{Word as Coded}
use Rattle.text.specs.declared.Word.TheVariants.{Field, In, Span, Sum, Relu, Which, Max, Root}
use Rattle.groups.specs.Numbers.{size, named, DigitsAre}
use Rattle.table.specs.Max.{max_cells}
use Rattle.table.specs.Root.{root_cells}
use Rattle.table.specs.Sum.{sum_of}
use Rattle.table.specs.Line.{KeptLine, gadget_of}
use Rattle.table.specs.LineValues.{CellsGiven, CellsYield}
use Rattle.table.proofs.LineNumbers.{prime-is}
use Rattle.table.proofs.LineKinds.{word-power, OneWord, one-is, TwoWord, two_is}
use Rattle.table.proofs.LineKinds.{span-word, relu-word, which-word, max-word, root-word}

module _ {p : ℕ} {w : Word} {numbers : List ℤ} {values made : List ℤ} {part : List ℕ}
    (a : CellsGiven p w numbers values made part) where
  pub prime-given : (kind_of w).is_field ≡ false → OddPrime p
  prime-given e = subst OddPrime (a.prime e) (prime-is a.given.kept e)

  -- what is known of p, of the part and of c, for a line that names one value, and for one that names two
  pub one-writes : {line : Known → (v b k : ℕ) → Gadget} (kind : KeptLine w numbers → OneWord w numbers line) {b k : ℕ} → DigitsAre numbers 1 b k
      → OddPrime p × ((line a.given.kept.state (size numbers 0) b k).width ≤ length part) × (b ^ k ≤ p)
  one-writes kind digits = let word = kind a.given.kept in (
    prime-given word.has-digits.late,
    subst (λ (g : Gadget). g.width ≤ length part) (one-is a.given.kept word digits) a.room,
    rw (a.prime word.has-digits.late) at (word-power a.given.kept word.has-digits digits),
  )

  pub two-writes : {line : Known → (u v b k : ℕ) → Gadget} (kind : KeptLine w numbers → TwoWord w numbers line) {b k : ℕ} → DigitsAre numbers 2 b k
      → OddPrime p × ((line a.given.kept.state (size numbers 0) (size numbers 1) b k).width ≤ length part) × (b ^ k ≤ p)
  two-writes kind digits = let word = kind a.given.kept in (
    prime-given word.has-digits.late,
    subst (λ (g : Gadget). g.width ≤ length part) (two_is a.given.kept word digits) a.room,
    rw (a.prime word.has-digits.late) at (word-power a.given.kept word.has-digits digits),
  )

-- ---- one value, and a digit group

module _ {numbers values : List ℤ} {v : ℤ} {b k : ℕ} (value-is : v ≡ named numbers 0 values) (digits : DigitsAre numbers 1 b k) {p : ℕ} {made : List ℤ} {part after : List ℕ} where
  -- the cells of the line's gadget over v are those of the line
  one_written : {w : Word} {line : Known → (n b k : ℕ) → Gadget} → (KeptLine w numbers → OneWord w numbers line)
      → ((s : Known) (n : ℕ) (vs : List ℤ) (next : ℤ) → s.p ≡ p → value_at vs n ≡ v
      → after ≡ (line s n b k).cells vs next ++ drop (line s n b k).width part) → CellsYield p w numbers values made part after
  unfolding value_at
  one_written word yields a next _ =
      let l = a.given.kept in
      rw (one-is l (word l) digits) (yields l.state (size numbers 0) values next (a.prime (word l).has-digits.late) (sym value-is))

  pub relu-cells-yield : {word : Coded} → word ≡ Relu → after ≡ (remainder p (larger (pos 0) v) ∷ sign_cells p b k v) ++ drop (k + 3) part
      → CellsYield p (word_of word) numbers values made part after
  unfolding relu_line
  relu-cells-yield e h = one_written (relu-word e) (λ s n vs next p-is is. rw (p-is, is) h)

  pub root-cells-yield : {word : Coded} → word ≡ Root → after ≡ root_cells p b k v ++ drop (2 + 4 * k) part → CellsYield p (word_of word) numbers values made part after
  unfolding root_line root_cells
  root-cells-yield e h = one_written (root-word e) (λ s n vs next p-is is. rw (p-is, is) h)

  pub span-cells-yield : {word : Coded} → word ≡ Span → {shift : ℤ} → shift ≡ get_or numbers 3 (pos 0) → after ≡ group_cells b k v shift ++ drop k part
      → CellsYield p (word_of word) numbers values made part after
  unfolding span_line
  span-cells-yield e same h = one_written (span-word e) (λ s n vs next p-is is. rw (is, ← same) h)

-- ---- two values, and a digit group

module _ {numbers values : List ℤ} {u v : ℤ} {b k : ℕ} (first-is : u ≡ named numbers 0 values) (second_is : v ≡ named numbers 1 values) (digits : DigitsAre numbers 2 b k) {p : ℕ} {made : List ℤ} {part after : List ℕ} where
  two-written : {w : Word} {line : Known → (m n b k : ℕ) → Gadget} → (KeptLine w numbers → TwoWord w numbers line)
      → ((s : Known) (m n : ℕ) (vs : List ℤ) (next : ℤ) → s.p ≡ p → value_at vs m ≡ u → value_at vs n ≡ v
      → after ≡ (line s m n b k).cells vs next ++ drop (line s m n b k).width part) → CellsYield p w numbers values made part after
  unfolding value_at
  two-written word yields a next _ =
      let l = a.given.kept in
      rw (two_is l (word l) digits)
      (yields l.state (size numbers 0) (size numbers 1) values next (a.prime (word l).has-digits.late) (sym first-is) (sym second_is))

  pub which-cells-yield : {word : Coded} → word ≡ Which → after ≡ (remainder p (which_value u v) ∷ sign_cells p b k (u -ℤ v)) ++ drop (k + 3) part
      → CellsYield p (word_of word) numbers values made part after
  unfolding which_line
  which-cells-yield e h = two-written (which-word e) (λ s m n vs next p-is u-is v-is. rw (p-is, u-is, v-is) h)

  pub max-cells-yield : {word : Coded} → word ≡ Max → after ≡ max_cells p b k u v ++ drop (suc (2 * k)) part → CellsYield p (word_of word) numbers values made part after
  unfolding max_line max_cells
  max-cells-yield e h = two-written (max-word e) (λ s m n vs next p-is u-is v-is. rw (p-is, u-is, v-is) h)

-- ---- lines without a digit group

pub field-cells-yield : {word : Coded} → word ≡ Field → (p : ℕ) (numbers values made : List ℤ) (part : List ℕ)
    → CellsYield p (word_of word) numbers values made part part
unfolding word_of gadget kind_of field_line
field-cells-yield is p numbers values made part = rw is (λ a next e. refl)

-- a line that makes one value, whose cell is its only one
record OneCell (w : Word) (p : ℕ) (g : Gadget) : Type 0 where
  pub late : (kind_of w).is_field ≡ false
  pub one-made : length g.made ≡ 1
  pub one-wide : g.width ≡ 1
  pub value : (vs : List ℤ) (next : ℤ) → ℤ
  pub values-are : (vs : List ℤ) (next : ℤ) → g.values vs next ≡ value vs next ∷ []
  pub cells_are : (vs : List ℤ) (next : ℤ) → g.cells vs next ≡ remainder p (value vs next) ∷ []

-- as an input is, and a sum
one-cell : {word : Coded} {numbers : List ℤ} → (word ≡ In) ⊎ (word ≡ Sum) → (l : KeptLine (word_of word) numbers) → OneCell (word_of word) l.state.p (gadget_of l)
unfolding word_of kind_of gadget input_line sum_line
one-cell (inl is) = rw is (λ l. record {
  late = refl;
  one-made = refl;
  one-wide = refl;
  value = λ vs next. next;
  values-are = λ vs next. refl;
  cells_are = λ vs next. refl;
})
one-cell {word} {numbers} (inr is) = rw is (λ l. record {
  late = refl;
  one-made = refl;
  one-wide = refl;
  value = λ vs next. sum_of numbers vs;
  values-are = λ vs next. refl;
  cells_are = λ vs next. refl;
})

module _ {word : Coded} (is : (word ≡ In) ⊎ (word ≡ Sum)) {p : ℕ} {numbers values made : List ℤ} {part : List ℕ} where
  -- as `value_cell` and `whole_at` ask it: the value stands first
  pub own-given : CellsGiven p (word_of word) numbers values made part → (0 < p) × (0 < length part) × (0 < length made)
  own-given a =
      let c = one-cell is a.given.kept in
      (positive (prime-given a c.late), omega (arith, a.room, c.one-wide), omega (arith, a.made-long, c.one-made))

  pub own-yield : {after : List ℕ} → after ≡ remainder p (get_or made 0 (pos 0)) ∷ drop 1 part → CellsYield p (word_of word) numbers values made part after
  own-yield h a next e =
      let c = one-cell is a.given.kept in
      let own : c.value values next ≡ get_or made 0 (pos 0) = ap (λ (l : List ℤ). get_or l 0 (pos 0)) (sym (c.values-are values next) ∙ e) in
      rw (c.cells_are values next, c.one-wide, own, a.prime c.late) h
