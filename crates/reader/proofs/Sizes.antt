-- How many values, inputs, cells and rows each kind of line has, and that the code counts them from the line's word and digit count.
use mathlib.Core.Path.{◌≡◌, refl, sym, ap, ◌∙◌}
use mathlib.Core.Bool.{true}
use mathlib.Core.List.{List}
use Prim.Native.Nat.{ℕ, suc, ◌+◌, ◌*◌, ◌≤◌, ◌<◌}
use native.Mathlib.Omega.{arith}
use lib.Dec.{T, eqb, eqb→eq}
use lib.ListN.{length, get_or, take}
use Rattle.std.proofs.lemmas.List.{get_or-take, length-take}
use lib.IntN.{ℤ, pos, nat_abs}
use lib.Signed.{◌≤ℤ◌}
use Rattle.algebra.proofs.Test.{left, right, ≡-test}
use Rattle.meaning.specs.Word.{field, input, span, sum, relu, which, max, root, number_at, size_at, digits_at, kind_of}
use Rattle.meaning.specs.Word.{Word as Meant}
use Rattle.meaning.specs.Known.{Known}
use Rattle.meaning.specs.Gadget.Field.{field_line}
use Rattle.meaning.specs.Gadget.Input.{input_line}
use Rattle.meaning.specs.Gadget.Span.{span_line}
use Rattle.meaning.specs.Gadget.Sum.{sum_line}
use Rattle.meaning.specs.Gadget.Relu.{relu_line}
use Rattle.meaning.specs.Gadget.Which.{which_line}
use Rattle.meaning.specs.Gadget.Max.{max_line}
use Rattle.meaning.specs.Gadget.Root.{root_line}
use Rattle.meaning.specs.Meaning.{gadget}
use Rattle.meaning.specs.Refusal.{all, is_digits, is_ranged, most_digits}
use Rattle.meaning.specs.Kept.{Keeps}
use Rattle.meaning.proofs.RowCounts.{length-group_rows, length-sign_rows, two-groups, four-groups}
use Rattle.meaning.proofs.Lines.{digits-given}
use Rattle.text.specs.Word.{word_of}
use Rattle.text.specs.declared.Word.{Word}
use Rattle.text.specs.declared.Word.TheVariants.{Field, In, Span, Sum, Relu, Which, Max, Root}
use Rattle.rules.specs.Yield.{line_with}
use Rattle.reader.specs.Size.{counted, Adds, DigitSize}
use Rattle.reader.specs.declared.counts.Counts.{Counts}

-- ---- digit counts

-- where the rules hold, the number at place i + 1 is a digit count
module _ (p i : ℕ) (w : Meant) (ns : List ℤ) (is : (kind_of w).digits ns ≡ digits_at ns i) (ranged : T (is_ranged p w ns)) where
  count_low : pos 1 ≤ℤ number_at ns (suc i)
  unfolding all digits_at is_digits
  count_low = let g = digits-given p i w ns is ranged in record { le = search (left, right, g) }

  count-high : number_at ns (suc i) ≤ℤ pos most_digits
  unfolding all digits_at is_digits
  count-high = let g = digits-given p i w ns is ranged in record { le = search (left, right, g) }

-- and the code's digit count is the line's
module _ (s : Known) (w : Meant) (numbers : List ℤ) (i k : ℕ)
    (is : (kind_of w).digits numbers ≡ digits_at numbers i)
    (counts : pos 1 ≤ℤ get_or numbers (suc i) (pos 0) → get_or numbers (suc i) (pos 0) ≤ℤ pos most_digits → k ≡ nat_abs (get_or numbers (suc i) (pos 0))) where
  pub digits-counted : {m : ℕ} → Keeps m s (line_with w numbers) → size_at numbers (suc i) ≡ k
  unfolding size_at number_at
  digits-counted kept =
      let low = count_low s.p i w numbers is kept.ranged in
      let high = count-high s.p i w numbers is kept.ranged in
      sym (counts low high)

-- ---- the counts of each kind

module _ (s : Known) (ns : List ℤ) (k : ℕ) where
  adds-field : Adds s (line_with field ns) (counted 0 0 0 0)
  unfolding gadget kind_of field_line
  adds-field = record { values-are = refl; inputs_are = refl; cells_are = refl; rows_are = refl }

  adds-input : Adds s (line_with input ns) (counted 1 1 1 0)
  unfolding gadget kind_of input_line
  adds-input = record { values-are = refl; inputs_are = refl; cells_are = refl; rows_are = refl }

  adds-sum : Adds s (line_with sum ns) (counted 1 0 1 1)
  unfolding gadget kind_of sum_line
  adds-sum = record { values-are = refl; inputs_are = refl; cells_are = refl; rows_are = refl }

  adds-span : size_at ns 2 ≡ k → Adds s (line_with span ns) (counted 0 0 (1 * k + 0) (1 * k + 1))
  unfolding gadget kind_of span_line
  adds-span e = record { values-are = refl; inputs_are = refl; cells_are = omega (arith, e); rows_are = length-group_rows _ _ _ _ (size_at ns 2) ∙ omega (arith, e) }

  adds-relu : size_at ns 2 ≡ k → Adds s (line_with relu ns) (counted 1 0 (1 * k + 3) (1 * k + 5))
  unfolding gadget kind_of relu_line
  adds-relu e = record { values-are = refl; inputs_are = refl; cells_are = omega (arith, e); rows_are = length-sign_rows _ _ _ (size_at ns 2) _ ∙ omega (arith, e) }

  adds-which : size_at ns 3 ≡ k → Adds s (line_with which ns) (counted 1 0 (1 * k + 3) (1 * k + 5))
  unfolding gadget kind_of which_line
  adds-which e = record { values-are = refl; inputs_are = refl; cells_are = omega (arith, e); rows_are = length-sign_rows _ _ _ (size_at ns 3) _ ∙ omega (arith, e) }

  adds-max : size_at ns 3 ≡ k → Adds s (line_with max ns) (counted 1 0 (2 * k + 1) (2 * k + 3))
  unfolding gadget kind_of max_line
  adds-max e = record { values-are = refl; inputs_are = refl; cells_are = omega (arith, e); rows_are = two-groups _ _ (pos 0) _ _ (size_at ns 2) (size_at ns 3) ∙ omega (arith, e) }

  adds-root : size_at ns 2 ≡ k → Adds s (line_with root ns) (counted 1 0 (4 * k + 2) (4 * k + 5))
  unfolding gadget kind_of root_line
  adds-root e = record { values-are = refl; inputs_are = refl; cells_are = omega (arith, e); rows_are = four-groups _ _ _ _ (pos 0) _ _ _ _ (size_at ns 1) (size_at ns 2) ∙ omega (arith, e) }

-- ---- as the code counts them, from a word and numbers of which the line has the first

-- numbers that others begin with
pub record FirstOf (ns numbers : List ℤ) : Type 0 where
  pub most : length ns ≤ length numbers
  pub same : (i : ℕ) → i < length ns → get_or ns i (pos 0) ≡ get_or numbers i (pos 0)

pub all_first : (numbers : List ℤ) → FirstOf numbers numbers
all_first numbers = record { most = omega arith; same = λ i h. refl }

pub taken-first : (count : ℕ) (numbers : List ℤ) → FirstOf (take count numbers) numbers
taken-first count numbers =
    let taken = length-take count numbers in
    record { most = omega (arith, taken); same = λ i h. get_or-take count numbers i (pos 0) (omega (arith, taken)) }

-- a word that is followed by n numbers and no other count
abbrev pub HasCount : Word → (n : ℕ) → Type 0
HasCount w n = (ns : List ℤ) → (kind_of (word_of w)).is_counted ns ≡ eqb (length ns) n

pub count-is : {v w : Word} (numbers : List ℤ) (n : ℕ) → v ≡ w → HasCount w n → (kind_of (word_of v)).is_counted numbers ≡ true → length numbers ≡ n
count-is numbers n q only e =
    let counted = sym (only numbers) ∙ ap (λ (u : Word). (kind_of (word_of u)).is_counted numbers) (sym q) ∙ e in
    eqb→eq (length numbers) n (≡-test (eqb (length numbers) n) counted)

-- what a count tells of the line: how much it adds
abbrev pub Sizes : Word → List ℤ → Counts → Type 0
Sizes v ns c =
    (n : ℕ) (s : Known) → (kind_of (word_of v)).is_counted ns ≡ true → Keeps n s (line_with (word_of v) ns)
    → Adds s (line_with (word_of v) ns) c

module _ {v : Word} {c : Counts} (ns : List ℤ) where
  pub field_sizes : v ≡ Field → c ≡ counted 0 0 0 0 → Sizes v ns c
  unfolding word_of
  field_sizes q e n s h k = rw (q, e) (adds-field s ns 0)

  pub input_sizes : v ≡ In → c ≡ counted 1 1 1 0 → Sizes v ns c
  unfolding word_of
  input_sizes q e n s h k = rw (q, e) (adds-input s ns 0)

  pub sum_sizes : v ≡ Sum → c ≡ counted 1 0 1 1 → Sizes v ns c
  unfolding word_of
  sum_sizes q e n s h k = rw (q, e) (adds-sum s ns 0)

-- a line with digits, whose count is read at a place of the numbers that are given: the line's own are the first of these, and where they are as many
-- as belong to the word, it is the place of the line's digit count
module _ {v : Word} {c : Counts} {ns numbers : List ℤ} (first : FirstOf ns numbers) {at : ℕ} where
  digit-sizes : (w : Word) (m i : ℕ) {values each cells rows : ℕ} → v ≡ w → HasCount w m → suc i < m → (z : DigitSize numbers at values each cells rows c)
      → (length ns ≡ m → at ≡ suc i) → ((kind_of (word_of w)).digits ns ≡ digits_at ns i)
      → ((s : Known) → size_at ns (suc i) ≡ z.count → Adds s (line_with (word_of w) ns) (counted values 0 (each * z.count + cells) (each * z.count + rows)))
      → Sizes v ns c
  digit-sizes w m i q only inside z place is adds n s h kept =
      let long : length ns ≡ m = count-is ns m q only h in
      let same : get_or ns (suc i) (pos 0) ≡ get_or numbers at (pos 0) = rw (place long) (first.same (suc i) (omega arith)) in
      let here : Keeps n s (line_with (word_of w) ns) = rw q at kept in
      rw (q, z.counts-are) (adds s (digits-counted s (word_of w) ns i z.count is (rw (← same) at z.is-count.1) here))

  pub span-sizes : v ≡ Span → DigitSize numbers at 0 1 0 1 c → (length ns ≡ 4 → at ≡ 2) → Sizes v ns c
  unfolding word_of kind_of
  span-sizes q z place = digit-sizes Span 4 1 q (λ ms. refl) (omega arith) z place refl (λ s. adds-span s ns z.count)

  pub relu-sizes : v ≡ Relu → DigitSize numbers at 1 1 3 5 c → (length ns ≡ 3 → at ≡ 2) → Sizes v ns c
  unfolding word_of kind_of
  relu-sizes q z place = digit-sizes Relu 3 1 q (λ ms. refl) (omega arith) z place refl (λ s. adds-relu s ns z.count)

  pub which-sizes : v ≡ Which → DigitSize numbers at 1 1 3 5 c → (length ns ≡ 4 → at ≡ 3) → Sizes v ns c
  unfolding word_of kind_of
  which-sizes q z place = digit-sizes Which 4 2 q (λ ms. refl) (omega arith) z place refl (λ s. adds-which s ns z.count)

  pub max-sizes : v ≡ Max → DigitSize numbers at 1 2 1 3 c → (length ns ≡ 4 → at ≡ 3) → Sizes v ns c
  unfolding word_of kind_of
  max-sizes q z place = digit-sizes Max 4 2 q (λ ms. refl) (omega arith) z place refl (λ s. adds-max s ns z.count)

  pub root-sizes : v ≡ Root → DigitSize numbers at 1 4 2 5 c → (length ns ≡ 3 → at ≡ 2) → Sizes v ns c
  unfolding word_of kind_of
  root-sizes q z place = digit-sizes Root 3 1 q (λ ms. refl) (omega arith) z place refl (λ s. adds-root s ns z.count)
