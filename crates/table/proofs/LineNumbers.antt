-- What the rules say of the numbers of a line that keeps them, one law for all words: a place where a name stands, a place where a base
-- and its digit count stand, the count of the numbers, p, and the values before the line.
use mathlib.Core.Path.{◌≡◌}
use mathlib.Core.Bool.{Bool, true, false, ◌&&◌}
use mathlib.Core.List.{List, [], ◌∷◌}
use Prim.Native.Nat.{ℕ, suc, ◌+◌, ◌*◌, ◌^◌, ◌≤◌, ◌<◌}
use native.Mathlib.Omega.{arith}
use native.Mathlib.Nat.{mul-le-mul_right, one-mul}
use native.Mathlib.Numerals.{add-one}
use lib.Dec.{T, leb, ltb, leb→le}
use lib.IntN.{ℤ, pos, nat_abs}
use lib.ListN.{length, get_or}
use lib.Signed.{◌≤ℤ◌, non_neg}
use Rattle.algebra.proofs.Test.{left, right, test-≡}
use Rattle.algebra.proofs.Integer.Linear.{linear}
use Rattle.meaning.specs.Number.{half, lowest, highest, OddPrime}
use Rattle.meaning.specs.Word.{Word, field, input, span, sum, relu, which, max, root, number_at, size_at, Digits, digits_at, kind_of}
use Rattle.meaning.specs.Known.{Known, ends_of, apart, above, digit_rule, Within}
use Rattle.meaning.specs.Gadget.Digits.{value_at}
use Rattle.meaning.specs.Gadget.Sign.{sign_shift}
use Rattle.meaning.specs.Gadget.Span.{span_line}
use Rattle.meaning.specs.Gadget.Relu.{relu_line}
use Rattle.meaning.specs.Gadget.Which.{which_line}
use Rattle.meaning.specs.Gadget.Max.{max_line}
use Rattle.meaning.specs.Gadget.Root.{root_line}
use Rattle.meaning.specs.Meaning.{gadget}
use Rattle.meaning.specs.Refusal.{value_limit, all, is_made, is_digits}
use Rattle.meaning.proofs.Lines.{made-name, not-below, digits-given, after-field}
use Rattle.meaning.proofs.Group.{rule-power}
use Rattle.meaning.proofs.Law.{low_end, high_end, low-ranged, high-ranged}
use Rattle.number.specs.Bounded.{Bounded}
use Rattle.number.proofs.Bounded.{bounded-more, bounded-range}
use Rattle.rules.proofs.Digits.{Allowed, digits-allowed}
use Rattle.groups.specs.Cells.{value_bound}
use Rattle.groups.specs.Numbers.{size, NameAt, DigitsFrom}
use Rattle.table.specs.Line.{KeptLine, gadget_of, known_count}

-- ---- names

pub made-is : (n : ℕ) (v : ℤ) → T (is_made n v) → (pos 0 ≤ℤ v) × (nat_abs v < n)
unfolding is_made
made-is n v t = (not-below v (left (non_neg v) (ltb (nat_abs v) n) t), made-name n v t)

-- ---- powers

-- c = b ^ k is at most m, for each base and digit count of a line
unfoldable Powers : ℕ → List Digits → Type 0
Powers m [] = Unit {0}
Powers m (d ∷ ds) = (nat_abs d.b ^ nat_abs d.k ≤ m) × Powers m ds

power-rooted : (p c : ℕ) → 3 ≤ p → T (leb 3 c && leb (c * c) (half p + 1)) → c ≤ p
unfolding half
power-rooted p c h t =
    let l : c * c ≤ half p + 1 = leb→le (c * c) (half p + 1) (right (leb 3 c) (leb (c * c) (half p + 1)) t) in
    let three : 3 ≤ c = leb→le 3 c (left (leb 3 c) (leb (c * c) (half p + 1)) t) in
    let square : 1 * c ≤ c * c = mul-le-mul_right c (omega arith) in
    omega (arith, one-mul c)

powers-ruled : (w : Word) (s : Known) (ns : List ℤ) → 3 ≤ s.p → T ((kind_of w).gadget s ns).unambiguous → Powers s.p ((kind_of w).digits ns)
unfolding Powers kind_of digits_at span_line relu_line which_line max_line root_line size_at
powers-ruled field s ns h t = tt
powers-ruled input s ns h t = tt
powers-ruled span s ns h t = (rule-power s.p (size_at ns 1) (size_at ns 2) (ends_of s (size_at ns 0)) (number_at ns 3) t, tt)
powers-ruled sum s ns h t = tt
powers-ruled relu s ns h t = (rule-power s.p (size_at ns 1) (size_at ns 2) (ends_of s (size_at ns 0)) (sign_shift (size_at ns 1) (size_at ns 2)) t, tt)
powers-ruled which s ns h t =
    let es = apart (ends_of s (size_at ns 0)) (ends_of s (size_at ns 1)) in
    (rule-power s.p (size_at ns 2) (size_at ns 3) es (sign_shift (size_at ns 2) (size_at ns 3)) t, tt)
powers-ruled max s ns h t =
    let es = above (ends_of s (size_at ns 0)) (ends_of s (size_at ns 1)) in
    let fs = above (ends_of s (size_at ns 1)) (ends_of s (size_at ns 0)) in
    let b : ℕ = size_at ns 2 in
    let k : ℕ = size_at ns 3 in
    (rule-power s.p b k es (pos 0) (left (digit_rule s.p b k es (pos 0)) (digit_rule s.p b k fs (pos 0)) t), tt)
powers-ruled root s ns h t = (power-rooted s.p (size_at ns 1 ^ size_at ns 2) h t, tt)

-- ---- the line

module _ {w : Word} {numbers : List ℤ} (l : KeptLine w numbers) where
  -- there is room for the values before the line and its own
  pub made-fit : known_count l + length (gadget_of l).made ≤ value_limit
  made-fit = leb→le (known_count l + length (gadget_of l).made) value_limit l.keeps.values-fit

  pub values-most : known_count l ≤ value_limit
  values-most = omega (arith, made-fit)

  -- ---- p

  pub prime-is : (kind_of w).is_field ≡ false → OddPrime l.state.p
  prime-is e = l.sound.prime (after-field l.line w e l.keeps.placed)

  pub half-most : (kind_of w).is_field ≡ false → half l.state.p ≤ value_bound
  unfolding half
  half-most e = omega (arith, l.p-most e)

  -- ---- a name

  name-at : (i : ℕ) → i < length numbers → T (is_made (known_count l) (number_at numbers i)) → NameAt (known_count l) numbers i
  unfolding number_at
  name-at i h t =
      let name = made-is (known_count l) (get_or numbers i (pos 0)) t in
      record { inside = h; natural = name.0; below = name.1 }

  pub first-name : (i : ℕ) (vs : List ℤ) → i < length numbers → (kind_of w).names numbers ≡ number_at numbers i ∷ vs → NameAt (known_count l) numbers i
  unfolding all
  first-name i vs h e =
      let t : T (all (is_made (known_count l)) (number_at numbers i ∷ vs)) = rw e at l.keeps.names-made in
      name-at i h (left (is_made (known_count l) (number_at numbers i)) (all (is_made (known_count l)) vs) t)

  pub second-name : (i : ℕ) (v : ℤ) (vs : List ℤ) → i < length numbers → (kind_of w).names numbers ≡ v ∷ number_at numbers i ∷ vs
      → NameAt (known_count l) numbers i
  unfolding all
  second-name i v vs h e =
      let one : ℤ → Bool = is_made (known_count l) in
      let t : T (all one (v ∷ number_at numbers i ∷ vs)) = rw e at l.keeps.names-made in
      name-at i h (left (one (number_at numbers i)) (all one vs) (right (one v) (all one (number_at numbers i ∷ vs)) t))

  -- ---- a base and its digit count

  module _ (i : ℕ) (inside : i + 1 < length numbers) (late : (kind_of w).is_field ≡ false) (is : (kind_of w).digits numbers ≡ digits_at numbers i) where
    allowed : Allowed (number_at numbers i) (number_at numbers (suc i))
    unfolding digits_at all
    allowed =
        let t = digits-given l.state.p i w numbers is l.keeps.ranged in
        digits-allowed (number_at numbers i) (number_at numbers (suc i)) (test-≡ _ (left (is_digits (record { b = number_at numbers i; k = number_at numbers (suc i) })) true t))

    pub power_below : size numbers i ^ size numbers (i + 1) ≤ l.state.p
    unfolding Powers digits_at gadget number_at
    power_below =
        let powers = powers-ruled w l.state numbers (prime-is late).three l.keeps.unambiguous in
        let given : Powers l.state.p (digits_at numbers i) = rw is at powers in
        rw (add-one i) given.0

    pub digits_from : DigitsFrom numbers i
    unfolding number_at
    digits_from =
        let a : Allowed (get_or numbers i (pos 0)) (get_or numbers (i + 1) (pos 0)) = rw (add-one i) allowed in
        record {
          base-inside = omega (arith, inside);
          base-natural = not-below (get_or numbers i (pos 0)) a.base-counts;
          base-most = l.small i (omega (arith, inside));
          count-inside = inside;
          count-natural = not-below (get_or numbers (i + 1) (pos 0)) a.count-counts;
          group = record {
            base = a.base;
            some-digit = a.one;
            few = a.most;
            small = omega (arith, power_below, l.p-most late);
          };
        }

  -- ---- the values before the line

  pub value-bounded : (kind_of w).is_field ≡ false → (vs : List ℤ) → Within l.state.known vs → (v : ℕ) → v < known_count l
      → Bounded value_bound (get_or vs v (pos 0))
  unfolding value_at lowest highest
  value-bounded e vs within v named =
      let s : Known = l.state in
      let low = low_end s vs v named within in
      let high = high_end s vs v named within in
      let lowest = low-ranged s.p s v named l.sound.ranged in
      let highest = high-ranged s.p s v named l.sound.ranged in
      bounded-more (bounded-range (get_or vs v (pos 0)) (omega (linear, low, lowest)) (omega (linear, high, highest))) (half-most e)
