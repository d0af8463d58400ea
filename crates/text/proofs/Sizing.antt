-- Laws of a size, as `size_from` reads it: the first digit, one more, and each way out. It reads up to ten digits before it looks at how
-- large they make the size.
use mathlib.Core.Path.{◌≡◌, refl, sym, ◌∙◌}
use mathlib.Core.Bool.{Bool, true, false, ◌||◌}
use mathlib.Core.List.{List}
use mathlib.Core.Logic.{◌⊎◌, ⊎_elim}
use mathlib.Core.Option.{none}
use Prim.Native.Nat.{ℕ, suc, ◌+◌, ◌*◌, ◌-◌, ◌^◌, ◌≤◌, ◌<◌}
use native.Mathlib.Decide.{dec_lt}
use native.Mathlib.Nat.{pow-suc, pow-le-pow_right}
use native.Mathlib.Omega.{arith}
use lib.Dec.{eqb}
use lib.ListN.{get_or, take}
use Rattle.meaning.specs.Text.{is_digit, largest}
use Rattle.meaning.proofs.Results.{none-refused}
use Rattle.std.specs.Prelude.{Some, None}
use Rattle.std.specs.Bool.{then_some}
use Rattle.text.specs.Number.{plain_size, SizeRead}
use Rattle.text.specs.Place.{field_at}
use Rattle.text.proofs.Places.{Searched, search-past, search-stop}
use Rattle.text.proofs.Ends.{InLine, cut-length, cut-byte, before-end, place-next, field-ends, ends-field, no-field-end}
use Rattle.text.proofs.Numbers.{digit-bounds, digit-is, digit-above, digits_after, digits-end, digits-not, digits-next, digits-over, size-empty, size_low, size-digits}

-- ---- how many digits a number has

-- n is written with k digits, the first of which is not 0
pub record DigitsLong (n k : ℕ) : Type 0 where
  pub low : 10 ^ k ≤ 10 * n
  pub high : n < 10 ^ k

ten-powers : {k m : ℕ} → k ≤ m → 10 ^ k ≤ 10 ^ m
ten-powers h = pow-le-pow_right (omega arith) h

pub one-digit : {n k : ℕ} → 0 < n → n < 10 → k ≡ 1 → DigitsLong n k
one-digit low high e = rw e (record { low = omega arith; high = omega arith })

pub digit-longer : {n k d m : ℕ} → DigitsLong n k → d ≤ 9 → m ≡ suc k → DigitsLong (10 * n + d) m
digit-longer {n} {k} l h e =
    let power : 10 ^ suc k ≡ 10 ^ k * 10 = pow-suc 10 k in
    rw e (record { low = omega (arith, l.low, power); high = omega (arith, l.high, power) })

-- an eleventh makes any number too large
pub digits-most : {n k : ℕ} (d : ℕ) → DigitsLong n k → 10 ≤ k → largest < 10 * n + d
digits-most d l h = omega (arith, l.low, ten-powers h)

-- ---- no size

module _ {text : List ℕ} {at end : ℕ} (l : InLine text at end) where
  no_size : plain_size (field_at (take end text) at) ≡ none → SizeRead (take end text) at None
  unfolding SizeRead
  no_size q = none-refused 3 q

  size-starts-low : get_or text at 0 ≤ 48 → SizeRead (take end text) at None
  size-starts-low low = elim (dec_lt at end) [
    | yes h ↦ no_size (size_low (take end text) at (omega (arith, cut-length l)) (rw (cut-byte l h) low))
    | no h ↦ no_size (size-empty (take end text) at (omega (arith, cut-length l)))
  ]

  module _ (high : 48 < get_or text at 0) where
    inside : at < end
    inside = before-end l (λ e. omega arith)

    starts : plain_size (field_at (take end text) at) ≡ digits_after 0 (field_at (take end text) at)
    starts = size-digits (take end text) at (omega (arith, cut-length l, inside)) (rw (cut-byte l inside) high)

    size-starts-high : 57 < get_or text at 0 → SizeRead (take end text) at None
    size-starts-high over =
        let byte = cut-byte l inside in
        no_size (starts ∙ digits-not (take end text) at 0 (omega (arith, cut-length l, inside)) (rw byte (digit-above _ over)) (rw byte (λ e. omega arith)))

  -- no digit above 0 stands first
  pub no_first : (get_or text at 0 < 49) ⊎ (57 < get_or text at 0) → SizeRead (take end text) at None
  no_first = ⊎_elim (λ low. size-starts-low (omega arith)) (λ high. size-starts-high (omega arith) high)

-- ---- the digits before i spell n

pub record Sizing (text : List ℕ) (at end n i : ℕ) : Type 0 where
  pub place : InLine text i end
  pub later : at < i
  pub searched : Searched 9 (take end text) at i
  pub long : DigitsLong n (i - at)
  pub left : plain_size (field_at (take end text) at) ≡ digits_after n (field_at (take end text) i)

-- a digit at i: it is none of the bytes that end a field or a line
module _ {text : List ℕ} {i end : ℕ} (l : InLine text i end) (digit : is_digit (get_or text i 0) ≡ true) where
  bounds : (48 ≤ get_or text i 0) × (get_or text i 0 ≤ 57)
  bounds = digit-bounds (get_or text i 0) digit

  digit-inside : i < end
  digit-inside = before-end l (λ e. omega (arith, bounds.0))

  digit-next : InLine text (i + 1) end
  digit-next = place-next l (λ e. omega (arith, bounds.0))

  digit-searched : {at : ℕ} → Searched 9 (take end text) at i → Searched 9 (take end text) at (i + 1)
  digit-searched s = search-past s (omega (arith, cut-length l, digit-inside)) (rw (cut-byte l digit-inside) (λ e. omega (arith, bounds.0))) refl

  digit-left : (n : ℕ) → digits_after n (field_at (take end text) i) ≡ digits_after (10 * n + (get_or text i 0 - 48)) (field_at (take end text) (i + 1))
  digit-left n =
      let byte = cut-byte l digit-inside in
      rw byte at (digits-next (take end text) i n (omega (arith, cut-length l, digit-inside)) (rw byte digit))

pub sizing-start : {text : List ℕ} {at end : ℕ} → InLine text at end → 48 < get_or text at 0 → get_or text at 0 ≤ 57 → Sizing text at end (get_or text at 0 - 48) (at + 1)
sizing-start {text} {at} {end} l low high =
    let digit = digit-is (get_or text at 0) (omega arith) high in
    let e : 10 * 0 + (get_or text at 0 - 48) ≡ get_or text at 0 - 48 = omega arith in
    record {
      place = digit-next l digit;
      later = omega arith;
      searched = digit-searched l digit (record { low = omega arith; high = omega (arith, cut-length l, digit-inside l digit); same = refl });
      long = one-digit (omega arith) (omega arith) (omega arith);
      left = starts l low ∙ (rw e at (digit-left l digit 0));
    }

module _ {text : List ℕ} {at end n i : ℕ} (s : Sizing text at end n i) where
  pub sizing-next : is_digit (get_or text i 0) ≡ true → Sizing text at end (10 * n + (get_or text i 0 - 48)) (i + 1)
  sizing-next digit =
      let high = (bounds s.place digit).1 in record {
        place = digit-next s.place digit;
        later = omega (arith, s.later);
        searched = digit-searched s.place digit s.searched;
        long = digit-longer s.long (omega (arith, high)) (omega (arith, s.later));
        left = s.left ∙ digit-left s.place digit n;
      }

  none_left : digits_after n (field_at (take end text) i) ≡ none → SizeRead (take end text) at None
  unfolding SizeRead
  none_left q = none-refused 3 (s.left ∙ q)

  pub sizing-most : is_digit (get_or text i 0) ≡ true → 10 ≤ i - at → SizeRead (take end text) at None
  sizing-most digit full = none_left (digit-left s.place digit n ∙ digits-over _ _ (digits-most (get_or text i 0 - 48) s.long full))

  sizing-over : largest < n → SizeRead (take end text) at None
  sizing-over over = none_left (digits-over n _ over)

  sizing-end : n ≤ largest → (get_or text i 0 ≡ 9) ⊎ (get_or text i 0 ≡ 10) → SizeRead (take end text) at (Some (record { value = n; end = i }))
  unfolding SizeRead
  sizing-end small stop =
      let here = field-ends s.place stop in (
        s.left ∙ digits-end (take end text) i n here small,
        search-stop s.searched here,
      )

  sizing-stop : is_digit (get_or text i 0) ≡ false → (get_or text i 0 ≡ 9 → ⊥) → (get_or text i 0 ≡ 10 → ⊥) → SizeRead (take end text) at None
  sizing-stop no_digit no-tab no_end =
      let h = before-end s.place no_end in
      let byte = cut-byte s.place h in
      none_left (digits-not (take end text) i n (omega (arith, cut-length s.place, h)) (rw byte no_digit) (rw byte no-tab))

  -- after the digits: a small size where the field ends here
  pub sizing-last : (t : Bool) → is_digit (get_or text i 0) ≡ false → (largest < n → t ≡ false)
      → (n ≤ largest → t ≡ (eqb (get_or text i 0) 9 || eqb (get_or text i 0) 10)) → SizeRead (take end text) at (then_some t (record { value = n; end = i }))
  sizing-last t no_digit over small = elim (dec_lt largest n) [
    | yes h ↦ rw (over h) (sizing-over h)
    | no h ↦ at_end t (omega arith) (small (omega arith))
  ]
    where
      at_end : (t : Bool) → n ≤ largest → t ≡ (eqb (get_or text i 0) 9 || eqb (get_or text i 0) 10)
          → SizeRead (take end text) at (then_some t (record { value = n; end = i }))
      at_end true h q = sizing-end h (ends-field _ (sym q))
      at_end false h q = let stop = no-field-end _ (sym q) in sizing-stop no_digit stop.0 stop.1
