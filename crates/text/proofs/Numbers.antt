-- Laws of the number reader: one byte of its digits, its early refusals against the definition's one test at the end, the sign, and
-- bytes that are read as one field though a tab may be among them.
use mathlib.Core.Path.{◌≡◌, refl, ◌∙◌, ap}
use mathlib.Core.Bool.{Bool, true, false, cond, ◌&&◌, and-false}
use mathlib.Core.List.{List, [], ◌∷◌}
use mathlib.Core.Option.{Option, none, some, none-ne-some}
use Prim.Native.Nat.{ℕ, zero, suc, ◌+◌, ◌*◌, ◌-◌, ◌≤◌, ◌<◌}
use native.Mathlib.Decide.{dec_lt}
use native.Mathlib.Omega.{arith}
use borrow.Author.Tests.{le-leb, lt-leb, ne_eqb, leb-true, eqb-true, eqb-false}
use lib.Dec.{leb, eqb}
use lib.IntN.{ℤ, pos, negsuc, neg_ℤ, nat_abs, ◌-ℤ◌, +ℤ_idl}
use lib.ListN.{length, get_or, drop}
use mir.Syntax.{w64}
use mir.Val.{SFits, to_z, of_z}
use mir.ValLaws.{to_z_pos, to_z-of_z}
use Rattle.std.specs.Char.{is_ascii_digit}
use Rattle.meaning.specs.Text.{same_bytes, is_digit, all_digits, decimal, is_plain, largest, sized, number}
use Rattle.meaning.proofs.Results.{none-refused, refused_none}
use Rattle.std.specs.Prelude.{Option as Answer, Some, None}
use Rattle.text.specs.declared.Field.{Field}
use Rattle.text.specs.Number.{plain_size, SizeRead, NumberSpelled, NumberYield}
use Rattle.text.specs.Place.{index_of, Found, field_at}
use Rattle.text.proofs.Places.{index-past, index-end, found-next, field-empty, field-byte, field-more}

-- ---- a digit

module _ (x : ℕ) where
  pub digit-from : 48 ≤ x → is_digit x ≡ leb x 57
  unfolding is_digit
  digit-from low = simp (le-leb 48 x low)

  pub digit-is : 48 ≤ x → x ≤ 57 → is_digit x ≡ true
  digit-is low high = digit-from low ∙ le-leb x 57 high

  pub digit-above : 57 < x → is_digit x ≡ false
  digit-above high = digit-from (omega arith) ∙ lt-leb x 57 high

  pub ascii-digit : is_digit x ≡ is_ascii_digit x
  unfolding is_digit
  ascii-digit = refl

  digit_at : (t u : Bool) → leb 48 x ≡ t → leb x 57 ≡ u → t && u ≡ true → (48 ≤ x) × (x ≤ 57)
  digit_at true true p q both = (leb-true 48 x p, leb-true x 57 q)
  digit_at true false p q both = let z : ◌≡◌ {A = ℕ} 0 1 = cc in absurd (omega arith)
  digit_at false u p q both = let z : ◌≡◌ {A = ℕ} 0 1 = cc in absurd (omega arith)

  pub digit-bounds : is_digit x ≡ true → (48 ≤ x) × (x ≤ 57)
  unfolding is_digit
  digit-bounds q = digit_at _ _ refl refl q

-- ---- one byte of the digits left at a place

-- the number that these bytes spell after digits that spelled n: what the loop over the digits has left to read
unfoldable pub digits_after : ℕ → List ℕ → Option ℕ
digits_after n xs = cond (all_digits xs && leb (decimal n xs) largest) (some (decimal n xs)) none

module _ (line : List ℕ) (i n : ℕ) where
  pub digits-end : index_of 9 (drop i line) ≡ 0 → n ≤ largest → digits_after n (field_at line i) ≡ some n
  unfolding digits_after all_digits decimal
  digits-end q small = rw (field-empty line i q) (simp (le-leb _ _ small))

  module _ (h : i < length line) where
    pub digits-not : is_digit (get_or line i 0) ≡ false → (get_or line i 0 ≡ 9 → ⊥) → digits_after n (field_at line i) ≡ none
    unfolding digits_after all_digits
    digits-not no_digit no-tab = rw (field-more line i h no-tab) (simp no_digit)

    pub digits-next : is_digit (get_or line i 0) ≡ true → digits_after n (field_at line i) ≡ digits_after (10 * n + (get_or line i 0 - 48)) (field_at line (i + 1))
    unfolding digits_after all_digits decimal
    digits-next digit = let bounds = digit-bounds (get_or line i 0) digit in rw (field-more line i h (λ e. omega arith)) (simp digit)

-- a number only grows with its digits: one that is too large already stays so
decimal-grows : (n : ℕ) (xs : List ℕ) → n ≤ decimal n xs
unfolding decimal
decimal-grows n [] = omega arith
decimal-grows n (x ∷ xs) = omega (arith, decimal-grows (10 * n + (x - 48)) xs)

pub digits-over : (n : ℕ) (xs : List ℕ) → largest < n → digits_after n xs ≡ none
unfolding digits_after
digits-over n xs h = rw (lt-leb (decimal n xs) largest (omega (arith, decimal-grows n xs)), and-false (all_digits xs))

-- ---- a size: a law for each way in and out of `size_from`

-- a size starts with a digit above 0: with no byte up to 48, and with no tab, which would leave no byte at all
size-low-at : (is-tab is_zero : Bool) (x : ℕ) (xs : List ℕ) → eqb x 48 ≡ is_zero → x ≤ 48 → plain_size (cond is-tab [] (x ∷ xs)) ≡ none
unfolding plain_size is_plain all_digits is_digit
size-low-at true is_zero x xs q low = refl
size-low-at false true x xs q low = rw q
size-low-at false false x xs q low = rw q (simp (lt-leb 48 x (omega (arith, eqb-false x 48 q))))

module _ (line : List ℕ) (at : ℕ) where
  pub size-empty : length line ≤ at → plain_size (field_at line at) ≡ none
  unfolding plain_size is_plain
  size-empty h = rw (field-empty line at (index-end 9 line at h))

  module _ (h : at < length line) where
    pub size_low : get_or line at 0 ≤ 48 → plain_size (field_at line at) ≡ none
    size_low low = rw (field-byte line at h) (size-low-at (eqb (get_or line at 0) 9) _ _ (field_at line (at + 1)) refl low)

    pub size-digits : 48 < get_or line at 0 → plain_size (field_at line at) ≡ digits_after 0 (field_at line at)
    unfolding plain_size digits_after is_plain
    size-digits high = rw (field-more line at h (λ e. omega arith)) (simp (ne_eqb (get_or line at 0) 48 (λ e. omega arith)))

small_at : (plain small : Bool) (m n : ℕ) → leb m largest ≡ small → cond (plain && small) (some m) none ≡ some n → n ≤ largest
small_at true true m n p q = let e : m ≡ n = cc in omega (arith, leb-true m largest p)
small_at true false m n p q = absurd (none-ne-some _ q)
small_at false small m n p q = absurd (none-ne-some _ q)

plain-small : (xs : List ℕ) (n : ℕ) → plain_size xs ≡ some n → n ≤ largest
unfolding plain_size
plain-small xs n q = small_at (is_plain xs) (leb (decimal 0 xs) largest) (decimal 0 xs) n refl q

-- ---- the sign, as the machine makes it

sfits_pos : (n : ℕ) → n ≤ largest → SFits w64 (pos n)
sfits_pos n h = record { sfits = omega arith }

sfits_neg : (n : ℕ) → n ≤ largest → SFits w64 (neg_ℤ (pos n))
sfits_neg zero h = record { sfits = omega arith }
sfits_neg (suc n) h = record { sfits = omega arith }

minus_is : (n : ℕ) → n ≤ largest → pos 0 -ℤ to_z w64 n ≡ neg_ℤ (pos n)
minus_is n h = rw (to_z_pos w64 n (omega arith)) (+ℤ_idl (neg_ℤ (pos n)))

sized-at : (t : Bool) (n : ℕ) (sign : ℕ → ℤ) (m : ℕ) → cond t (some n) none ≡ some m → cond t (some (sign n)) none ≡ some (sign m)
sized-at true n sign m q = let e : n ≡ m = cc in ap (λ (x : ℕ). some (sign x)) e
sized-at false n sign m q = cc

sized-none-at : (t : Bool) (n : ℕ) (sign : ℕ → ℤ) → cond t (some n) none ≡ none → cond t (some (sign n)) none ≡ none
sized-none-at true n sign q = cc
sized-none-at false n sign q = refl

-- what `size_from` answered, as the definition asks it
module _ (line : List ℕ) (at : ℕ) {r : Answer (Field ℕ)} (read : SizeRead line at r) where
  size-is-none : r ≡ None → plain_size (field_at line at) ≡ none
  unfolding SizeRead
  size-is-none q = refused_none 3 _ (rw q at read)

  sized-none : (sign : ℕ → ℤ) → r ≡ None → sized (field_at line at) sign ≡ none
  unfolding sized plain_size
  sized-none sign q =
      let xs = field_at line at in sized-none-at (is_plain xs && leb (decimal 0 xs) largest) (decimal 0 xs) sign (size-is-none q)

  module _ {f : Field ℕ} (q : r ≡ Some f) where
    size_is : plain_size (field_at line at) ≡ some f.value
    unfolding SizeRead
    size_is = (rw q at read).0

    size-ends : Found 9 line at f.end
    unfolding SizeRead
    size-ends = (rw q at read).1

    sized-is : (sign : ℕ → ℤ) → sized (field_at line at) sign ≡ some (sign f.value)
    unfolding sized plain_size
    sized-is sign = let xs = field_at line at in sized-at (is_plain xs && leb (decimal 0 xs) largest) (decimal 0 xs) sign f.value size_is

    size_small : f.value ≤ largest
    size_small = plain-small (field_at line at) f.value size_is

    pub size_fits : SFits w64 (pos f.value)
    size_fits = sfits_pos f.value size_small

    pub size-fits-minus : SFits w64 (pos 0 -ℤ to_z w64 f.value)
    size-fits-minus = rw (minus_is f.value size_small) (sfits_neg f.value size_small)

-- ---- the sign that the first byte says

number-zero-more : (xs : List ℕ) → (length xs ≡ 0 → ⊥) → number (48 ∷ xs) ≡ none
unfolding number same_bytes sized is_plain
number-zero-more [] more = absurd (more refl)
number-zero-more (x ∷ xs) more = refl

number-minus-is : (xs : List ℕ) → number (45 ∷ xs) ≡ sized xs (λ n. neg_ℤ (pos n))
unfolding number same_bytes
number-minus-is xs = refl

-- at a tab there is no byte, and no number either way
number-plain-at : (is-tab : Bool) (x : ℕ) (xs : List ℕ) → (x ≡ 48 → ⊥) → (x ≡ 45 → ⊥)
    → number (cond is-tab [] (x ∷ xs)) ≡ sized (cond is-tab [] (x ∷ xs)) pos
unfolding number same_bytes sized is_plain
number-plain-at true x xs no_zero no_minus = refl
number-plain-at false x xs no_zero no_minus = simp (ne_eqb x 48 no_zero, ne_eqb x 45 no_minus)

-- ---- a number: a law for each way out of `number_at`

module _ (line : List ℕ) (at : ℕ) where
  module _ (h : at < length line) where
    module _ (zero-byte : get_or line at 0 ≡ 48) where
      zero_more : field_at line at ≡ 48 ∷ field_at line (at + 1)
      zero_more = field-more line at h (λ e. omega arith) ∙ rw zero-byte

      pub zero_number : index_of 9 (drop (at + 1) line) ≡ 0 → NumberYield line at (Some (record { value = pos 0; end = at + 1 }))
      unfolding NumberSpelled number same_bytes
      zero_number q = (
        rw (zero_more, field-empty line (at + 1) q),
        record { low = omega arith; high = omega arith; is = omega (arith, q, index-past 9 line at h (λ e. omega arith)) },
      )

      pub zero-none : (length (field_at line (at + 1)) ≡ 0 → ⊥) → NumberYield line at None
      unfolding NumberSpelled
      zero-none more = none-refused 3 (rw zero_more (number-zero-more (field_at line (at + 1)) more))

    module _ (minus : get_or line at 0 ≡ 45) where
      minus-sized : number (field_at line at) ≡ sized (field_at line (at + 1)) (λ n. neg_ℤ (pos n))
      minus-sized = rw (field-more line at h (λ e. omega arith), minus) (number-minus-is (field_at line (at + 1)))

      module _ {r : Answer (Field ℕ)} (read : SizeRead line (at + 1) r) where
        pub minus-none : r ≡ None → NumberYield line at None
        unfolding NumberSpelled
        minus-none q = none-refused 3 (minus-sized ∙ sized-none line (at + 1) read _ q)

        pub minus_number : {f : Field ℕ} → r ≡ Some f → NumberYield line at (Some (record { value = to_z w64 (of_z w64 (pos 0 -ℤ to_z w64 f.value)); end = f.end }))
        unfolding NumberSpelled
        minus_number {f} q =
            let n = f.value in
            let small = size_small line (at + 1) read q in (
              rw (minus_is n small, to_z-of_z w64 (neg_ℤ (pos n)) (sfits_neg n small)) (minus-sized ∙ sized-is line (at + 1) read q _),
              found-next 9 line at h (λ e. omega arith) (size-ends line (at + 1) read q),
            )

  module _ (no_zero : at < length line → get_or line at 0 ≡ 48 → ⊥) (no_minus : at < length line → get_or line at 0 ≡ 45 → ⊥) where
    -- where no byte is left there is no number either way
    plain-sized : number (field_at line at) ≡ sized (field_at line at) pos
    unfolding number sized is_plain
    plain-sized = elim (dec_lt at (length line)) [
      | yes h ↦ rw (field-byte line at h) (number-plain-at (eqb (get_or line at 0) 9) _ (field_at line (at + 1)) (no_zero h) (no_minus h))
      | no h ↦ rw (field-empty line at (index-end 9 line at (omega arith)))
    ]

    module _ {r : Answer (Field ℕ)} (read : SizeRead line at r) where
      pub plain-none : r ≡ None → NumberYield line at None
      unfolding NumberSpelled
      plain-none q = none-refused 3 (plain-sized ∙ sized-none line at read _ q)

      pub plain-number : {f : Field ℕ} → r ≡ Some f → NumberYield line at (Some (record { value = to_z w64 f.value; end = f.end }))
      unfolding NumberSpelled
      plain-number {f} q =
          let small = size_small line at read q in
          (rw (to_z_pos w64 f.value (omega arith)) (plain-sized ∙ sized-is line at read q _), size-ends line at read q)

-- what `number_at` and `number_of` answered
module _ (bytes : List ℕ) (Ends : ℕ → Type 0) {r : Answer (Field ℤ)} (read : NumberSpelled bytes Ends r) where
  pub number-is-none : r ≡ None → number bytes ≡ none
  unfolding NumberSpelled
  number-is-none q = refused_none 3 _ (rw q at read)

  module _ {f : Field ℤ} (q : r ≡ Some f) where
    pub number_is : number bytes ≡ some f.value
    unfolding NumberSpelled
    number_is = (rw q at read).0

    pub number-ends : Ends f.end
    unfolding NumberSpelled
    number-ends = (rw q at read).1

-- ---- bytes with a tab among them are no number

tab-digits-at : (is-tab : Bool) (x : ℕ) (xs : List ℕ) → eqb x 9 ≡ is-tab → (index_of 9 xs < length xs → all_digits xs ≡ false)
    → cond is-tab 0 (suc (index_of 9 xs)) < suc (length xs) → is_digit x && all_digits xs ≡ false
unfolding is_digit
tab-digits-at true x xs q later h = rw (eqb-true x 9 q)
tab-digits-at false x xs q later h = rw (later (omega arith)) (and-false (is_digit x))

tab-digits : (xs : List ℕ) → index_of 9 xs < length xs → all_digits xs ≡ false
unfolding index_of all_digits
tab-digits [] h = let z : ⊥ = omega arith in absurd z
tab-digits (x ∷ xs) h = tab-digits-at _ x xs refl (tab-digits xs) h

tab-sized : (xs : List ℕ) (sign : ℕ → ℤ) → index_of 9 xs < length xs → sized xs sign ≡ none
unfolding sized is_plain
tab-sized [] sign h = refl
tab-sized (x ∷ xs) sign h = rw (tab-digits (x ∷ xs) h) (simp and-false)

tab-number-at : (is_zero is-minus : Bool) (x : ℕ) (xs : List ℕ) → eqb x 48 ≡ is_zero → eqb x 45 ≡ is-minus → index_of 9 (x ∷ xs) < length (x ∷ xs)
    → number (x ∷ xs) ≡ none
unfolding index_of
tab-number-at true is-minus x xs z m h =
    let e = eqb-true x 48 z in let later = rw e at h in rw e (number-zero-more xs (λ none_left. omega arith))
tab-number-at false true x xs z m h =
    let e = eqb-true x 45 m in let later = rw e at h in rw e (number-minus-is xs ∙ tab-sized xs _ (omega arith))
tab-number-at false false x xs z m h = number-plain-at false x xs (eqb-false x 48 z) (eqb-false x 45 m) ∙ tab-sized (x ∷ xs) pos h

pub tab-number : (xs : List ℕ) → index_of 9 xs < length xs → number xs ≡ none
unfolding number
tab-number [] h = refl
tab-number (x ∷ xs) h = tab-number-at _ _ x xs refl refl h

-- ---- no number is larger than the limit

sized-small-at : (plain small : Bool) (m : ℕ) (sign : ℕ → ℤ) (z : ℤ) → nat_abs (sign m) ≡ m → leb m largest ≡ small
    → cond (plain && small) (some (sign m)) none ≡ some z → nat_abs z ≤ largest
sized-small-at true true m sign z size p q = let e : sign m ≡ z = cc in rw (← e) (omega (arith, leb-true m largest p))
sized-small-at true false m sign z size p q = absurd (none-ne-some _ q)
sized-small-at false small m sign z size p q = absurd (none-ne-some _ q)

sized-small : (xs : List ℕ) (sign : ℕ → ℤ) (z : ℤ) → ((n : ℕ) → nat_abs (sign n) ≡ n) → sized xs sign ≡ some z → nat_abs z ≤ largest
unfolding sized
sized-small xs sign z size q = sized-small-at (is_plain xs) (leb (decimal 0 xs) largest) (decimal 0 xs) sign z (size (decimal 0 xs)) refl q

minus-size : (n : ℕ) → nat_abs (neg_ℤ (pos n)) ≡ n
minus-size zero = refl
minus-size (suc n) = refl

signed-small : (zero-text minus-text : Bool) (minus plain : Option ℤ) (z : ℤ) → (minus ≡ some z → nat_abs z ≤ largest)
    → (plain ≡ some z → nat_abs z ≤ largest) → cond zero-text (some (pos 0)) (cond minus-text minus plain) ≡ some z → nat_abs z ≤ largest
signed-small true minus-text minus plain z m p q = let e : pos 0 ≡ z = cc in rw (← e) (omega arith)
signed-small false true minus plain z m p q = m q
signed-small false false minus plain z m p q = p q

pub number_small : (field : List ℕ) {z : ℤ} → number field ≡ some z → nat_abs z ≤ largest
unfolding number
number_small [] q = absurd (none-ne-some _ q)
number_small (x ∷ xs) {z} q =
    let minus : ℕ → ℤ = λ n. neg_ℤ (pos n) in
    signed-small (same_bytes (x ∷ xs) (48 ∷ [])) (eqb x 45) (sized xs minus) (sized (x ∷ xs) pos) z
    (sized-small xs minus z minus-size) (sized-small (x ∷ xs) pos z (λ n. refl)) q

-- so that each fits a machine word
pub small-fits : (z : ℤ) → nat_abs z ≤ largest → SFits w64 z
small-fits (pos n) h = record { sfits = omega arith }
small-fits (negsuc n) h = record { sfits = omega arith }
