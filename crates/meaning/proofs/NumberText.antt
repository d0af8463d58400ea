-- A number as it is written and as it is read, each undone by the other: the digits of a number spell it, a number whose size is allowed is read back
-- from its text, one of a greater size is read from none, and a field that is a number is that number's text. FORMAT 2.5, 2.6, 2.9
use mathlib.Core.Path.{◌≡◌, refl, sym, ap, ◌∙◌}
use mathlib.Core.Bool.{Bool, true, false, cond, ◌&&◌, not, and-false}
use mathlib.Core.List.{List, [], ◌∷◌, ◌++◌, append_assoc, append-nil}
use mathlib.Core.Option.{none, some, none-ne-some, some-injective}
use Prim.Native.Nat.{ℕ, zero, suc, ◌+◌, ◌*◌, ◌-◌, ◌/◌, ◌%◌, ◌≤◌, ◌<◌}
use native.Mathlib.Omega.{arith}
use borrow.Author.Tests.{ltb-true, ltb-false}
use lib.Dec.{T, leb, ltb, eqb, eqb→eq}
use lib.IntN.{ℤ, pos, negsuc, neg_ℤ, nat_abs}
use Rattle.algebra.proofs.Test.{both, left, right, test-≡, leb-iff, false-leb, false-test, false-eqb, cond_cases}
use Rattle.meaning.specs.Text.{same_bytes, is_digit, all_digits, decimal, is_plain, largest, sized, number, decimal_before, decimal_of, number_text}
use Rattle.meaning.proofs.Decimal.{decimal-short, decimal-long}
use Rattle.meaning.proofs.Words.{same-spelled}

-- ---- the number of a number's digits

decimal-append : (m : ℕ) (xs ys : List ℕ) → decimal m (xs ++ ys) ≡ decimal (decimal m xs) ys
unfolding decimal
decimal-append m [] ys = refl
decimal-append m (x ∷ xs) ys = decimal-append (10 * m + (x - 48)) xs ys

digits_append : (xs ys : List ℕ) → T (all_digits xs) → T (all_digits ys) → T (all_digits (xs ++ ys))
unfolding all_digits
digits_append [] ys h k = k
digits_append (x ∷ xs) ys h k =
    both (is_digit x) (all_digits (xs ++ ys)) (left (is_digit x) (all_digits xs) h) (digits_append xs ys (right (is_digit x) (all_digits xs) h) k)

digit-is : (d : ℕ) → d < 10 → T (is_digit (48 + d))
unfolding is_digit
digit-is d h = both (leb 48 (48 + d)) (leb (48 + d) 57) ((leb-iff 48 (48 + d)).1 (omega arith)) ((leb-iff (48 + d) 57).1 (omega arith))

-- a test that is not passed
not_at : (c : Bool) → T (not c) → c ≡ false
not_at true h = absurd h
not_at false h = refl

one-digit : (d : ℕ) → d < 10 → T (all_digits ((48 + d) ∷ []))
unfolding all_digits
one-digit d h = both (is_digit (48 + d)) true (digit-is d h) tt

-- the digits of n are digits, spell n, and start with one above 0 where n is above 0
pub record Spells (n : ℕ) (xs : List ℕ) : Type 0 where
  pub digits : T (all_digits xs)
  pub number : decimal 0 xs ≡ n
  pub plain : 0 < n → T (is_plain xs)

plain-append : (xs ys : List ℕ) → T (is_plain xs) → T (all_digits ys) → T (is_plain (xs ++ ys))
unfolding is_plain
plain-append [] ys h k = absurd h
plain-append (x ∷ xs) ys h k =
    both (not (eqb x 48)) (all_digits (x ∷ (xs ++ ys))) (left (not (eqb x 48)) (all_digits (x ∷ xs)) h)
    (digits_append (x ∷ xs) ys (right (not (eqb x 48)) (all_digits (x ∷ xs)) h) k)

spells_at : (t : Bool) (n : ℕ) → ltb n 10 ≡ t → (10 ≤ n → Spells (n / 10) (decimal_of (n / 10))) → Spells n (decimal_of n)
unfolding decimal is_plain all_digits
spells_at true n q later =
    let h : n < 10 = ltb-true n 10 q in
    rw (decimal-short n h) (record {
      digits = one-digit n h;
      number = omega arith;
      plain = λ k. both (not (eqb (48 + n) 48)) (all_digits ((48 + n) ∷ [])) (false-test (eqb (48 + n) 48) (false-eqb (48 + n) 48 (λ e. omega arith))) (one-digit n h);
    })
spells_at false n q later =
    let h : 10 ≤ n = ltb-false n 10 q in
    let s : Spells (n / 10) (decimal_of (n / 10)) = later h in
    let d : ℕ = 48 + n % 10 in
    let one : T (all_digits (d ∷ [])) = one-digit (n % 10) (omega arith) in
    rw (decimal-long n h) (record {
      digits = digits_append (decimal_of (n / 10)) (d ∷ []) s.digits one;
      number = decimal-append 0 (decimal_of (n / 10)) (d ∷ []) ∙ rw s.number (omega arith);
      plain = λ k. plain-append (decimal_of (n / 10)) (d ∷ []) (s.plain (omega arith)) one;
    })

spells-within : (b n : ℕ) → n < b → Spells n (decimal_of n)
spells-within zero n h = absurd (omega arith)
spells-within (suc b) n h = spells_at (ltb n 10) n refl (λ l. spells-within b (n / 10) (omega arith))

pub spells : (n : ℕ) → Spells n (decimal_of n)
spells n = spells-within (suc n) n (omega arith)

-- ---- the digits of the number that digits spell

digit-bounds : (x : ℕ) → T (is_digit x) → (48 ≤ x) × (x ≤ 57)
unfolding is_digit
digit-bounds x t = ((leb-iff 48 x).0 (left (leb 48 x) (leb x 57) t), (leb-iff x 57).0 (right (leb 48 x) (leb x 57) t))

decimal-more : (m : ℕ) (xs : List ℕ) → 0 < m → T (all_digits xs) → decimal_of (decimal m xs) ≡ decimal_of m ++ xs
unfolding decimal all_digits
decimal-more m [] h t = sym (append-nil (decimal_of m))
decimal-more m (x ∷ xs) h t =
    let b = digit-bounds x (left (is_digit x) (all_digits xs) t) in
    let n : ℕ = 10 * m + (x - 48) in
    let q : n / 10 ≡ m = omega arith in
    let r : 48 + n % 10 ≡ x = omega arith in
    let more : decimal_of n ≡ decimal_of m ++ x ∷ [] = decimal-long n (omega arith) ∙ rw (q, r) in
    decimal-more n xs (omega arith) (right (is_digit x) (all_digits xs) t)
    ∙ ap (λ (ds : List ℕ). ds ++ xs) more ∙ append_assoc (decimal_of m) (x ∷ []) xs

apart : (y : ℕ) → eqb y 48 ≡ false → (y ≡ 48 → ⊥)
apart y e q = let z : eqb y 48 ≡ true = rw q refl in let w : ◌≡◌ {A = ℕ} 0 1 = cc in omega arith

grows : (k : ℕ) (ys : List ℕ) → 0 < k → 0 < decimal k ys
unfolding decimal
grows k [] h = h
grows k (y ∷ ys) h = grows (10 * k + (y - 48)) ys (omega arith)

first-digit : (x : ℕ) (xs : List ℕ) → decimal 0 (x ∷ xs) ≡ decimal (x - 48) xs
unfolding decimal
first-digit x xs = let m : 10 * 0 + (x - 48) ≡ x - 48 = omega arith in ap (λ (k : ℕ). decimal k xs) m

pub plain-spelled : (xs : List ℕ) → T (is_plain xs) → (decimal_of (decimal 0 xs) ≡ xs) × (0 < decimal 0 xs)
unfolding is_plain all_digits
plain-spelled [] t = absurd t
plain-spelled (x ∷ xs) t =
    let digits = right (not (eqb x 48)) (is_digit x && all_digits xs) t in
    let b = digit-bounds x (left (is_digit x) (all_digits xs) digits) in
    let e : eqb x 48 ≡ false = not_at (eqb x 48) (left (not (eqb x 48)) (is_digit x && all_digits xs) t) in
    let above : 48 < x = omega (arith, b.0, apart x e) in
    let back : 48 + (x - 48) ≡ x = omega arith in
    let first : decimal_of (x - 48) ≡ x ∷ [] = decimal-short (x - 48) (omega (arith, b.1)) ∙ rw back in
    let step : decimal 0 (x ∷ xs) ≡ decimal (x - 48) xs = first-digit x xs in (
      rw step (decimal-more (x - 48) xs (omega arith) (right (is_digit x) (all_digits xs) digits) ∙ ap (λ (ds : List ℕ). ds ++ xs) first),
      rw step (grows (x - 48) xs (omega arith)),
    )

-- ---- a number

sized-plain : (xs : List ℕ) (sign : ℕ → ℤ) (n : ℕ) → T (is_plain xs) → decimal 0 xs ≡ n → n ≤ largest → sized xs sign ≡ some (sign n)
unfolding sized
sized-plain xs sign n p e h = rw (e, test-≡ (is_plain xs) p, test-≡ (leb n largest) ((leb-iff n largest).1 h))

sized-over : (xs : List ℕ) (sign : ℕ → ℤ) (n : ℕ) → decimal 0 xs ≡ n → largest < n → sized xs sign ≡ none
unfolding sized
sized-over xs sign n e h = rw (e, false-leb n largest h, and-false (is_plain xs))

-- bytes that start with a digit above 0 are read by their size
plain-number : (xs : List ℕ) → T (is_plain xs) → number xs ≡ sized xs pos
unfolding number is_plain same_bytes all_digits is_digit
plain-number [] p = absurd p
plain-number (x ∷ xs) p =
    let no_zero : eqb x 48 ≡ false = not_at (eqb x 48) (left (not (eqb x 48)) (is_digit x && all_digits xs) p) in
    let low : 48 ≤ x = (leb-iff 48 x).0 (left (leb 48 x) (leb x 57) (left (is_digit x) (all_digits xs) (right (not (eqb x 48)) (is_digit x && all_digits xs) p))) in
    let no_minus : eqb x 45 ≡ false = false-eqb x 45 (λ e. omega arith) in
    rw (no_zero, no_minus) refl

minus_number : (xs : List ℕ) → number (45 ∷ xs) ≡ sized xs (λ n. neg_ℤ (pos n))
unfolding number same_bytes
minus_number xs = refl

zero-text : number_text (pos 0) ≡ 48 ∷ []
unfolding number_text decimal_of decimal_before
zero-text = refl

zero_number : number (48 ∷ []) ≡ some (pos 0)
unfolding number same_bytes
zero_number = refl

pub number_read : (z : ℤ) → nat_abs z ≤ largest → number (number_text z) ≡ some z
unfolding number_text
number_read (pos zero) h = ap number zero-text ∙ zero_number
number_read (pos (suc n)) h =
    let s = spells (suc n) in
    let p = s.plain (omega arith) in
    plain-number (decimal_of (suc n)) p ∙ sized-plain (decimal_of (suc n)) pos (suc n) p s.number h
number_read (negsuc n) h =
    let s = spells (suc n) in
    minus_number (decimal_of (suc n)) ∙ sized-plain (decimal_of (suc n)) (λ m. neg_ℤ (pos m)) (suc n) (s.plain (omega arith)) s.number h

pub number-over : (z : ℤ) → largest < nat_abs z → number (number_text z) ≡ none
unfolding number_text
number-over (pos zero) h = absurd (omega arith)
number-over (pos (suc n)) h =
    let s = spells (suc n) in
    plain-number (decimal_of (suc n)) (s.plain (omega arith)) ∙ sized-over (decimal_of (suc n)) pos (suc n) s.number h
number-over (negsuc n) h =
    let s = spells (suc n) in
    minus_number (decimal_of (suc n)) ∙ sized-over (decimal_of (suc n)) (λ m. neg_ℤ (pos m)) (suc n) s.number h

-- what a size that is read says of its bytes
sized-at : (a b : Bool) (n : ℕ) (sign : ℕ → ℤ) (z : ℤ) → cond (a && b) (some (sign n)) none ≡ some z → T a × (sign n ≡ z)
sized-at true true n sign z e = (tt, some-injective _ _ e)
sized-at true false n sign z e = absurd (none-ne-some _ e)
sized-at false b n sign z e = absurd (none-ne-some _ e)

sized-is : (xs : List ℕ) (sign : ℕ → ℤ) (z : ℤ) → sized xs sign ≡ some z → T (is_plain xs) × (sign (decimal 0 xs) ≡ z)
unfolding sized
sized-is xs sign z e = sized-at (is_plain xs) (leb (decimal 0 xs) largest) (decimal 0 xs) sign z e

minus-text : (n : ℕ) → 0 < n → number_text (neg_ℤ (pos n)) ≡ 45 ∷ decimal_of n
unfolding number_text
minus-text zero h = absurd (omega arith)
minus-text (suc n) h = refl

plus-text : (n : ℕ) → number_text (pos n) ≡ decimal_of n
unfolding number_text
plus-text n = refl

written-minus : (xs : List ℕ) (z : ℤ) → sized xs (λ n. neg_ℤ (pos n)) ≡ some z → number_text z ≡ 45 ∷ xs
written-minus xs z e =
    let s = sized-is xs (λ n. neg_ℤ (pos n)) z e in
    let p = plain-spelled xs s.0 in
    rw (← s.1) (minus-text (decimal 0 xs) p.1 ∙ ap (λ (ds : List ℕ). 45 ∷ ds) p.0)

written-plus : (xs : List ℕ) (z : ℤ) → sized xs pos ≡ some z → number_text z ≡ xs
written-plus xs z e =
    let s = sized-is xs pos z e in
    let p = plain-spelled xs s.0 in
    rw (← s.1) (plus-text (decimal 0 xs) ∙ p.0)

-- a field that is a number is that number's text
pub number-written : (f : List ℕ) (z : ℤ) → number f ≡ some z → number_text z ≡ f
unfolding number
number-written [] z e = absurd (none-ne-some _ e)
number-written (x ∷ xs) z e =
    cond_cases (λ o. o ≡ some z → number_text z ≡ x ∷ xs) (same_bytes (x ∷ xs) (48 ∷ [])) _ _
    (λ t q. let i : pos 0 ≡ z = some-injective _ _ q in rw (← i) (zero-text ∙ sym (same-spelled (x ∷ xs) (48 ∷ []) (test-≡ (same_bytes (x ∷ xs) (48 ∷ [])) t))))
    (λ _. cond_cases (λ o. o ≡ some z → number_text z ≡ x ∷ xs) (eqb x 45) _ _
    (λ t q. written-minus xs z q ∙ ap (λ (b : ℕ). b ∷ xs) (sym (eqb→eq x 45 t)))
    (λ _ q. written-plus (x ∷ xs) z q))
    e
