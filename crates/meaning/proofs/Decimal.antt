-- Laws of a number's decimal digits: the bound in their definition does not matter, one digit more, how many there can be, and the sign.
use mathlib.Core.Path.{◌≡◌, refl, sym, ap, ◌∙◌}
use mathlib.Core.Bool.{Bool, true, false, cond}
use mathlib.Core.List.{List, [], ◌∷◌, ◌++◌, append_assoc}
use Prim.Native.Nat.{ℕ, zero, suc, ◌+◌, ◌/◌, ◌%◌, ◌^◌, ◌≤◌, ◌<◌}
use native.Mathlib.Omega.{arith}
use native.Mathlib.Numerals.{add-one}
use borrow.Author.Tests.{ltb-true, ltb-false, lt-ltb, le-ltb}
use lib.Dec.{ltb}
use lib.ListN.{length, length-append}
use lib.IntN.{ℤ, pos, negsuc}
use lib.Signed.{mag}
use Rattle.meaning.specs.Machine.{past_u32, past_u64}
use Rattle.algebra.proofs.Integer.Order.{negative_part}
use Rattle.meaning.specs.Text.{decimal_before, decimal_of, number_text}

-- ---- the bound

same_at : (t : Bool) (n b c : ℕ) (written : List ℕ) → ltb n 10 ≡ t
    → (10 ≤ n → decimal_before b (n / 10) ((48 + n % 10) ∷ written) ≡ decimal_before c (n / 10) ((48 + n % 10) ∷ written))
    → cond t ((48 + n) ∷ written) (decimal_before b (n / 10) ((48 + n % 10) ∷ written)) ≡ cond t ((48 + n) ∷ written) (decimal_before c (n / 10) ((48 + n % 10) ∷ written))
same_at true n b c written q later = refl
same_at false n b c written q later = later (ltb-false n 10 q)

-- every bound above n gives the same digits
same_digits : (b c n : ℕ) (written : List ℕ) → n < b → n < c → decimal_before b n written ≡ decimal_before c n written
unfolding decimal_before
same_digits zero c n written h k = absurd (omega arith)
same_digits (suc b) zero n written h k = absurd (omega arith)
same_digits (suc b) (suc c) n written h k =
    same_at (ltb n 10) n b c written refl (λ l. same_digits b c (n / 10) ((48 + n % 10) ∷ written) (omega arith) (omega arith))

-- ---- the digits that are written already

apart-at : (t : Bool) (n b : ℕ) (written : List ℕ)
    → decimal_before b (n / 10) ((48 + n % 10) ∷ written) ≡ decimal_before b (n / 10) ((48 + n % 10) ∷ []) ++ written
    → cond t ((48 + n) ∷ written) (decimal_before b (n / 10) ((48 + n % 10) ∷ written)) ≡ cond t ((48 + n) ∷ []) (decimal_before b (n / 10) ((48 + n % 10) ∷ [])) ++ written
apart-at true n b written later = refl
apart-at false n b written later = later

digits-apart : (b n : ℕ) (written : List ℕ) → decimal_before b n written ≡ decimal_before b n [] ++ written
unfolding decimal_before
digits-apart zero n written = refl
digits-apart (suc b) n written =
    let d = 48 + n % 10 in
    apart-at (ltb n 10) n b written
    (digits-apart b (n / 10) (d ∷ written)
    ∙ sym (append_assoc (decimal_before b (n / 10) []) (d ∷ []) written)
    ∙ ap (λ (ds : List ℕ). ds ++ written) (sym (digits-apart b (n / 10) (d ∷ []))))

-- ---- one digit, and one digit more

pub decimal-short : (n : ℕ) → n < 10 → decimal_of n ≡ (48 + n) ∷ []
unfolding decimal_of decimal_before
decimal-short n h = simp (lt-ltb n 10 h)

opened : (n : ℕ) → 10 ≤ n → decimal_of n ≡ decimal_before n (n / 10) ((48 + n % 10) ∷ [])
unfolding decimal_of decimal_before
opened n h = simp (le-ltb n 10 h)

pub decimal-long : (n : ℕ) → 10 ≤ n → decimal_of n ≡ decimal_of (n / 10) ++ (48 + n % 10) ∷ []
unfolding decimal_of
decimal-long n h =
    let d = 48 + n % 10 in
    opened n h ∙ digits-apart n (n / 10) (d ∷ [])
    ∙ ap (λ (ds : List ℕ). ds ++ d ∷ []) (same_digits n (suc (n / 10)) (n / 10) [] (omega arith) (omega arith))

-- ---- how many

pub length-short : (n : ℕ) → n < 10 → length (decimal_of n) ≡ 1
length-short n h = rw (decimal-short n h)

pub length-long : (n : ℕ) → 10 ≤ n → length (decimal_of n) ≡ length (decimal_of (n / 10)) + 1
length-long n h = rw (decimal-long n h) (length-append (decimal_of (n / 10)) ((48 + n % 10) ∷ []))

some-digit-at : (n : ℕ) (t : Bool) → ltb n 10 ≡ t → 0 < length (decimal_of n)
some-digit-at n true q = omega (arith, length-short n (ltb-true n 10 q))
some-digit-at n false q = omega (arith, length-long n (ltb-false n 10 q))

pub some-digit : (n : ℕ) → 0 < length (decimal_of n)
some-digit n = some-digit-at n (ltb n 10) refl

most-at : (k n : ℕ) (t : Bool) → ltb n 10 ≡ t → (10 ≤ n → length (decimal_of (n / 10)) ≤ k) → length (decimal_of n) ≤ suc k
most-at k n true q later = omega (arith, length-short n (ltb-true n 10 q))
most-at k n false q later = omega (arith, length-long n (ltb-false n 10 q), later (ltb-false n 10 q))

-- a number below a power of 10 has no more digits than its exponent says
pub decimal-most : (k n : ℕ) → n < 10 ^ suc k → length (decimal_of n) ≤ suc k
decimal-most zero n h = omega (arith, length-short n (omega arith))
decimal-most (suc k) n h = most-at (suc k) n (ltb n 10) refl (λ l. decimal-most k (n / 10) (omega arith))

-- a number of 64 bits, and one of 32
pub decimal-of-64 : (n : ℕ) → n < past_u64 → length (decimal_of n) ≤ 20
decimal-of-64 n h = decimal-most 19 n (omega arith)

pub decimal-of-32 : (n : ℕ) → n < past_u32 → length (decimal_of n) ≤ 10
decimal-of-32 n h = decimal-most 9 n (omega arith)

-- ---- a signed number

pub number-plain : (z : ℤ) → z ≡ pos (mag z) → number_text z ≡ decimal_of (mag z)
unfolding number_text
number-plain z e = ap number_text e

pub number-signed : (z : ℤ) → negative_part z ≡ suc (mag z) → number_text z ≡ 45 ∷ decimal_of (mag z + 1)
unfolding number_text
number-signed (pos n) e = absurd (omega arith)
number-signed (negsuc n) e = rw (add-one n)
