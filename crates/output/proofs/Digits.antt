-- Writing a number's digits, the last ones first, two by two: what is known before each two, how they are written, and what is known at the end; and how
-- many there are, which is told by tests where they are few, and else by the power of 10 just below the number.
use mathlib.Core.Path.{◌≡◌, refl, sym, ap, subst, ◌∙◌}
use mathlib.Core.List.{List, [], ◌∷◌, ◌++◌, append_assoc}
use Prim.Native.Nat.{ℕ, zero, suc, ◌+◌, ◌-◌, ◌*◌, ◌/◌, ◌%◌, ◌^◌, ◌≤◌, ◌<◌}
use native.Mathlib.Nat.{pow-suc, pow-le-pow_right}
use native.Mathlib.Omega.{arith}
use lib.ListN.{length, drop, set, length-append}
use Rattle.std.proofs.lemmas.List.{drop-set}
use Rattle.std.specs.Prelude.{Option as Answer, Some, None, IfNone, IfSome}
use Rattle.std.specs.Option.{unwrap_or}
use Rattle.meaning.specs.Text.{decimal_of}
use Rattle.output.specs.Written.{Written, PairStands}
use Rattle.output.proofs.Writing.{nothing_written, written_byte}
use Rattle.meaning.proofs.Decimal.{decimal-short, decimal-long, length-short, length-long, some-digit, decimal-most, decimal-of-64}

-- ---- how many digits

pub two-digits : (n : ℕ) → 10 ≤ n → n < 100 → length (decimal_of n) ≡ 2
two-digits n h k = omega (arith, length-long n h, length-short (n / 10) (omega arith))

pub three-digits : (n : ℕ) → 100 ≤ n → n < 1000 → length (decimal_of n) ≡ 3
three-digits n h k = omega (arith, length-long n (omega arith), two-digits (n / 10) (omega arith) (omega arith))

pub four-digits : (n : ℕ) → 1000 ≤ n → n < 10000 → length (decimal_of n) ≡ 4
four-digits n h k = omega (arith, length-long n (omega arith), three-digits (n / 10) (omega arith) (omega arith))

-- a number from a power of 10 on has more digits than its exponent says
decimal-least : (k n : ℕ) → 10 ^ k ≤ n → suc k ≤ length (decimal_of n)
decimal-least zero n h = some-digit n
decimal-least (suc k) n h =
    let power : 10 ^ suc k ≡ 10 ^ k * 10 = pow-suc 10 k in
    let least : 0 ≤ k = omega arith in
    let some-power : 10 ^ 0 ≤ 10 ^ k = pow-le-pow_right (omega arith) least in
    omega (arith, length-long n (omega (arith, power, some-power)), decimal-least k (n / 10) (omega (arith, power)))

-- what the library's logarithm says of how many digits there are
pub log-length : (n : ℕ) (log : Answer ℕ) → IfNone log (n ≡ 0) → IfSome log (λ k. 10 ^ k ≤ n) → IfSome log (λ k. n < 10 * 10 ^ k)
    → unwrap_or log 0 + 1 ≡ length (decimal_of n)
log-length n None none low high = omega (arith, length-short n (omega (arith, none)))
log-length n (Some k) none low high =
    let power : 10 ^ suc k ≡ 10 ^ k * 10 = pow-suc 10 k in
    omega (arith, decimal-least k n low, decimal-most k n (omega (arith, power, high)))

pub ruleset digits_counted = (length-short, two-digits, log-length)

-- ---- two digits of more

decimal-pair : (n : ℕ) → 100 ≤ n → decimal_of n ≡ decimal_of (n / 100) ++ (48 + n % 100 / 10) ∷ (48 + n % 100 % 10) ∷ []
decimal-pair n h =
    let tens : n / 10 / 10 ≡ n / 100 = omega arith in
    let tens_digit : n / 10 % 10 ≡ n % 100 / 10 = omega arith in
    let ones : n % 10 ≡ n % 100 % 10 = omega arith in
    decimal-long n (omega arith) ∙ rw (decimal-long (n / 10) (omega arith), append_assoc, tens, tens_digit, ones)

length-pair : (n : ℕ) → 100 ≤ n → length (decimal_of n) ≡ length (decimal_of (n / 100)) + 2
length-pair n h = ap length (decimal-pair n h) ∙ length-append _ _

-- the digits of rest are to be written before the place `at`; those from there on stand
pub record Filling (n : ℕ) (before part : List ℕ) (rest at : ℕ) : Type 0 where
  pub place : length (decimal_of rest) ≡ at
  pub kept : length part ≡ length before
  pub within : at ≤ length part
  pub stands : decimal_of rest ++ drop at part ≡ decimal_of n ++ drop (length (decimal_of n)) before

pub filling_start : (n : ℕ) (before : List ℕ) (count : ℕ) → count ≡ length (decimal_of n) → length (decimal_of n) ≤ length before → Filling n before before n count
filling_start n before count e h = record { place = sym e; kept = refl; within = omega (arith, e, h); stands = rw e }

module _ {n : ℕ} {before part : List ℕ} {rest at : ℕ} (f : Filling n before part rest at) where
  pub filling_place : 100 ≤ rest → 2 ≤ at
  filling_place h = omega (arith, f.place, length-pair rest h, some-digit (rest / 100))

  pub filling_turn : {after : List ℕ} → 100 ≤ rest → PairStands (rest % 100) (at - 2) part after → Filling n before after (rest / 100) (at - 2)
  filling_turn {after} h w =
      let two = filling_place h in
      let here : at - 2 + 2 ≡ at = omega arith in
      record {
        place = omega (arith, f.place, length-pair rest h);
        kept = w.kept ∙ f.kept;
        within = omega (arith, f.within, w.kept);
        stands =
            ap (λ (ds : List ℕ). decimal_of (rest / 100) ++ ds) (w.stands ∙ rw here)
            ∙ sym (append_assoc (decimal_of (rest / 100)) ((48 + rest % 100 / 10) ∷ (48 + rest % 100 % 10) ∷ []) (drop at part))
            ∙ ap (λ (ds : List ℕ). ds ++ drop at part) (sym (decimal-pair rest h)) ∙ f.stands;
      }

  pub filling_room : length (decimal_of rest) ≤ length part
  filling_room = omega (arith, f.place, f.within)

  pub filling_end : {after : List ℕ} {count m : ℕ} → count ≡ length (decimal_of n) → Written (decimal_of rest) part after m → Written (decimal_of n) before after count
  filling_end e w = record { stands = w.stands ∙ ap (λ (i : ℕ). decimal_of rest ++ drop i part) f.place ∙ f.stands; counted = e }

-- ---- one to four digits

pub one-written : {n : ℕ} {before : List ℕ} → n < 10 → length (decimal_of n) ≤ length before → Written (decimal_of n) before (set before 0 (48 + n)) 1
one-written {n} {before} h room =
    subst (λ (ds : List ℕ). Written ds before (set before 0 (48 + n)) 1) (sym (decimal-short n h))
    (written_byte (48 + n) (nothing_written before) (omega (arith, length-short n h)))

pub two-written : {n : ℕ} {before after : List ℕ} → 10 ≤ n → n < 100 → PairStands n 0 before after → Written (decimal_of n) before after 2
two-written {n} {before} {after} h k w =
    let both : decimal_of n ≡ (48 + n / 10) ∷ (48 + n % 10) ∷ [] = decimal-long n h ∙ rw (decimal-short (n / 10) (omega arith)) in
    record { stands = w.stands ∙ rw both; counted = rw both }

pub three-written : {n : ℕ} {before after : List ℕ} → 100 ≤ n → n < 1000 → length (decimal_of n) ≤ length before → PairStands (n % 100) 1 before after
    → Written (decimal_of n) before (set after 0 (48 + n / 100)) 3
three-written {n} {before} {after} h k room w =
    let size = three-digits n h k in
    let all : decimal_of n ≡ (48 + n / 100) ∷ (48 + n % 100 / 10) ∷ (48 + n % 100 % 10) ∷ [] = decimal-pair n h ∙ rw (decimal-short (n / 100) (omega arith)) in
    record { stands = drop-set after 0 (48 + n / 100) (omega (arith, w.kept)) ∙ ap (λ (ds : List ℕ). (48 + n / 100) ∷ ds) w.stands ∙ rw all; counted = sym size }

pub four-written : {n : ℕ} {before middle after : List ℕ} → 1000 ≤ n → n < 10000 → PairStands (n % 100) 2 before middle → PairStands (n / 100) 0 middle after
    → Written (decimal_of n) before after 4
four-written {n} {before} {middle} {after} h k w v =
    let tens : n / 100 / 10 ≡ n / 1000 = omega arith in
    let first = two-written {n = n / 100} (omega arith) (omega arith) v in
    let size = four-digits n h k in
    let two = two-digits (n / 100) (omega arith) (omega arith) in
    record {
      stands =
          first.stands ∙ ap (λ (i : ℕ). decimal_of (n / 100) ++ drop i middle) two ∙ ap (λ (ds : List ℕ). decimal_of (n / 100) ++ ds) w.stands
          ∙ sym (append_assoc (decimal_of (n / 100)) ((48 + n % 100 / 10) ∷ (48 + n % 100 % 10) ∷ []) (drop 4 before))
          ∙ rw (← decimal-pair n (omega arith), size) refl;
      counted = sym size;
    }

pub ruleset short_written = (length-short, two-digits, three-digits, four-digits, one-written, two-written, three-written, four-written)

-- a number of 64 bits has few digits, as the check applies it
pub ruleset short_digits = (decimal-of-64)
