-- Bytes as lines, fields and numbers, and numbers as bytes: the text that lists, inputs and answers are made of; clauses 2.1 to 2.6 of
-- docs/FORMAT.md.
use Rattle.std.specs.Prelude.{ℕ, zero, suc, ◌+◌, ◌*◌, ◌-◌, ◌/◌, ◌%◌, Bool, true, false, cond, ◌&&◌, not, List, [], ◌∷◌, leb, ltb, eqb, ℤ, pos, negsuc, neg_ℤ}
use Prim.Native.Char.{code}
use Prim.Native.String.{String, [] as no-character, ◌∷◌ as ◌then◌}
use Rattle.std.proofs.Math.Option.{Option, none, some}

-- the bytes of an ASCII text
unfoldable pub bytes : String → List ℕ
bytes no-character = []
bytes (c then cs) = code c ∷ bytes cs

-- are two strings of bytes the same?
unfoldable pub same_bytes : List ℕ → List ℕ → Bool
same_bytes [] [] = true
same_bytes [] (y ∷ ys) = false
same_bytes (x ∷ xs) [] = false
same_bytes (x ∷ xs) (y ∷ ys) = eqb x y && same_bytes xs ys

-- ---- lines and fields

-- a byte put before the first part
unfoldable pub on_first : ℕ → List (List ℕ) → List (List ℕ)
on_first x [] = (x ∷ []) ∷ []
on_first x (part ∷ parts) = (x ∷ part) ∷ parts

-- the parts between the bytes that equal separator, one more than there are such bytes; nothing is trimmed. FORMAT 2.2, 2.3
unfoldable pub split : (separator : ℕ) → List ℕ → List (List ℕ)
split separator [] = [] ∷ []
split separator (x ∷ xs) = let rest = split separator xs in cond (eqb x separator) ([] ∷ rest) (on_first x rest)

-- all parts but the last
unfoldable pub without_last : List (List ℕ) → List (List ℕ)
without_last [] = []
without_last (l ∷ []) = []
without_last (l ∷ (m ∷ ls)) = l ∷ without_last (m ∷ ls)

-- the lines of a text whose last byte is 10. FORMAT 2.1
unfoldable pub lines_of : List ℕ → List (List ℕ)
lines_of text = without_last (split 10 text)

-- does the text end in byte 10? An empty text does not. FORMAT 2.1
unfoldable pub is_ended : List ℕ → Bool
is_ended [] = false
is_ended (x ∷ []) = eqb x 10
is_ended (x ∷ (y ∷ xs)) = is_ended (y ∷ xs)

-- the fields of a line. FORMAT 2.2
unfoldable pub fields_of : List ℕ → List (List ℕ)
fields_of line = split 9 line

-- ---- numbers

-- the greatest size of a number. FORMAT 2.6
abbrev pub largest : ℕ
largest = 2147483647

-- a byte from 0 to 9 as it is written, and bytes that all are. FORMAT 2.5
unfoldable pub is_digit : ℕ → Bool
is_digit x = leb 48 x && leb x 57

-- are all bytes digits? FORMAT 2.5
unfoldable pub all_digits : List ℕ → Bool
all_digits [] = true
all_digits (x ∷ xs) = is_digit x && all_digits xs

-- the number that digits spell after those of n. FORMAT 2.5
unfoldable pub decimal : ℕ → List ℕ → ℕ
decimal n [] = n
decimal n (x ∷ xs) = decimal (10 * n + (x - 48)) xs

-- digits of a number above 0: there is one, and the first is not 0. FORMAT 2.5
unfoldable pub is_plain : List ℕ → Bool
is_plain [] = false
is_plain (x ∷ xs) = not (eqb x 48) && all_digits (x ∷ xs)

-- their number with its sign, if its size is allowed. FORMAT 2.6
unfoldable pub sized : List ℕ → (ℕ → ℤ) → Option ℤ
sized xs sign = cond (is_plain xs && leb (decimal 0 xs) largest) (some (sign (decimal 0 xs))) none

-- the number that a field spells, if it spells one. FORMAT 2.5, 2.6
unfoldable pub number : List ℕ → Option ℤ
number [] = none
number (x ∷ xs) =
    cond (same_bytes (x ∷ xs) (48 ∷ [])) (some (pos 0)) (cond (eqb x 45) (sized xs (λ n. neg_ℤ (pos n))) (sized (x ∷ xs) pos))

-- ---- a number as it is written

-- the decimal digits of n before those that are written already; the first number bounds how many
unfoldable pub decimal_before : (bound n : ℕ) → List ℕ → List ℕ
decimal_before zero n written = written
decimal_before (suc bound) n written =
    let longer = decimal_before bound (n / 10) ((48 + n % 10) ∷ written) in cond (ltb n 10) ((48 + n) ∷ written) longer

-- the one spelling of a number, without sign and with it. FORMAT 2.9, 11.10
unfoldable pub decimal_of : ℕ → List ℕ
decimal_of n = decimal_before (suc n) n []

-- and of a whole number. FORMAT 2.5, 2.9
unfoldable pub number_text : ℤ → List ℕ
number_text (pos n) = decimal_of n
number_text (negsuc n) = 45 ∷ decimal_of (suc n)
