-- A given line as the reader's steps ask for it: the bytes of its numbers, counted one by one, and the line that its text spells, by the word, the count
-- and the sizes of the numbers.
use mathlib.Core.Path.{◌≡◌, refl, sym, ap, ◌∙◌}
use mathlib.Core.Bool.{Bool, true, false, cond, ◌&&◌}
use mathlib.Core.List.{List, [], ◌∷◌, map}
use mathlib.Core.Option.{Option, none, some}
use Prim.Native.Nat.{ℕ, suc, ◌+◌, ◌*◌, ◌≤◌, ◌<◌}
use native.Mathlib.Omega.{arith}
use native.Mathlib.Numerals.{add-one}
use borrow.Author.Tests.{leb-true, leb-false}
use lib.Dec.{leb}
use lib.ListN.{length, get_or, drop, length-append, drop_of_length-le}
use lib.Seq.{drop-cons}
use lib.IntN.{ℤ, pos, nat_abs}
use Rattle.meaning.specs.Text.{largest, number, number_text}
use Rattle.meaning.specs.Word.{Word, kind_of, most_numbers}
use Rattle.meaning.specs.Line.{cons_number, numbers_of, assemble, line_of}
use Rattle.meaning.specs.Refusal.{all}
use Rattle.meaning.specs.Write.{given, word_text, fields_text, given_text}
use Rattle.meaning.proofs.NumberText.{number_read, number-over}
use Rattle.meaning.proofs.Write.{given-line}
use Rattle.lines.proofs.Lines.{count-over}
use Rattle.std.specs.Prelude.{Some, None}
use Rattle.given_lines.specs.Line.{all_sized, most_field, MoreBytesYield, FieldBytesYield}

-- ---- counting the bytes of the numbers

-- the first i numbers have sizes that are allowed; their bytes are counted, and two for each that is left
pub record Counting (numbers : List ℤ) (total i : ℕ) : Type 0 where
  pub within : i ≤ length numbers
  pub sized : all_sized numbers ≡ all_sized (drop i numbers)
  pub counted : length (fields_text numbers) + 2 * length (drop i numbers) ≡ total + length (fields_text (drop i numbers))
  pub few : total ≤ most_field * i + 2 * length (drop i numbers)

-- the numbers from i on are number i and those after it
module _ (numbers : List ℤ) (i : ℕ) (h : i < length numbers) where
  numbers-next : drop i numbers ≡ get_or numbers i (pos 0) ∷ drop (i + 1) numbers
  numbers-next = drop-cons numbers i (pos 0) h ∙ ap (λ (j : ℕ). get_or numbers i (pos 0) ∷ drop j numbers) (sym (add-one i))

  sized-next : {b : Bool} → leb (nat_abs (get_or numbers i (pos 0))) largest ≡ b → all_sized (drop i numbers) ≡ (b && all_sized (drop (i + 1) numbers))
  unfolding all_sized all
  sized-next e = ap all_sized numbers-next ∙ ap (λ (b : Bool). b && all_sized (drop (i + 1) numbers)) e

  fields-next : length (fields_text (drop i numbers)) ≡ 1 + length (number_text (get_or numbers i (pos 0))) + length (fields_text (drop (i + 1) numbers))
  unfolding fields_text
  fields-next =
      let x = get_or numbers i (pos 0) in
      let rest = fields_text (drop (i + 1) numbers) in
      ap (λ (ns : List ℤ). length (fields_text ns)) numbers-next ∙ omega (arith, length-append (number_text x) rest)

module _ {numbers : List ℤ} {total i : ℕ} (t : Counting numbers total i) where
  module _ (h : i < length numbers) where
    pub counting-stopped : MoreBytesYield (get_or numbers i (pos 0)) None → FieldBytesYield numbers None
    counting-stopped large = t.sized ∙ sized-next numbers i h large

    pub counting-next : (n : ℕ) → MoreBytesYield (get_or numbers i (pos 0)) (Some n) → {next : ℕ} → next ≡ total + n → Counting numbers next (i + 1)
    counting-next n (small, bytes, most) e = record {
      within = omega arith;
      sized = t.sized ∙ sized-next numbers i h small;
      counted = omega (arith, t.counted, ap length (numbers-next numbers i h), fields-next numbers i h, bytes);
      few = omega (arith, t.few, ap length (numbers-next numbers i h), most);
    }

  pub counting-end : length numbers ≤ i → FieldBytesYield numbers (Some total)
  unfolding all_sized all fields_text
  counting-end h =
      let none = drop_of_length-le numbers h in
      (t.sized ∙ rw none refl, omega (arith, rw none at t.counted), omega (arith, ap length none, t.few, t.within))

-- ---- the line that the text of a given line spells

-- no word has more numbers than the most
pub counted-most : (w : Word) (ns : List ℤ) → (kind_of w).is_counted ns ≡ true → length ns ≤ most_numbers
counted-most w ns e = elim (native.Mathlib.Decide.dec_lt most_numbers (length ns)) [
  | yes h ↦ absurd (let f = count-over w ns h in let z : ◌≡◌ {A = ℕ} 0 1 = cc in omega arith)
  | no h ↦ omega arith
]

cons-sized : (b c : Bool) (n : ℤ) (ns : List ℤ) → cond b (some n) none ≡ number (number_text n) → numbers_of (map number_text ns) ≡ cond c (some ns) none
    → cons_number (number (number_text n)) (numbers_of (map number_text ns)) ≡ cond (b && c) (some (n ∷ ns)) none
unfolding cons_number
cons-sized true true n ns e f = rw (← e, f) refl
cons-sized true false n ns e f = rw (← e, f) refl
cons-sized false c n ns e f = rw (← e) refl

number-sized : (b : Bool) (n : ℤ) → leb (nat_abs n) largest ≡ b → cond b (some n) none ≡ number (number_text n)
number-sized true n e = sym (number_read n (leb-true (nat_abs n) largest e))
number-sized false n e = sym (number-over n (leb-false (nat_abs n) largest e))

-- the texts of numbers spell these numbers, where all sizes are allowed
numbers-sized : (ns : List ℤ) → numbers_of (map number_text ns) ≡ cond (all_sized ns) (some ns) none
unfolding numbers_of all_sized all
numbers-sized [] = refl
numbers-sized (n ∷ ns) =
    let b = leb (nat_abs n) largest in
    cons-sized b (all (λ z. leb (nat_abs z) largest) ns) n ns (number-sized b n refl) (numbers-sized ns)

module _ {w : Option Word} (ns : List ℤ) where
  pub no-word-line : w ≡ none → line_of (given_text (given w ns)) ≡ none
  unfolding assemble
  no-word-line e = given-line (given w ns) ∙ rw e refl

  pub no-count-line : {v : Word} → w ≡ some v → (kind_of v).is_counted ns ≡ false → line_of (given_text (given w ns)) ≡ none
  unfolding assemble
  no-count-line {v} e counted = given-line (given w ns) ∙ rw (e, numbers-sized ns) (by (all_sized ns))
    where
      by : (b : Bool) → assemble (some v) (cond b (some ns) none) ≡ none
      by true = rw counted refl
      by false = refl

  pub no-size-line : {v : Word} → w ≡ some v → all_sized ns ≡ false → line_of (given_text (given w ns)) ≡ none
  unfolding assemble
  no-size-line e sized = given-line (given w ns) ∙ rw (e, numbers-sized ns, sized) refl

  pub taken-line : {v : Word} → w ≡ some v → (kind_of v).is_counted ns ≡ true → all_sized ns ≡ true
      → line_of (given_text (given w ns)) ≡ some (record { word = v; numbers = ns })
  unfolding assemble
  taken-line e counted sized = given-line (given w ns) ∙ rw (e, numbers-sized ns, sized) (rw counted refl)

-- its bytes, with the one that ends it
pub taken-size : (w : Option Word) (ns : List ℤ) {size bytes : ℕ} → size ≡ length (word_text w) → bytes ≡ length (fields_text ns)
    → size + bytes + 1 ≡ suc (length (given_text (given w ns)))
unfolding given_text
taken-size w ns e f = omega (arith, length-append (word_text w) (fields_text ns))
