-- Measuring: the length of the whole is what is counted so far and the length of what is left. What is counted stays near the limit of a text, as
-- each part of a text is short.
use mathlib.Core.Path.{◌≡◌, sym, ap}
use mathlib.Core.List.{List, [], ◌∷◌}
use mathlib.Core.Option.{Option}
use Prim.Native.Nat.{ℕ, suc, ◌+◌, ◌≤◌, ◌<◌}
use native.Mathlib.Omega.{arith}
use lib.ListN.{length, get_or, drop}
use lib.IntN.{ℤ, pos, negsuc}
use lib.Signed.{mag}
use mir.Syntax.{w64}
use mir.Val.{SFits}
use Rattle.meaning.specs.Machine.{past_i64}
use Rattle.meaning.specs.Text.{number_text}
use Rattle.meaning.specs.Word.{Word}
use Rattle.meaning.specs.Refusal.{text_limit}
use Rattle.meaning.specs.Write.{Given, given, word_text, text_of}
use Rattle.meaning.proofs.Decimal.{decimal-most}
use Rattle.std.specs.Prelude.{Some, None}
use Rattle.given_lines.specs.Given.{line_text}
use Rattle.given_lines.specs.Measure.{LengthYield}
use Rattle.given_lines.proofs.Texts.{parts-length, word-most, fields_ended, line-parts, field-parts, end-parts, lines-parts, no_lines}

-- ---- the length of a number

number-below : (z : ℤ) → mag z < past_i64 → length (number_text z) ≤ 20
unfolding number_text
number-below (pos n) h = omega (arith, decimal-most 18 n (omega arith))
number-below (negsuc n) h = omega (arith, decimal-most 18 (suc n) (omega arith))

-- 19 digits and a sign
pub number-most : {z : ℤ} → SFits w64 z → length (number_text z) ≤ 20
number-most {z} fits = number-below z fits.sfits

-- ---- a line

-- the bytes up to number i are counted, with the one that ends the line. A number is counted only while they are within the limit, and it has at most
-- 21 bytes with its tab
pub record MeasuringLine (word : Option Word) (numbers : List ℤ) (before total i : ℕ) : Type 0 where
  pub few : total ≤ text_limit + 21
  pub sum : before + length (line_text (given word numbers)) + 1 ≡ total + length (fields_ended (drop i numbers))

pub line-start : (word : Option Word) (numbers : List ℤ) {before size : ℕ} → before ≤ text_limit → size ≡ length (word_text word)
    → MeasuringLine word numbers before (before + size + 1) 0
line-start word numbers h e = record { few = omega (arith, word-most word); sum = omega (arith, parts-length (line-parts word numbers)) }

module _ {word : Option Word} {numbers : List ℤ} {before total i : ℕ} (m : MeasuringLine word numbers before total i) where
  pub line-turn : {size : ℕ} → i < length numbers → total ≤ text_limit → size ≡ length (number_text (get_or numbers i (pos 0))) → size ≤ 20
      → MeasuringLine word numbers before (total + (1 + size)) (i + 1)
  line-turn h few e short = record {
    few = omega arith;
    sum = omega (arith, m.sum, parts-length (field-parts numbers i h));
  }

  pub line-end : length numbers ≤ i → total ≤ text_limit → LengthYield (before + length (line_text (given word numbers))) (Some total)
  line-end h few =
      let all : before + length (line_text (given word numbers)) ≡ total = omega (arith, m.sum, parts-length (end-parts numbers i h)) in
      (sym all, omega arith)

-- ---- a list

-- the bytes of the lines so far are counted, and these lines are left
pub record MeasuringText (all left : List Given) (total : ℕ) : Type 0 where
  pub few : total ≤ text_limit
  pub sum : length (text_of all) ≡ total + length (text_of left)

module _ {all left later : List Given} {g : Given} {total : ℕ} (m : MeasuringText all left total) where
  sum-with-line : left ≡ g ∷ later → length (text_of all) ≡ total + length (line_text g) + length (text_of later)
  sum-with-line is = omega (arith, m.sum, parts-length (lines-parts is))

  pub text-turn : left ≡ g ∷ later → {longer : ℕ} → LengthYield (total + length (line_text g)) (Some longer) → MeasuringText all later longer
  text-turn is y = record { few = omega (arith, y.0, y.1); sum = omega (arith, sum-with-line is, y.0) }

  pub text-over : left ≡ g ∷ later → LengthYield (total + length (line_text g)) None → LengthYield (length (text_of all)) None
  text-over is y = omega (arith, sum-with-line is)

pub text-end : {all left : List Given} {total : ℕ} → MeasuringText all left total → left ≡ [] → LengthYield (length (text_of all)) (Some total)
text-end {all} {left} {total} m none =
    let whole : length (text_of all) ≡ total = omega (arith, m.sum, ap length (no_lines none)) in
    (sym whole, omega (arith, m.few))
