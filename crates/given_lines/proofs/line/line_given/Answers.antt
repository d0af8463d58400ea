-- Each way out has one reason for which the text spells no line, and at the last there is none.
use mathlib.Core.Path.{◌≡◌, refl, sym, ap, ◌∙◌}
use mathlib.Core.Bool.{true}
use Prim.Native.Nat.{◌+◌, ◌≤◌}
use native.Mathlib.Omega.{arith}
use lib.ListN.{length}
use Rattle.meaning.specs.Word.{kind_of, most_numbers}
use Rattle.meaning.specs.Write.{word_text}
use Rattle.text.specs.Word.{word_of}
use Rattle.given_lines.specs.Given.{word_meaning}
use Rattle.given_lines.specs.Line.{most_line}
use Rattle.given_lines.proofs.Taking.{counted-most, no-word-line, no-count-line, no-size-line, taken-line, taken-size}
use Rattle.given_lines.proofs.Texts.{word-most}
use Rattle.given_lines.proofs.line.line_given.Goals as goal
use Rattle.given_lines.proofs.line.line_given.Goals.{Else-not-is_count, After-spelling}

pub returns-in_err-word : goal.returns-in_err-word
returns-in_err-word c = rw c.from_residual.ensures (no-word-line c.args.line.numbers.now (ap word_meaning c.in_err-word.was))

pub returns-then-not-is_count : goal.returns-then-not-is_count
returns-then-not-is_count c =
    let numbers = c.args.line.numbers.now in
    no-count-line numbers (ap word_meaning c.in_ok-word.was) (sym (c.is_count.ensures numbers refl) ∙ c.if-not-is_count.true)

-- the count belongs to the word
counted : (c : Else-not-is_count) → (kind_of (word_of c.in_ok-word.word)).is_counted c.args.line.numbers.now ≡ true
counted c = sym (c.is_count.ensures c.args.line.numbers.now refl) ∙ c.if-not-is_count.false

-- so it is not above the most
few : (c : Else-not-is_count) → length c.args.line.numbers.now ≤ most_numbers
few c = counted-most (word_of c.in_ok-word.word) c.args.line.numbers.now (counted c)

pub fields_length-requires : goal.fields_length-requires
fields_length-requires c = few (goal.at.fields_length-requires c).Else-not-is_count

pub returns-in_err-bytes : goal.returns-in_err-bytes
returns-in_err-bytes c =
    rw c.from_residual-in_err-bytes.ensures (no-size-line c.args.line.numbers.now (ap word_meaning c.in_ok-word.was) c.in_err-bytes.ensures)

-- the bytes that spell the word
spelled : (c : After-spelling) → length c.spelling.result.now ≡ length (word_text (word_meaning c.args.line.word))
unfolding word_text
spelled c = rw c.in_ok-word.was (ap length c.spelling.ensures)

line-short : (c : After-spelling) → length c.args.line.numbers.now ≤ most_numbers → length c.spelling.result.now + c.in_ok-bytes.bytes + 1 ≤ most_line
line-short c h = omega (arith, c.in_ok-bytes.ensures.2, word-most (word_meaning c.args.line.word), spelled c)

pub overflow_add-result : goal.overflow_add-result
overflow_add-result c = omega (arith, line-short c (few (goal.at.overflow_add-result c).Else-not-is_count))

pub overflow_add-result-2 : goal.overflow_add-result-2
overflow_add-result-2 c = omega (arith, line-short c (few (goal.at.overflow_add-result-2 c).Else-not-is_count))

pub returns : goal.returns
returns c =
    let numbers = c.args.line.numbers.now in
    let at-count = (goal.at.returns c).Else-not-is_count in
    record {
      is = taken-line numbers (ap word_meaning c.in_ok-word.was) (counted at-count) c.in_ok-bytes.ensures.0;
      most = few at-count;
      sized = taken-size (word_meaning c.args.line.word) numbers (spelled c) c.in_ok-bytes.ensures.1;
      short = line-short c (few at-count);
    }
