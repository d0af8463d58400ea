-- The answer to an input with a line `end`, by what was found in it.
use mathlib.Core.Path.{◌≡◌, refl, sym, ap, subst, ◌∙◌}
use mathlib.Core.Bool.{Bool, true, false}
use mathlib.Core.List.{List, []}
use mathlib.Core.Option.{none, some}
use Prim.Native.Nat.{ℕ, suc, ◌+◌, ◌*◌, ◌≤◌, ◌<◌}
use native.Mathlib.Omega.{arith}
use borrow.Author.Tests.{le-leb, lt-leb}
use lib.IntN.{ℤ}
use lib.ListN.{length, take, drop, replicate, length-drop, length-replicate}
use lib.Seq.{take_all, length-take-le}
use Rattle.meaning.specs.Text.{lines_of, is_ended, number}
use Rattle.meaning.specs.Line.{Line, numbers_of}
use Rattle.meaning.specs.Known.{Known}
use Rattle.rules.specs.Ready.{greatest}
use Rattle.meaning.specs.Refusal.{on_some, refused, read, on_reading, reading, text_limit, value_limit}
use Rattle.meaning.specs.Reply.{reply, first_fail, made, make_reply}
use Rattle.meaning.specs.Program.{refusal_text, making_text, Parts, parts_of, joined, is_some, or_none, answer_parts, on_parts, respond}
use Rattle.meaning.proofs.Results.{refused_none, refusal-place}
use Rattle.text.specs.Place.{lines_from}
use Rattle.reader.specs.declared.counts.Counts.{Counts}
use Rattle.service.specs.Walk.{ListRead, CountsGiven}
use Rattle.service.proofs.Made.{made-wrong-count, make-read}
use Rattle.service.proofs.Scan.{first-from, none_from, found_inside}
use Rattle.program.specs.Input.{EndsAt, EndYield, NumbersRead, InputsYield}
use Rattle.program.specs.declared.input.Ending.{Ending}
use Rattle.std.specs.Prelude.{Some, None, Result, Ok, Err}
use Rattle.std.specs.Prelude.{Option as Perhaps}
use Rattle.text.proofs.Places.{lines-few}
use Rattle.program.proofs.Limits.{list-most, joined-few}
use Rattle.program.proofs.Answering.{refused-alone}
use Rattle.program.specs.Made.{ListGiven, InputsGiven}

-- ---- the answers

abbrev is_number : List ℕ → Bool
is_number l = is_some (number l)

module _ {input : List ℕ} {end : Ending} (given : ListGiven input end) where
  abbrev parts : Parts
  parts = given.ends.parts

  whole : answer_parts parts ≡ on_parts (parts_of (lines_of input))
  unfolding on_parts
  whole = sym (ap on_parts given.ends.are)

  pub list-refused : (n i : ℕ) → reading (take end.at input) ≡ refused n i → refusal_text (reply n i) ≡ on_parts (parts_of (lines_of input))
  unfolding answer_parts on_reading
  list-refused n i e =
      let here : reading (joined parts.list) ≡ refused n i = ap reading (sym given.ends.listed) ∙ e in
      let answer : refusal_text (reply n i) ≡ answer_parts parts = rw here in
      answer ∙ whole

  pub list_read : {p : ℕ} {c : Counts} → CountsGiven (take end.at input) p c → InputsGiven input end c.cells.0
  list_read l = record { given = given; listed = l.listed; cells_are = l.counts-are.cells_are }

  module _ (l : ListRead (take end.at input)) where
    here : reading (joined parts.list) ≡ read l.lines l.last
    here = ap reading (sym given.ends.listed) ∙ l.is_read

    pub place-fits : (i : ℕ) → first_fail is_number 0 (lines_from input (end.at + 4)) ≡ some i → end.lines + 1 + i ≤ 2 * text_limit + 1
    place-fits i e =
        omega (
          arith,
          given.short,
          given.ends.counted,
          joined-few parts.list,
          ap length given.ends.listed,
          length-take-le end.at input (omega (arith, given.ends.inside)),
          given.ends.inside,
          found_inside is_number [] (lines_from input (end.at + 4)) i e,
          lines-few (drop (end.at + 4) input),
          length-drop (end.at + 4) input,
        )

    pub no_number : (i : ℕ) → first_fail is_number 0 (lines_from input (end.at + 4)) ≡ some i → refusal_text (reply 3 (end.lines + 1 + i)) ≡ on_parts (parts_of (lines_of input))
    unfolding answer_parts on_reading on_some
    no_number i e =
        let place : suc (length parts.list) + i ≡ end.lines + 1 + i = omega (arith, given.ends.counted) in
        let found : first_fail is_number (suc (length parts.list)) parts.inputs ≡ some (suc (length parts.list) + i) =
        first-from is_number [] parts.inputs (suc (length parts.list)) i (rw (← given.ends.left) e) in
        let answer : refusal_text (reply 3 (end.lines + 1 + i)) ≡ answer_parts parts = rw (here, found, place) in
        answer ∙ whole

    module _ {stored : List ℤ} {count : ℕ} (n : NumbersRead (lines_from input (end.at + 4)) stored count) where
      abbrev column : List ℤ
      column = or_none (numbers_of (lines_from input (end.at + 4)))

      abbrev zeros : List ℕ
      zeros = replicate l.last.cells 0

      made-whole : making_text (made l.last l.lines column zeros) ≡ on_parts (parts_of (lines_of input))
      unfolding answer_parts on_reading on_some
      made-whole =
          let passed : first_fail is_number (suc (length parts.list)) parts.inputs ≡ none =
          none_from is_number [] parts.inputs (suc (length parts.list)) (rw (← given.ends.left) n.all) in
          let answer : making_text (made l.last l.lines column zeros) ≡ answer_parts parts =
          rw (here, passed, given.ends.left) in
          answer ∙ whole

      pub too_many : value_limit < count → refusal_text (reply 16 0) ≡ on_parts (parts_of (lines_of input))
      unfolding making_text
      too_many h =
          ap making_text (made-wrong-count l.last l.lines column zeros (length-replicate l.last.cells 0)
          (λ e. omega (arith, n.counted, (list-most l).inputs-most, (list-most l).values-most)))
          ∙ made-whole

      pub made-answer : (cells : ℕ) → count ≤ value_limit → l.last.cells ≡ cells
          → making_text (make_reply (take end.at input) (take count stored) (replicate cells 0)) ≡ on_parts (parts_of (lines_of input))
      made-answer cells h e =
          let all : take count stored ≡ column = sym n.stands ∙ take_all value_limit column (omega (arith, n.counted)) in
          rw (← e, all) (ap making_text (sym (make-read (take end.at input) column zeros l)) ∙ made-whole)

-- ---- what was read of the inputs

module _ (ls : List (List ℕ)) (stored : List ℤ) {x : Result ℕ ℕ} (yields : InputsYield ls stored x) where
  pub inputs-no-number : {i : ℕ} → x ≡ Err i → first_fail is_number 0 ls ≡ some i
  unfolding InputsYield
  inputs-no-number e = refusal-place 3 _ (subst (InputsYield ls stored) e yields)

  pub inputs-numbers : {count : ℕ} → x ≡ Ok count → NumbersRead ls stored count
  unfolding InputsYield
  inputs-numbers e = subst (InputsYield ls stored) e yields

-- ---- the whole input

module _ (input : List ℕ) where
  pub respond-long : text_limit < length input → refusal_text (reply 1 0) ≡ respond input
  unfolding respond
  respond-long h = rw (lt-leb (length input) text_limit h)

  module _ (short : length input ≤ text_limit) where
    pub respond-unended : is_ended input ≡ false → refusal_text (reply 2 0) ≡ respond input
    unfolding respond
    respond-unended e = rw (le-leb (length input) text_limit short, e)

    module _ (ended : is_ended input ≡ true) where
      pub respond-parts : on_parts (parts_of (lines_of input)) ≡ respond input
      unfolding respond
      respond-parts = rw (le-leb (length input) text_limit short, ended)

      module _ {x : Perhaps Ending} (found : EndYield input x) where
        pub respond-missing : x ≡ None → refusal_text (reply 2 0) ≡ respond input
        unfolding EndYield on_parts
        respond-missing e = sym (ap on_parts (refused_none 2 _ (subst (EndYield input) e found))) ∙ respond-parts

        pub list-given : {end : Ending} → x ≡ Some end → ListGiven input end
        unfolding EndYield
        list-given e = record { short = short; ends = subst (EndYield input) e found }

-- ---- the answers that the check applies

-- a longer input
pub too_long : (input : List ℕ) → text_limit < length input → respond input ≡ refusal_text (reply 1 0)
too_long input h = sym (respond-long input h)

-- more inputs than a list can have values, after a list that is read: by all that is known of the input's parts
pub too_many_inputs : (input : List ℕ) (end : Ending) (ps : Parts) (ls : List Line) (last : Known) (stored : List ℤ) (count : ℕ)
    → parts_of (lines_of input) ≡ some ps → length input ≤ text_limit → end.at + 4 ≤ length input
    → take end.at input ≡ joined ps.list → end.lines ≡ length ps.list → lines_from input (end.at + 4) ≡ ps.inputs
    → reading (take end.at input) ≡ read ls last → last.p ≤ greatest → InputsYield (lines_from input (end.at + 4)) stored (Ok count)
    → value_limit < count → on_parts (parts_of (lines_of input)) ≡ refusal_text (reply 16 0)
too_many_inputs input end ps ls last stored count are short inside listed counted left is_read p-most yields h =
    let ends : EndsAt input end = record { parts = ps; are = are; inside = inside; listed = listed; counted = counted; left = left } in
    let given : ListGiven input end = record { short = short; ends = ends } in
    let numbers = inputs-numbers (lines_from input (end.at + 4)) stored yields refl in
    sym (too_many given (record { lines = ls; last = last; is_read = is_read; p-most = p-most }) numbers h)

-- any other input, by whether its last line is ended and whether it has a line `end`
pub ruleset input_answered = (respond-unended, respond-parts, respond-missing, list-given, refused-alone)
