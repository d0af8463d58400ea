-- Reading the inputs: what is known before each line, and what is found at the first that is no number, or at the end.
use mathlib.Core.Path.{◌≡◌, refl, sym, ap, ◌∙◌}
use mathlib.Core.Bool.{true}
use mathlib.Core.List.{List, [], ◌∷◌, ◌++◌, append-nil}
use mathlib.Core.Option.{some}
use Prim.Native.Nat.{ℕ, ◌+◌, ◌≤◌, ◌<◌}
use native.Mathlib.Decide.{dec_lt}
use native.Mathlib.Omega.{arith}
use native.Mathlib.Numerals.{add-one}
use lib.IntN.{ℤ}
use lib.ListN.{length, take, set, length-append, length-set}
use lib.Seq.{take_all, take-append-le, take-suc-set, set_out}
use Rattle.meaning.specs.Refusal.{value_limit}
use Rattle.meaning.specs.Text.{is_ended, number}
use Rattle.meaning.specs.Line.{numbers_of}
use Rattle.meaning.specs.Reply.{reply, first_fail, refusal_at}
use Rattle.meaning.specs.Program.{is_some, or_none}
use Rattle.std.specs.Prelude.{Option as Answer, Some, None}
use Rattle.text.specs.declared.Field.{Field}
use Rattle.text.specs.Number.{WholeYield}
use Rattle.text.specs.Place.{end_of, lines_from}
use Rattle.lines.proofs.Lines.{after_numbers, after_next, before-all}
use Rattle.text.proofs.Places.{lines_none}
use Rattle.text.proofs.Ends.{in-line, lines_at}
use Rattle.text.proofs.Numbers.{number-is-none, number_is, number-ends}
use Rattle.program.specs.Input.{NumbersRead}

-- before the line that starts at `at`, each was a number
pub record ReadingInputs (input : List ℕ) (start : ℕ) (stored : List ℤ) (at count : ℕ) : Type 0 where
  pub numbers : List ℤ
  pub inside : at ≤ length input
  pub few : count ≤ at
  pub counted : count ≡ length numbers
  pub room : length stored ≡ value_limit
  pub stands : take value_limit numbers ≡ take count stored
  pub fails-left : first_fail (λ l. is_some (number l)) 0 (lines_from input start) ≡ first_fail (λ l. is_some (number l)) count (lines_from input at)
  pub numbers-left : numbers_of (lines_from input start) ≡ after_numbers numbers (numbers_of (lines_from input at))

pub reading-start : (input : List ℕ) (start : ℕ) (stored : List ℤ) → start ≤ length input → length stored ≡ value_limit → ReadingInputs input start stored start 0
reading-start input start stored h room = record {
  numbers = [];
  inside = h;
  few = omega arith;
  counted = refl;
  room = room;
  stands = refl;
  fails-left = refl;
  numbers-left = before-all (numbers_of (lines_from input start));
}

-- one number more is stored where it has room
stored_more : (numbers stored : List ℤ) (n : ℤ) (count : ℕ) → count ≡ length numbers → length stored ≡ value_limit → take value_limit numbers ≡ take count stored
    → take value_limit (numbers ++ n ∷ []) ≡ take (count + 1) (set stored count n)
stored_more numbers stored n count e room stands = elim (dec_lt count value_limit)
    [ yes h ↦ fits h | no h ↦ full (omega arith) ]
  where
    all : length (numbers ++ n ∷ []) ≡ count + 1
    all = omega (arith, length-append numbers (n ∷ []))

    fits : count < value_limit → take value_limit (numbers ++ n ∷ []) ≡ take (count + 1) (set stored count n)
    fits h =
        take_all value_limit (numbers ++ n ∷ []) (omega (arith, all))
        ∙ ap (λ (ns : List ℤ). ns ++ n ∷ []) (sym (take_all value_limit numbers (omega arith)) ∙ stands)
        ∙ sym (rw (add-one count) (take-suc-set stored count n (omega arith)))

    full : value_limit ≤ count → take value_limit (numbers ++ n ∷ []) ≡ take (count + 1) (set stored count n)
    full h =
        take-append-le value_limit numbers (n ∷ []) (omega arith) ∙ stands ∙ take_all count stored (omega arith)
        ∙ sym (ap (take (count + 1)) (set_out stored count n (omega arith)) ∙ take_all (count + 1) stored (omega arith))

module _ {input : List ℕ} {start : ℕ} {stored : List ℤ} {at count : ℕ} (r : ReadingInputs input start stored at count) where
  pub reading-end : length input ≤ at → NumbersRead (lines_from input start) stored count
  unfolding first_fail numbers_of after_numbers or_none
  reading-end h = record {
    all = r.fails-left ∙ ap (first_fail (λ l. is_some (number l)) count) (lines_none input at h);
    counted = r.counted ∙ sym (ap length all);
    room = r.room;
    stands = ap (take value_limit) all ∙ r.stands;
  }
    where
      all : or_none (numbers_of (lines_from input start)) ≡ r.numbers
      all =
          let read : numbers_of (lines_from input start) ≡ some (r.numbers ++ []) = r.numbers-left ∙ rw (lines_none input at h) in
          ap or_none read ∙ append-nil r.numbers

  module _ (ended : is_ended input ≡ true) (h : at < length input) {x : Answer (Field ℤ)} (read : WholeYield input at x) where
    pub reading-stops : x ≡ None → refusal_at 3 (first_fail (λ l. is_some (number l)) 0 (lines_from input start)) ≡ some (reply 3 count)
    unfolding first_fail is_some refusal_at
    reading-stops q = ap (refusal_at 3) r.fails-left ∙ rw (lines_at input at ended h, number-is-none _ _ read q)

    pub reading-turn : {f : Field ℤ} → x ≡ Some f → ReadingInputs input start (set stored count f.value) (f.end + 1) (count + 1)
    unfolding first_fail is_some numbers_of
    reading-turn {f} q =
        let n = f.value in
        let is = number_is _ _ read q in
        let e : f.end ≡ end_of input at = (number-ends _ _ read q).is in
        rw e (record {
          numbers = r.numbers ++ n ∷ [];
          inside = omega (arith, (in-line input ended at h).inside);
          few = omega (arith, r.few);
          counted = omega (arith, r.counted, length-append r.numbers (n ∷ []));
          room = length-set stored count n ∙ r.room;
          stands = stored_more r.numbers stored n count r.counted r.room r.stands;
          fails-left = r.fails-left ∙ rw (lines_at input at ended h, is, add-one count);
          numbers-left =
              r.numbers-left ∙ rw (lines_at input at ended h, is)
              (after_next r.numbers n (numbers_of (lines_from input (end_of input at + 1))));
        })

-- where reading starts, and that a number's line ends, as the check applies them
pub ruleset inputs_begun = (reading-start, number-ends)
