-- Looking for the line `end`: what is known before each line, and what is found at the first that is it, or at the end.
use mathlib.Core.Path.{◌≡◌, refl, sym, ap, ◌∙◌}
use mathlib.Core.Bool.{Bool, true, false}
use mathlib.Core.List.{List, [], ◌∷◌, ◌++◌, append_assoc, append-nil}
use mathlib.Core.Option.{Option, none, some}
use Prim.Native.Nat.{ℕ, ◌+◌, ◌-◌, ◌≤◌, ◌<◌}
use native.Mathlib.Omega.{arith}
use native.Mathlib.Numerals.{add-one}
use lib.ListN.{length, take, drop, length-append, length-drop}
use lib.Seq.{length-take-le, take-add, take-suc}
use Rattle.meaning.specs.Text.{bytes, same_bytes, lines_of, is_ended}
use Rattle.meaning.specs.Program.{Parts, cons_part, parts_of, joined}
use Rattle.text.specs.Place.{Found, lines_from}
use Rattle.meaning.proofs.Words.{same-spelled}
use Rattle.text.proofs.Places.{found-byte, lines_none, line-within, lines_next}
use Rattle.program.specs.Input.{EndsAt}

-- ---- lines that are joined

joined-more : (ls : List (List ℕ)) (l : List ℕ) → joined (ls ++ l ∷ []) ≡ joined ls ++ (l ++ 10 ∷ [])
unfolding joined
joined-more [] l = refl
joined-more (m ∷ ls) l = rw (joined-more ls l) (sym (append_assoc m (10 ∷ joined ls) (l ++ 10 ∷ [])))

-- ---- lines that were passed

-- the parts, with lines before the list
unfoldable pub after_lines : List (List ℕ) → Option Parts → Option Parts
after_lines passed none = none
after_lines passed (some ps) = some (record { list = passed ++ ps.list; inputs = ps.inputs })

after_next : (passed : List (List ℕ)) (l : List ℕ) (rest : Option Parts) → after_lines passed (cons_part l rest) ≡ after_lines (passed ++ l ∷ []) rest
unfolding after_lines cons_part
after_next passed l none = refl
after_next passed l (some ps) = ap (λ (ls : List (List ℕ)). some (record { list = ls; inputs = ps.inputs })) (sym (append_assoc passed (l ∷ []) ps.list))

before-all : (rest : Option Parts) → rest ≡ after_lines [] rest
unfolding after_lines
before-all none = refl
before-all (some ps) = refl

-- before the line that starts at `at`, none was `end`
pub record Seeking (input : List ℕ) (at lines : ℕ) : Type 0 where
  pub passed : List (List ℕ)
  pub inside : at ≤ length input
  pub few : lines ≤ at
  pub counted : lines ≡ length passed
  pub listed : take at input ≡ joined passed
  pub left : parts_of (lines_of input) ≡ after_lines passed (parts_of (lines_from input at))

pub seeking-start : (input : List ℕ) → Seeking input 0 0
unfolding joined
seeking-start input =
    record { passed = []; inside = omega arith; few = omega arith; counted = refl; listed = refl; left = before-all (parts_of (lines_of input)) }

module _ {input : List ℕ} {at lines : ℕ} (s : Seeking input at lines) where
  pub seeking-end : length input ≤ at → parts_of (lines_of input) ≡ none
  unfolding parts_of after_lines
  seeking-end h = s.left ∙ rw (lines_none input at h)

  module _ (ended : is_ended input ≡ true) (h : at < length input) {end : ℕ} (found : Found 10 input at end) {same : Bool}
      (e : same ≡ same_bytes (take (end - at) (drop at input)) (bytes "end")) where
    abbrev line : List ℕ
    line = take (end - at) (drop at input)

    within : end < length input
    within = line-within input ended h found

    line-length : length line ≡ end - at
    line-length = length-take-le (end - at) (drop at input) (omega (arith, length-drop at input, within))

    pub seeking-turn : same ≡ false → Seeking input (end + 1) (lines + 1)
    unfolding parts_of
    seeking-turn differs = record {
      passed = s.passed ++ line ∷ [];
      inside = omega (arith, within);
      few = omega (arith, s.few, found.low);
      counted = omega (arith, s.counted, length-append s.passed (line ∷ []));
      listed = one_more ∙ sym (joined-more s.passed line);
      left = s.left ∙ rw (lines_next input ended h found, sym e ∙ differs) (after_next s.passed line (parts_of (lines_from input (end + 1))));
    }
      where
        one_more : take (end + 1) input ≡ joined s.passed ++ (line ++ 10 ∷ [])
        one_more =
            let upto : at + (end - at) ≡ end = omega (arith, found.low) in
            let parted : take end input ≡ take at input ++ line =
            ap (λ (i : ℕ). take i input) (sym upto) ∙ take-add at (end - at) input in
            rw (add-one end, take-suc input end 0 within, found-byte found within, parted, s.listed) (append_assoc (joined s.passed) line (10 ∷ []))

    pub seeking-found : same ≡ true → EndsAt input (record { at = at; lines = lines })
    unfolding parts_of after_lines bytes
    seeking-found is = record {
      parts = record { list = s.passed; inputs = lines_from input (at + 4) };
      are = s.left ∙ rw (lines_next input ended h found, sym e ∙ is, append-nil s.passed, after);
      inside = omega (arith, after, within);
      listed = s.listed;
      counted = s.counted;
      left = refl;
    }
      where
        after : end + 1 ≡ at + 4
        after = omega (arith, ap length (same-spelled line (101 ∷ 110 ∷ 100 ∷ []) (sym e ∙ is)), line-length, found.low)
