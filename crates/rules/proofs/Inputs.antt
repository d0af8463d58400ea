-- What an input line yields: it breaks no rule but those of room.
use mathlib.Core.Path.{◌≡◌, refl, sym, ◌∙◌}
use mathlib.Core.Bool.{true, false}
use mathlib.Core.List.{List, [], ◌∷◌}
use Prim.Native.Nat.{ℕ}
use Rattle.std.specs.Prelude.{Result, Ok, Err}
use Rattle.std.specs.Result.{IsErrAnd}
use Rattle.refusal.specs.declared.refused.Refusal.{Refusal}
use lib.ListN.{length}
use Rattle.number.proofs.Bounded.{bounded-negation}
use Rattle.meaning.specs.Number.{lowest, highest}
use Rattle.meaning.specs.Word.{input, kind_of}
use Rattle.meaning.specs.Known.{ends, Known}
use Rattle.meaning.specs.Gadget.Input.{input_line}
use Rattle.meaning.specs.Meaning.{gadget}
use Rattle.meaning.specs.Refusal.{all, is_ranged}
use Rattle.rules.specs.Ready.{Represented}
use Rattle.rules.specs.declared.ends.Ends.{Ends}
use Rattle.rules.specs.Yield.{makes, made_meaning, yield_of, line_with}
use Rattle.rules.specs.Rule.{early_broken}
use Rattle.rules.proofs.Values.{known-count}
use Rattle.rules.proofs.Rules.{late, passed-on, yield_unless, early_of, yield-by-rules}

module _ {p cells : ℕ} {known : List Ends} {s : Known} (meaning : Represented s p cells known)
    {n : Result Unit Refusal} (early : n ≡ early_broken true (length known) 1 cells 1) where
  input-plain : (kind_of input).is_field ≡ false
  unfolding kind_of
  input-plain = refl

  input-ranged : is_ranged s.p input [] ≡ true
  unfolding is_ranged all kind_of
  input-ranged = refl

  early-too : early_of s input [] ≡ n
  unfolding kind_of input_line all
  early-too = rw (known-count meaning, meaning.cells_are) (sym early)

  pub input-yield : yield_of s (line_with input []) ≡ yield_unless n (makes (ends (lowest p) (highest p) ∷ []))
  unfolding yield_of gadget kind_of late input_line
  input-yield = yield-by-rules s input [] ((kind_of input).gadget s []).made input-plain ∙ rw (input-ranged, early-too, meaning.prime) refl

  pub input_stops : {broken : Refusal} → n ≡ Err broken → (r : Result Ends Refusal) → IsErrAnd r (λ x. x ≡ broken) → made_meaning r ≡ yield_of s (line_with input [])
  input_stops {broken} is r passed = passed-on r broken passed ∙ sym (input-yield ∙ rw is)

  pub input_made : n ≡ Ok tt → makes (ends (lowest p) (highest p) ∷ []) ≡ yield_of s (line_with input [])
  input_made is = sym (input-yield ∙ rw is)

pub ruleset input_laws = (input_stops, input_made, bounded-negation)
