-- The five kinds of lines that have a base and a digit count: the `Layout` of each, that the definitions have it so, and what a line of the kind
-- yields, by what the rules 6 to 9 say of it.
use mathlib.Core.Path.{◌≡◌, refl, ◌∙◌}
use mathlib.Core.Bool.{Bool, true, cond, ◌&&◌, and-true}
use mathlib.Core.List.{List, [], ◌∷◌}
use Prim.Native.Nat.{ℕ, ◌^◌}
use native.Mathlib.Omega.{arith}
use lib.ListN.{get_or}
use lib.IntN.{ℤ, pos, nat_abs}
use Rattle.std.specs.Prelude.{Result, Ok, Err}
use Rattle.std.specs.Result.{IsErrAnd}
use Rattle.meaning.specs.Number.{in_range}
use Rattle.meaning.specs.Word.{span, relu, which, max, root, number_at, size_at, digits_at, kind_of}
use Rattle.meaning.specs.Known.{Known, Ends, ends, ends_of, apart, above, digit_rule}
use Rattle.meaning.specs.Gadget.Sign.{sign_shift}
use Rattle.meaning.specs.Gadget.Span.{shared, span_line}
use Rattle.meaning.specs.Gadget.Relu.{relu_line}
use Rattle.meaning.specs.Gadget.Which.{which_line}
use Rattle.meaning.specs.Gadget.Max.{max_line}
use Rattle.meaning.specs.Gadget.Root.{root_line}
use Rattle.meaning.specs.Refusal.{all, is_ranged, is_made}
use Rattle.refusal.specs.declared.refused.Refusal.{Refusal}
use Rattle.rules.specs.declared.base.Digits.{Digits}
use Rattle.rules.specs.declared.ends.Ends.{Ends as ReadEnds}
use Rattle.rules.specs.Ready.{Represented, ends_at}
use Rattle.rules.specs.Yield.{refuses, made_meaning, yield_of, span_yield, line_with, ends_meaning}
use Rattle.rules.specs.Rule.{digits_read, one_begun, two_begun, rule_yield, root_yield, shared_yield, greater_ends}
use Rattle.rules.proofs.Values.{known-ends}
use Rattle.rules.proofs.Rules.{late}
use Rattle.rules.proofs.DigitLines.{Layout, Shape, stops-with, goes_with, own_base, own_count, digits-stop, digits-late}

-- ---- the layouts

-- nothing else is asked by rule 6
abbrev always : ℕ → List ℤ → Bool
always p ns = true

-- the shift of a span
abbrev shift_ranged : ℕ → List ℤ → Bool
shift_ranged p ns = in_range p (get_or ns 3 (pos 0))

abbrev one_name_made : ℕ → List ℤ → Bool
one_name_made n ns = is_made n (get_or ns 0 (pos 0))

abbrev two_names : ℕ → List ℤ → Bool
two_names n ns = is_made n (get_or ns 0 (pos 0)) && is_made n (get_or ns 1 (pos 0))

-- the number that a line's place names a value by
abbrev name_at : List ℤ → ℕ → ℕ
name_at ns i = nat_abs (get_or ns i (pos 0))

abbrev relu_layout : Layout
relu_layout = record { word = relu; at = 1; ranged = always; named = one_name_made; new = 1; each = 1; more = 3; line = λ s ns b k. relu_line s (name_at ns 0) b k }

abbrev root_layout : Layout
root_layout = record { word = root; at = 1; ranged = always; named = one_name_made; new = 1; each = 4; more = 2; line = λ s ns b k. root_line s (name_at ns 0) b k }

abbrev which_layout : Layout
which_layout = record { word = which; at = 2; ranged = always; named = two_names; new = 1; each = 1; more = 3; line = λ s ns b k. which_line s (name_at ns 0) (name_at ns 1) b k }

abbrev max_layout : Layout
max_layout = record { word = max; at = 2; ranged = always; named = two_names; new = 1; each = 2; more = 1; line = λ s ns b k. max_line s (name_at ns 0) (name_at ns 1) b k }

abbrev span_layout : Layout
span_layout = record { word = span; at = 1; ranged = shift_ranged; named = one_name_made; new = 0; each = 1; more = 0; line = λ s ns b k. span_line s (name_at ns 0) b k (get_or ns 3 (pos 0)) }

relu-shape : Shape relu_layout
unfolding kind_of is_ranged all digits_at number_at size_at relu_line
relu-shape = record {
  plain = refl;
  ranges = λ p ns. simp and-true;
  names = λ n ns. simp and-true;
  is = λ s ns. refl;
  makes-so-many = λ s ns b k. refl;
  cells = λ s ns b k. omega arith;
}

root-shape : Shape root_layout
unfolding kind_of is_ranged all digits_at number_at size_at root_line
root-shape = record {
  plain = refl;
  ranges = λ p ns. simp and-true;
  names = λ n ns. simp and-true;
  is = λ s ns. refl;
  makes-so-many = λ s ns b k. refl;
  cells = λ s ns b k. omega arith;
}

which-shape : Shape which_layout
unfolding kind_of is_ranged all digits_at number_at size_at which_line
which-shape = record {
  plain = refl;
  ranges = λ p ns. simp and-true;
  names = λ n ns. simp and-true;
  is = λ s ns. refl;
  makes-so-many = λ s ns b k. refl;
  cells = λ s ns b k. omega arith;
}

max-shape : Shape max_layout
unfolding kind_of is_ranged all digits_at number_at size_at max_line
max-shape = record {
  plain = refl;
  ranges = λ p ns. simp and-true;
  names = λ n ns. simp and-true;
  is = λ s ns. refl;
  makes-so-many = λ s ns b k. refl;
  cells = λ s ns b k. omega arith;
}

span-shape : Shape span_layout
unfolding kind_of is_ranged all digits_at number_at size_at span_line
span-shape = record {
  plain = refl;
  ranges = λ p ns. simp and-true;
  names = λ n ns. simp and-true;
  is = λ s ns. refl;
  makes-so-many = λ s ns b k. refl;
  cells = λ s ns b k. omega arith;
}

-- ---- what they yield: a refusal by the rules 6 to 9 is passed on, and else the rest of the rules decides, over the ends of the values that are named

module _ {s : Known} {p cells : ℕ} {known : List ReadEnds} (meaning : Represented s p cells known) (ns : List ℤ) where
  pub relu_stops : {broken : Refusal} → Err broken ≡ one_begun known cells ns true 1 1 3 → (made : Result ReadEnds Refusal) → IsErrAnd made (λ x. x ≡ broken)
      → made_meaning made ≡ yield_of s (line_with relu ns)
  relu_stops begun made passed = digits-stop relu-shape meaning ns begun made passed

  pub relu_yields : (d : Digits) {e : ReadEnds} → Ok (digits_read d) ≡ one_begun known cells ns true 1 1 3 → ends_meaning e ≡ ends_at known (name_at ns 0)
      → yield_of s (line_with relu ns) ≡ rule_yield (digit_rule p d.base d.count (ends_meaning e) (sign_shift d.base d.count)) (greater_ends (ends (pos 0) (pos 0)) (ends_meaning e))
  unfolding late relu_line
  relu_yields d begun is = digits-late relu-shape meaning ns begun ∙ rw (known-ends meaning, ← is, meaning.prime)

  pub root_stops : {broken : Refusal} → Err broken ≡ one_begun known cells ns true 1 4 2 → (made : Result ReadEnds Refusal) → IsErrAnd made (λ x. x ≡ broken)
      → made_meaning made ≡ yield_of s (line_with root ns)
  root_stops begun made passed = digits-stop root-shape meaning ns begun made passed

  pub root_yields : (d : Digits) → Ok (digits_read d) ≡ one_begun known cells ns true 1 4 2
      → yield_of s (line_with root ns) ≡ root_yield p (d.base ^ d.count)
  unfolding late root_line
  root_yields d begun = digits-late root-shape meaning ns begun ∙ rw meaning.prime

  pub which_stops : {broken : Refusal} → Err broken ≡ two_begun known cells ns 1 3 → (made : Result ReadEnds Refusal) → IsErrAnd made (λ x. x ≡ broken)
      → made_meaning made ≡ yield_of s (line_with which ns)
  which_stops begun made passed = digits-stop which-shape meaning ns begun made passed

  pub which_yields : (d : Digits) {u v : ReadEnds} → Ok (digits_read d) ≡ two_begun known cells ns 1 3
      → ends_meaning u ≡ ends_at known (name_at ns 0) → ends_meaning v ≡ ends_at known (name_at ns 1)
      → yield_of s (line_with which ns) ≡ rule_yield (digit_rule p d.base d.count (apart (ends_meaning u) (ends_meaning v)) (sign_shift d.base d.count)) (ends (pos 0) (pos 1))
  unfolding late which_line
  which_yields d begun first second = digits-late which-shape meaning ns begun ∙ rw (known-ends meaning, known-ends meaning, ← first, ← second, meaning.prime)

  pub max_stops : {broken : Refusal} → Err broken ≡ two_begun known cells ns 2 1 → (made : Result ReadEnds Refusal) → IsErrAnd made (λ x. x ≡ broken)
      → made_meaning made ≡ yield_of s (line_with max ns)
  max_stops begun made passed = digits-stop max-shape meaning ns begun made passed

  pub max_yields : (d : Digits) {u v : ReadEnds} → Ok (digits_read d) ≡ two_begun known cells ns 2 1
      → ends_meaning u ≡ ends_at known (name_at ns 0) → ends_meaning v ≡ ends_at known (name_at ns 1)
      → yield_of s (line_with max ns) ≡ rule_yield (digit_rule p d.base d.count (above (ends_meaning u) (ends_meaning v)) (pos 0) && digit_rule p d.base d.count (above (ends_meaning v) (ends_meaning u)) (pos 0))
      (greater_ends (ends_meaning u) (ends_meaning v))
  unfolding late max_line
  max_yields d begun first second = digits-late max-shape meaning ns begun ∙ rw (known-ends meaning, known-ends meaning, ← first, ← second, meaning.prime)

  -- a span line makes no value: what it yields are the new ends of its value
  abbrev new_ends : List Ends
  new_ends = shared (size_at ns 1) (size_at ns 2) (number_at ns 3) (ends_of s (size_at ns 0)) ∷ []

  pub span_stops : {broken : Refusal} → Err broken ≡ one_begun known cells ns (shift_ranged p ns) 0 1 0 → (made : Result ReadEnds Refusal) → IsErrAnd made (λ x. x ≡ broken)
      → made_meaning made ≡ span_yield s (line_with span ns)
  unfolding span_yield
  span_stops begun made passed = stops-with span-shape meaning ns new_ends begun made passed

  pub span_yields : (d : Digits) {e : ReadEnds} → Ok (digits_read d) ≡ one_begun known cells ns (shift_ranged p ns) 0 1 0 → ends_meaning e ≡ ends_at known (name_at ns 0)
      → let shift : ℤ = get_or ns 3 (pos 0) in
      span_yield s (line_with span ns) ≡ cond (digit_rule p d.base d.count (ends_meaning e) shift) (shared_yield (shared d.base d.count shift (ends_meaning e))) (refuses 10)
  unfolding span_yield size_at number_at late span_line
  span_yields d begun is = goes_with span-shape meaning ns new_ends begun ∙ rw (own_base span-shape meaning ns begun, own_count span-shape meaning ns begun, known-ends meaning, ← is, meaning.prime)

pub ruleset relu_laws = (relu_stops, relu_yields)

pub ruleset root_laws = (root_stops, root_yields)

pub ruleset which_laws = (which_stops, which_yields)

pub ruleset max_laws = (max_stops, max_yields)

pub ruleset span_laws = (span_stops, span_yields)
