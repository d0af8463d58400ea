-- The lines that have a base and a digit count: span, relu, which, max and root. In what they differ is their `Layout`; what they yield up
-- to rule 9 follows from it.
use mathlib.Core.Path.{◌≡◌, refl, sym, ap, ◌∙◌}
use mathlib.Core.Bool.{Bool, true, false, cond, ◌&&◌}
use mathlib.Core.List.{List}
use Prim.Native.Nat.{ℕ, ◌+◌, ◌*◌}
use lib.ListN.{length, get_or}
use lib.IntN.{ℤ, pos, nat_abs}
use Rattle.meaning.specs.Word.{Word, kind_of}
use Rattle.meaning.specs.Known.{Known, Ends}
use Rattle.meaning.specs.Gadget.Interface.{Gadget}
use Rattle.meaning.specs.Meaning.{gadget}
use Rattle.meaning.specs.Refusal.{all, is_ranged, is_made, is_digits}
use Rattle.std.specs.Prelude.{Result, Ok, Err}
use Rattle.refusal.specs.Refusal.{number_of}
use Rattle.refusal.specs.declared.refused.Refusal.{Refusal}
use Rattle.refusal.specs.declared.refused.Refusal.TheVariants.{NumberOffRange}
use Rattle.rules.specs.Ready.{Represented}
use Rattle.std.specs.Result.{IsErrAnd}
use Rattle.rules.specs.Yield.{Yield, refuses, made_meaning, yield_of, line_with}
use Rattle.rules.specs.Rule.{begun_at, begun_unless, early_broken}
use Rattle.rules.specs.declared.ends.Ends.{Ends as ReadEnds}
use Rattle.meaning.specs.Word.{Digits as Meant}
use Rattle.rules.proofs.Values.{known-count}
use Rattle.rules.proofs.Rules.{late, passed-on, yield_with, yield_unless, early_of, yield-by-rules}

-- a kind of line: its word, and where its base stands; what else rule 6 asks of it, and how its names are tested; how many values it makes and
-- how its cells are counted; and its gadget, by its base and its digit count
pub record Layout : Type 0 where
  pub word : Word
  pub at : ℕ
  pub ranged : ℕ → List ℤ → Bool
  pub named : ℕ → List ℤ → Bool
  pub new : ℕ
  pub each : ℕ
  pub more : ℕ
  pub line : Known → List ℤ → (b k : ℕ) → Gadget

-- and that the definitions have it so
pub record Shape (K : Layout) : Type 0 where
  pub plain : (kind_of K.word).is_field ≡ false
  pub ranges : (p : ℕ) (ns : List ℤ) → is_ranged p K.word ns
      ≡ is_digits (record { b = get_or ns K.at (pos 0); k = get_or ns (K.at + 1) (pos 0) }) && K.ranged p ns
  pub names : (n : ℕ) (ns : List ℤ) → all (is_made n) ((kind_of K.word).names ns) ≡ K.named n ns
  pub is : (s : Known) (ns : List ℤ) → (kind_of K.word).gadget s ns ≡ K.line s ns (nat_abs (get_or ns K.at (pos 0))) (nat_abs (get_or ns (K.at + 1) (pos 0)))
  pub makes-so-many : (s : Known) (ns : List ℤ) (b k : ℕ) → length (K.line s ns b k).made ≡ K.new
  pub cells : (s : Known) (ns : List ℤ) (b k : ℕ) → (K.line s ns b k).width ≡ K.each * k + K.more

abbrev tested : ℤ → ℤ → Bool
tested x y = is_digits (record { b = x; k = y })

-- what a line yields that has begun so, by what it yields from rule 10 on
abbrev yield_begun : Result Meant Refusal → (rest : (b k : ℕ) → Yield) → Yield
yield_begun (Err broken) rest = refuses (number_of broken)
yield_begun (Ok d) rest = rest (nat_abs d.b) (nat_abs d.k)

module _ (x y : ℤ) where
  abbrev both : Meant
  both = record { b = x; k = y }

  yield-if : (t : Bool) (early : Result Unit Refusal) (rest : ℕ → ℕ → Yield)
      → yield_begun (cond t (begun_unless early both) (Err NumberOffRange)) rest ≡ cond t (yield_unless early (rest (nat_abs x) (nat_abs y))) (refuses 6)
  yield-if true (Ok kept) rest = refl
  yield-if true (Err broken) rest = refl
  yield-if false early rest = refl

  -- a line begins well with its own base and digit count alone
  goes : (t : Bool) (early : Result Unit Refusal) (d : Meant) → Ok d ≡ cond t (begun_unless early both) (Err NumberOffRange) → d ≡ both
  goes true (Ok kept) d q = cc
  goes true (Err broken) d q = cc
  goes false early d q = cc

module _ {K : Layout} (shape : Shape K) {s : Known} {p cells : ℕ} {known : List ReadEnds} (meaning : Represented s p cells known) (ns : List ℤ) where
  abbrev x : ℤ
  x = get_or ns K.at (pos 0)

  abbrev y : ℤ
  y = get_or ns (K.at + 1) (pos 0)

  -- what the rules 6 to 9 say of it
  abbrev begun_by : Result Meant Refusal
  begun_by = begun_at ns K.at (K.ranged p ns) (K.named (length known) ns) (length known) K.new cells K.each K.more

  abbrev early : Result Unit Refusal
  early = early_broken (K.named (length known) ns) (length known) K.new cells (K.each * nat_abs y + K.more)

  ranged-is : is_ranged s.p K.word ns ≡ tested x y && K.ranged p ns
  ranged-is = rw meaning.prime (shape.ranges p ns)

  early-is : early_of s K.word ns ≡ early
  early-is = rw (shape.is s ns, shape.makes-so-many s ns (nat_abs x) (nat_abs y), shape.cells s ns (nat_abs x) (nat_abs y), known-count meaning, meaning.cells_are, shape.names (length known) ns) refl

  -- over any ends that it yields where no rule is broken
  yield-with : (es : List Ends) → yield_with s (line_with K.word ns) es ≡ yield_begun begun_by (λ b k. late (K.line s ns b k) es)
  yield-with es =
      yield-by-rules s K.word ns es shape.plain ∙ rw (ranged-is, early-is, shape.is s ns)
      (sym (yield-if x y (tested x y && K.ranged p ns) early (λ b k. late (K.line s ns b k) es)))

  -- where one of them is broken, that refusal is passed on
  pub stops-with : (es : List Ends) {broken : Refusal} → Err broken ≡ begun_by → (r : Result ReadEnds Refusal) → IsErrAnd r (λ x. x ≡ broken)
      → made_meaning r ≡ yield_with s (line_with K.word ns) es
  stops-with es {broken} q r passed = passed-on r broken passed ∙ sym (yield-with es ∙ rw (← q))

  pub goes_with : (es : List Ends) {d : Meant} → Ok d ≡ begun_by → yield_with s (line_with K.word ns) es ≡ late (K.line s ns (nat_abs d.b) (nat_abs d.k)) es
  goes_with es q = yield-with es ∙ rw (← q)

  pub own_base : {d : Meant} → Ok d ≡ begun_by → x ≡ d.b
  own_base {d} q = ap (λ (n : Meant). n.b) (sym (goes x y (tested x y && K.ranged p ns) early d q))

  pub own_count : {d : Meant} → Ok d ≡ begun_by → y ≡ d.k
  own_count {d} q = ap (λ (n : Meant). n.k) (sym (goes x y (tested x y && K.ranged p ns) early d q))

  pub digits-stop : {broken : Refusal} → Err broken ≡ begun_by → (r : Result ReadEnds Refusal) → IsErrAnd r (λ x. x ≡ broken)
      → made_meaning r ≡ yield_of s (line_with K.word ns)
  unfolding yield_of gadget
  digits-stop q r passed = stops-with ((kind_of K.word).gadget s ns).made q r passed

  pub digits-late : {d : Meant} → Ok d ≡ begun_by
      → let g = K.line s ns (nat_abs d.b) (nat_abs d.k) in yield_of s (line_with K.word ns) ≡ late g g.made
  unfolding yield_of gadget
  digits-late q = goes_with ((kind_of K.word).gadget s ns).made q ∙ rw (shape.is s ns, own_base q, own_count q)
