-- The row of a sum line: the terms one after another.
use mathlib.Core.Path.{◌≡◌, refl, sym, ap, ◌∙◌}
use mathlib.Core.Bool.{cond}
use mathlib.Core.List.{List, [], ◌∷◌, ◌++◌}
use mathlib.Core.Option.{Option, none, some}
use Prim.Native.Nat.{ℕ, ◌<◌}
use native.Mathlib.Omega.{arith}
use lib.Dec.{eqb}
use lib.IntN.{ℤ, pos, nat_abs, ◌+ℤ◌, ◌*ℤ◌}
use lib.ListN.{length, get_or}
use Rattle.meaning.specs.Number.{remainder}
use Rattle.meaning.specs.Word.{number_at, without_first, kind_of}
use Rattle.meaning.specs.Known.{Known, place_of}
use Rattle.meaning.specs.Row.{Form, cell, constant, ◌⊕◌, ◌⊗◌, ◌≅◌, holds}
use Rattle.meaning.specs.Reply.{Reply, reply}
use Rattle.meaning.specs.Gadget.Sum.{terms_of, sum_form, sum_line}
use Rattle.meaning.specs.Meaning.{gadget}
use Rattle.std.specs.Prelude.{Result}
use Rattle.text.specs.Word.{word_of}
use Rattle.text.specs.declared.Word.{Word as Coded}
use Rattle.text.specs.declared.Word.TheVariants.{Sum}
use Rattle.groups.specs.Rows.{Leaves, rows_meaning, first_refusal}
use Rattle.groups.proofs.RowsFirst.{first-none, first-row}
use Rattle.groups.proofs.RowsForm.{leaves-whole, leaves-⊕, leaves-⊗, row-test}
use Rattle.table.specs.LineRows.{RowsGiven, RowsYield}
use Rattle.table.specs.Sum.{PlacesInside}
use Rattle.table.proofs.LineSum.{first-term, no-terms}
use Rattle.table.proofs.WorksLine.{some-number}

-- ---- the sum so far

module _ (p : ℕ) (t : List ℕ) (ns : List ℤ) (places : List ℕ) where
  -- the terms before the pairs that are left are in the form, whose remainder is the total
  pub record Partial (s : Known) (total : ℕ) (pairs : List ℤ) : Type 0 where
    pub form : Form
    pub leaves : Leaves p t total form
    pub same : sum_form s (constant (number_at ns 0)) (terms_of (without_first ns)) ≡ sum_form s form (terms_of pairs)

  abbrev pub SoFar : (total : ℕ) (pairs : List ℤ) → Type 0
  SoFar total pairs = (s : Known) → s.places ≡ places → Partial s total pairs

  pub sum-start : {total : ℕ} {pairs : List ℤ} → 0 < p → pairs ≡ without_first ns → total ≡ remainder p (get_or ns 0 (pos 0)) → SoFar total pairs
  unfolding number_at
  sum-start h d e s _ = rw d (record {
    form = constant (get_or ns 0 (pos 0));
    leaves = leaves-whole p t (get_or ns 0 (pos 0)) h e;
    same = refl;
  })

  module _ (pairs pair rest : List ℤ) (split : pairs ≡ pair ++ rest) (two : length pair ≡ 2) where
    pub sum-next : {total factor part next place found : ℕ} → 0 < p → SoFar total pairs → factor ≡ remainder p (get_or pair 0 (pos 0))
        → place ≡ get_or places (nat_abs (get_or pair 1 (pos 0))) 0 → Leaves p t found (cell place)
        → (part < p) × (part ≡ remainder p (pos factor *ℤ pos found)) → (next < p) × (next ≡ remainder p (pos total +ℤ pos part)) → SoFar next rest
    unfolding sum_form place_of
    sum-next {total} {factor} {part} {next} {place} h before factor-is place_is cell-is part-is next-is s known =
        let b = before s known in
        let coefficient = get_or pair 0 (pos 0) in
        let value = nat_abs (get_or pair 1 (pos 0)) in
        let e : place_of s value ≡ place = rw known (sym place_is) in
        record {
          form = b.form ⊕ constant coefficient ⊗ cell place;
          leaves = leaves-⊕ b.leaves (leaves-⊗ (leaves-whole p t coefficient h factor-is) cell-is part-is) next-is;
          same = b.same ∙ rw (first-term pairs pair rest split two)
              (ap (λ (q : ℕ). sum_form s (b.form ⊕ constant coefficient ⊗ cell q) (terms_of rest)) e);
        }

  pub sum-end : (pairs : List ℤ) {total made : ℕ} {r : Option Reply} (size at : ℕ) → SoFar total pairs → size ≡ 2 → length pairs < size → Leaves p t made (cell at)
      → r ≡ cond (eqb made total) none (some (reply 15 0))
      → (s : Known) → s.cells ≡ at → s.places ≡ places
      → r ≡ first_refusal (holds p t) 0 (sum_line s (number_at ns 0) (terms_of (without_first ns))).rows
  unfolding sum_line sum_form
  sum-end pairs {total} {made} size at before e short cell-is r-is s cells_is known =
      let b = before s known in
      rw (b.same, no-terms size pairs e short)
      (first-row (holds p t) 0 1 (cell at ≅ b.form) [] (omega arith) (row-test cell-is b.leaves) r-is (first-none (holds p t) 1)
      ∙ ap (λ (q : ℕ). first_refusal (holds p t) 0 (cell q ≅ b.form ∷ [])) (sym cells_is))

-- ---- the line, as a list that was read has it

module _ {word : Coded} (is : word ≡ Sum) {p : ℕ} {numbers : List ℤ} {table : List ℕ} {cells : ℕ} {places : List ℕ} where
  pub sum-given : RowsGiven p (word_of word) numbers table cells places
      → (cells < length table) × (0 < length numbers) × PlacesInside numbers places (length table)
  unfolding word_of kind_of gadget sum_line
  sum-given = rw is (λ a. (
    omega (arith, a.room),
    omega (arith, some-number numbers a.kept.counted),
    record { named = rw a.places-long a.kept.keeps.names-made; inside = λ v h. a.inside v (omega (arith, a.places-long)) },
  ))

  pub sum-yield : (r : Result (Unit {0}) ℕ) → ((s : Known) → s.p ≡ p → s.cells ≡ cells → s.places ≡ places
      → rows_meaning r ≡ first_refusal (holds p table) 0 (sum_line s (number_at numbers 0) (terms_of (without_first numbers))).rows)
      → RowsYield p (word_of word) numbers table cells places r
  unfolding word_of kind_of gadget
  sum-yield r yields = rw is (λ a. yields a.kept.state (a.prime refl) a.cells_are a.places-are)
