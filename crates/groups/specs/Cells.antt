-- What the contracts of working a line and writing its cells say, in the terms of the definitions in meaning: how great its numbers are,
-- how an answer is read, what the numbers of a digit group are, and the last two cells of a sign.
use Rattle.std.specs.Prelude.{cond, List, [], ◌∷◌, ℕ, ◌^◌, ◌≤◌, eqb, ℤ, Option, Some, None, Result, Ok, Err}
use Rattle.algebra.specs.Congruence.{inverse}
use Rattle.meaning.specs.Refusal.{Result as Yield, value, refused_by, most_digits}
use Rattle.number.specs.declared.whole.Whole.{Whole}
use Rattle.refusal.specs.declared.refused.Refusal.{Refusal}
use Rattle.refusal.specs.Refusal.{number_of}

-- the size of a value, of a power c = b^k, and of a form with its shift, by which nothing that a line computes leaves a machine word
abbrev pub value_bound : ℕ
value_bound = 2 ^ 30

abbrev pub power_bound : ℕ
power_bound = 2 ^ 31

abbrev pub form_bound : ℕ
form_bound = 2 ^ 61

-- the values that the line makes, one or none, or its refusal
abbrev pub worked_meaning : Result (Option Whole) Refusal → Yield (List ℤ)
worked_meaning (Ok (Some x)) = value (x.0 ∷ [])
worked_meaning (Ok None) = value []
worked_meaning (Err r) = refused_by (number_of r)

-- the numbers of a digit group: the base, the count of its digits, and c = b ^ k
pub record GroupOf (b k : ℕ) : Type 0 where
  pub base : 2 ≤ b
  pub some-digit : 1 ≤ k
  pub few : k ≤ most_digits
  pub small : b ^ k ≤ power_bound

-- f and w, for t modulo p: the last two cells of `sign_cells`
unfoldable pub flag_cells : (p t : ℕ) → List ℕ
flag_cells p t = cond (eqb t 0) 1 0 ∷ cond (eqb t 0) 0 (inverse p t) ∷ []
