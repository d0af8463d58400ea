-- What the rules that several kinds of lines have in common answer, in the code's own types.
use Rattle.std.specs.Prelude.{Bool, true, cond, Option, Some, None, Result, Ok, Err, ◌&&◌, List, [], ◌∷◌, ℕ, ◌+◌, ◌-◌, ◌*◌, leb, length, get_or, ℤ, pos, nat_abs, ◌+ℤ◌, ◌-ℤ◌}
use Rattle.std.specs.Int.Signed.{le_z}
use Rattle.meaning.specs.Word.{Digits as Meant}
use Rattle.meaning.specs.Known.{ends, larger}
use Rattle.meaning.specs.Known.{Ends as KnownEnds}
use Rattle.meaning.specs.Number.{half}
use Rattle.meaning.specs.Refusal.{Result as Allowed}
use Rattle.meaning.specs.Refusal.{value, refused_by, is_digits, is_made, value_limit, cell_limit}
use Rattle.refusal.specs.declared.refused.Refusal.{Refusal}
use Rattle.refusal.specs.declared.refused.Refusal.TheVariants.{NumberOffRange, NameNotMade, TooManyValues, TooManyCells}
use Rattle.rules.specs.declared.base.Digits.{Digits}
use Rattle.rules.specs.declared.ends.Ends.{Ends}
use Rattle.rules.specs.Yield.{Yield, refuses, makes}

-- a base and a digit count where rule 6 lets them through, and else refusal 6
abbrev pub digits_allowed : (b k : ℤ) → Allowed Meant
digits_allowed b k = let d : Meant = record { b = b; k = k } in cond (is_digits d) (value d) (refused_by 6)

-- the same as the code has it
abbrev pub digits_read : Digits → Meant
digits_read d = record { b = pos d.base; k = pos d.count }

abbrev pub digits_meaning : Option Digits → Allowed Meant
digits_meaning (Some d) = value (digits_read d)
digits_meaning None = refused_by 6

-- the first that is broken of the rules 7 to 9
abbrev pub early_broken : (named : Bool) (values new cells width : ℕ) → Result Unit Refusal
early_broken named values new cells width =
    cond named (cond (leb (values + new) value_limit) (cond (leb (cells + width) cell_limit) (Ok tt) (Err TooManyCells)) (Err TooManyValues)) (Err NameNotMade)

-- a base and a digit count that were read, alone or with the ends of the values that their line names
abbrev pub begun_meaning : {A : Type 0} → (digits : A → Digits) → Result A Refusal → Result Meant Refusal
begun_meaning digits (Ok begun) = Ok (digits_read (digits begun))
begun_meaning digits (Err broken) = Err broken

abbrev pub itself : Digits → Digits
itself d = d

abbrev pub first_of_two : Digits × Ends → Digits
first_of_two begun = begun.0

abbrev pub first_of_three : Digits × Ends × Ends → Digits
first_of_three begun = begun.0

abbrev pub begun_unless : Result Unit Refusal → Meant → Result Meant Refusal
begun_unless (Ok kept) d = Ok d
begun_unless (Err broken) d = Err broken

-- what the rules 6 to 9 say of a line with a base and a digit count: `ranged` is what else rule 6 asks, `early` the first broken of the others
abbrev pub begun : (b k : ℤ) (ranged : Bool) (early : Result Unit Refusal) → Result Meant Refusal
begun b k ranged early = let d : Meant = record { b = b; k = k } in cond (is_digits d && ranged) (begun_unless early d) (Err NumberOffRange)

-- the same of a line whose base stands at a place and its digit count k after it, that makes `new` values and has `each` · k + `more` cells
abbrev pub begun_at : (numbers : List ℤ) (at : ℕ) (ranged named : Bool) (values new cells each more : ℕ) → Result Meant Refusal
begun_at numbers at ranged named values new cells each more =
    let k : ℤ = get_or numbers (at + 1) (pos 0) in
    begun (get_or numbers at (pos 0)) k ranged (early_broken named values new cells (each * nat_abs k + more))

-- of one that names one value before its base and digit count
abbrev pub one_begun : (known : List Ends) (cells : ℕ) (numbers : List ℤ) (ranged : Bool) (new each more : ℕ) → Result Meant Refusal
one_begun known cells numbers ranged new each more = begun_at numbers 1 ranged (is_made (length known) (get_or numbers 0 (pos 0))) (length known) new cells each more

-- of one that names two, and makes one
abbrev pub two_begun : (known : List Ends) (cells : ℕ) (numbers : List ℤ) (each more : ℕ) → Result Meant Refusal
two_begun known cells numbers each more =
    begun_at numbers 2 true (is_made (length known) (get_or numbers 0 (pos 0)) && is_made (length known) (get_or numbers 1 (pos 0))) (length known) 1 cells each more

-- ---- known ends

-- those of the greater of two values
abbrev pub greater_ends : KnownEnds → KnownEnds → KnownEnds
greater_ends u v = ends (larger u.E v.E) (larger u.F v.F)

-- ---- rule 10

-- what is left of the digit rule where c = b^k is at most p
abbrev pub narrow : (p c : ℕ) → KnownEnds → (shift : ℤ) → Bool
narrow p c es shift = le_z (es.F -ℤ shift) (pos (p - 1)) && le_z (shift +ℤ pos (c - 1) -ℤ es.E) (pos (p - 1))

-- what a line yields by this rule, where those up to 9 are kept: the ends that the line makes, or refusal 10
abbrev pub rule_yield : Bool → KnownEnds → Yield
rule_yield kept es = cond kept (makes (es ∷ [])) (refuses 10)

-- of a root line, where the rules up to 9 are kept, with c = b^k: c is at least 3 and c² at most M+1. FORMAT 6.4
abbrev pub root_yield : (p c : ℕ) → Yield
root_yield p c = rule_yield (leb 3 c && leb (c * c) (half p + 1)) (ends (pos 0) (pos (c - 1)))

-- what a span line yields where the rules up to 10 are kept, with the new ends of v
abbrev pub shared_yield : KnownEnds → Yield
shared_yield new = cond (le_z new.E new.F) (makes (new ∷ [])) (refuses 12)
