-- What is known before a line: the ends of each value, its cell, and the counts so far; the forms that digits are asked for; and the digit rule.
-- Reading goes by it alone; clauses 5.1, 5.12, 5.13, 6.1 and 9.5 of docs/FORMAT.md.
use Rattle.std.specs.Prelude.{ℕ, ◌*◌, ◌-◌, ◌^◌, Bool, cond, ◌&&◌, List, [], ◌∷◌, leb, get_or, ℤ, pos, ◌+ℤ◌, ◌-ℤ◌, ◌≤ℤ◌}
use Rattle.std.specs.Int.Signed.{le_z}
use Rattle.meaning.specs.Number.{lowest, highest}

-- the greater and the lesser of two whole numbers
unfoldable pub larger : ℤ → ℤ → ℤ
larger a b = cond (le_z a b) b a

unfoldable pub smaller : ℤ → ℤ → ℤ
smaller a b = cond (le_z a b) a b

-- the lowest and the highest known end of a value or a form. FORMAT 5.1
pub record Ends : Type 0 where
  pub E : ℤ
  pub F : ℤ

abbrev pub ends : ℤ → ℤ → Ends
ends e f = record { E = e; F = f }

-- what reading knows, and counts. FORMAT 8.7, 9.5
pub record Known : Type 0 where
  pub p : ℕ
  -- of each value, its known ends and its cell
  pub known : List Ends
  pub places : List ℕ
  -- how many inputs, cells and rows the lines so far have
  pub inputs : ℕ
  pub cells : ℕ
  pub rows : ℕ

-- before line 0. FORMAT 9.5
unfoldable pub fresh : Known
fresh = record { p = 0; known = []; places = []; inputs = 0; cells = 0; rows = 0 }

-- a value's known ends. FORMAT 5.1
unfoldable pub ends_of : Known → (value : ℕ) → Ends
ends_of s v = get_or s.known v (ends (pos 0) (pos 0))

-- a value's cell. FORMAT 7.2
unfoldable pub place_of : Known → (value : ℕ) → ℕ
place_of s v = get_or s.places v 0

-- each value lies between its ends. FORMAT 5.1
abbrev pub Within : List Ends → List ℤ → Type 0
Within [] [] = Unit {0}
Within [] (v ∷ vs) = ⊥
Within (e ∷ es) [] = ⊥
Within (e ∷ es) (v ∷ vs) = (e.E ≤ℤ v) × (v ≤ℤ e.F) × Within es vs

-- the ends lie in the signed range. FORMAT 5.1
abbrev pub Ranged : ℕ → List Ends → Type 0
Ranged p [] = Unit {0}
Ranged p (e ∷ es) = (lowest p ≤ℤ e.E) × (e.F ≤ℤ highest p) × Ranged p es

-- ---- the digit rule

-- B. FORMAT 3.4
unfoldable pub top_part : (b k : ℕ) → ℕ
top_part b k = (b - 1) * b ^ (k - 1)

-- does the rule allow a digit group over a form with these ends, with shift L? FORMAT 6.1, 6.5
unfoldable pub digit_rule : (p b k : ℕ) → Ends → ℤ → Bool
digit_rule p b k es L =
    leb (b ^ k) p && le_z (es.F -ℤ L) (pos (p - 1)) && le_z (L +ℤ pos (b ^ k - 1) -ℤ es.E) (pos (p - 1))

-- the ends of u - v. FORMAT 5.12
unfoldable pub apart : Ends → Ends → Ends
apart u v = ends (u.E -ℤ v.F) (u.F -ℤ v.E)

-- the ends of y - u for y the greater of u and v. FORMAT 5.13
unfoldable pub above : Ends → Ends → Ends
above u v = ends (smaller (pos 0) (v.E -ℤ u.F)) (larger (pos 0) (v.F -ℤ u.E))
