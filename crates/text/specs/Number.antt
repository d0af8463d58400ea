-- How the number readers' answers are read as values of the definitions. A field that spells no number is refusal 3.
use Rattle.std.specs.Prelude.{◌≡◌, ℕ, ℤ, cond, ◌&&◌, List, leb, Option as Answer, Some, None}
use Rattle.std.proofs.Math.Option.{Option, none, some}
use Rattle.meaning.specs.Text.{decimal, is_plain, largest, number}
use Rattle.meaning.specs.Refusal.{refused_by, or_refused}
use Rattle.text.specs.declared.Field.{Field}
use Rattle.text.specs.Place.{Found, line_at, field_at}

-- the answer is the number that bytes spell, and the place where they end
unfoldable pub NumberSpelled : (bytes : List ℕ) → (Ends : ℕ → Type 0) → Answer (Field ℤ) → Type 0
NumberSpelled bytes Ends (Some f) = (number bytes ≡ some f.value) × Ends f.end
NumberSpelled bytes Ends None = or_refused 3 (number bytes) ≡ refused_by 3

-- of the field at a place
abbrev pub NumberYield : List ℕ → ℕ → Answer (Field ℤ) → Type 0
NumberYield line at r = NumberSpelled (field_at line at) (Found 9 line at) r

-- of the line at a place
abbrev pub WholeYield : List ℕ → ℕ → Answer (Field ℤ) → Type 0
WholeYield text at r = NumberSpelled (line_at text at) (Found 10 text at) r

-- the size of the number above 0 that these bytes spell: what the definition of a number asks of the bytes after its sign
unfoldable pub plain_size : List ℕ → Option ℕ
plain_size xs = cond (is_plain xs && leb (decimal 0 xs) largest) (some (decimal 0 xs)) none

-- the answer is the size that the field at a place spells, and the place where that field ends
unfoldable pub SizeRead : List ℕ → ℕ → Answer (Field ℕ) → Type 0
SizeRead line at (Some f) = (plain_size (field_at line at) ≡ some f.value) × Found 9 line at f.end
SizeRead line at None = or_refused 3 (plain_size (field_at line at)) ≡ refused_by 3
