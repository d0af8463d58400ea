-- How the answer of measuring is read: a length that a text may have, or that the text is too long.
use Rattle.std.specs.Prelude.{ℕ, ◌≤◌, ◌<◌, ◌≡◌, Option, Some, None}
use Rattle.meaning.specs.Refusal.{text_limit}

-- the answer for a text of so many bytes. FORMAT 4.8, 10.1
abbrev pub LengthYield : ℕ → Option ℕ → Type 0
LengthYield n (Some m) = (m ≡ n) × (n ≤ text_limit)
LengthYield n None = text_limit < n
