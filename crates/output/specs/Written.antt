-- What a writer leaves in the part of the output that is lent to it.
use Rattle.std.specs.Prelude.{◌≡◌, List, [], ◌∷◌, ◌++◌, ◌+◌, ◌/◌, ◌%◌, ℕ, length, drop}
use Rattle.meaning.specs.Text.{decimal_of}

-- the text stands at the start, what comes after it is unchanged, and the text's length is returned
pub record Written (text before after : List ℕ) (r : ℕ) : Type 0 where
  pub stands : after ≡ text ++ drop (length text) before
  pub counted : r ≡ length text

-- a number and the byte after it
abbrev pub field_text : (n end : ℕ) → List ℕ
field_text n end = decimal_of n ++ end ∷ []

-- two digits of a part at a place: what comes after them is unchanged, and so is how long the part is
pub record PairStands (n at : ℕ) (before after : List ℕ) : Type 0 where
  pub stands : drop at after ≡ (48 + n / 10) ∷ (48 + n % 10) ∷ drop (at + 2) before
  pub kept : length after ≡ length before
