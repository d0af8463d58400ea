-- A line of a list that was read, as the code has it when it walks the list again: its word, its numbers, and what is known before it.
use Rattle.std.specs.Prelude.{◌≡◌, true, false, List, ℕ, ◌≤◌, ℤ, length}
use Rattle.meaning.specs.Word.{Word, kind_of}
use Rattle.meaning.specs.Known.{Known}
use Rattle.meaning.specs.Meaning.{gadget}
use Rattle.meaning.specs.Gadget.Interface.{Gadget}
use Rattle.meaning.specs.Kept.{Keeps, Sound}
use Rattle.rules.specs.Ready.{greatest, Small}
use Rattle.rules.specs.Yield.{line_with}

-- a line with this word and these numbers; it keeps the rules in the state before it
pub record KeptLine (w : Word) (numbers : List ℤ) : Type 0 where
  -- its number in the list, and what is known before it
  pub line : ℕ
  pub state : Known
  pub sound : Sound line state
  pub keeps : Keeps line state (line_with w numbers)
  pub p-most : (kind_of w).is_field ≡ false → state.p ≤ greatest
  pub counted : (kind_of w).is_counted numbers ≡ true
  pub small : Small (length numbers) numbers

module _ {w : Word} {numbers : List ℤ} (l : KeptLine w numbers) where
  abbrev pub gadget_of : Gadget
  gadget_of = gadget l.state (line_with w numbers)

  -- how many values there are before the line
  abbrev pub known_count : ℕ
  known_count = length l.state.known
