-- A line that a walk takes, and how the walk then stands.
use Rattle.std.specs.Prelude.{◌≡◌, true, List, ◌∷◌, ℕ, ◌+◌, ◌-◌, ◌≤◌, ◌<◌, ℤ, length, take, Some, None}
use Rattle.std.specs.Prelude.{Option as Perhaps}
use Rattle.meaning.specs.Word.{kind_of, most_numbers}
use Rattle.meaning.specs.Line.{Line}
use Rattle.meaning.specs.Known.{Known}
use Rattle.meaning.specs.Meaning.{after}
use Rattle.meaning.specs.Refusal.{value_limit}
use Rattle.meaning.specs.Kept.{Kept}
use Rattle.text.specs.Word.{word_of}
use Rattle.rules.specs.Ready.{Small}
use Rattle.rules.specs.Yield.{line_with}
use Rattle.reader.specs.Size.{counted}
use Rattle.reader.specs.declared.counts.Counts.{Counts}
use Rattle.service.specs.Walk.{Stands}
use Rattle.service.specs.declared.walk.Taken.{Taken}
use Rattle.service.specs.declared.walk.Walk.{Walk}

-- a walk is over this list, and stands before its first line
pub record StartsAt (list : List ℕ) (w : Walk) : Type 0 where
  pub over : w.text.bytes.now ≡ list
  pub at-start : w.at ≡ 0
  pub first : w.number ≡ 0
  pub none-counted : w.counts ≡ counted 0 0 0 0

-- the line that was taken, as the definitions have it
abbrev pub taken : List ℤ → Taken → Line
taken numbers t = line_with (word_of t.word) (take t.count numbers)

-- it is the first that was left; how the walk stands after it; and what is known of its numbers
pub record Took {list : List ℕ} {last s : Known} {left : List Line} {c : Counts} {at n : ℕ} (stands : Stands list last s left c at n) (numbers : List ℤ) (t : Taken) (after-it : ℕ) : Type 0 where
  pub rest : List Line
  pub left_is : left ≡ taken numbers t ∷ rest
  pub kept : Kept n s (taken numbers t ∷ rest) last
  pub next : Stands list last (after s (taken numbers t)) rest t.after after-it (n + 1)
  pub one_more : t.after.values ≤ t.before.values + 1
  pub counted : (kind_of (word_of t.word)).is_counted (take t.count numbers) ≡ true
  pub few : t.count ≤ most_numbers
  pub small : Small t.count numbers

-- a walk takes the line that it stands before, and its numbers are the first of these
pub record Takes (old new : Walk) (numbers : List ℤ) (t : Taken) : Type 0 where
  pub same_list : new.text.bytes.now ≡ old.text.bytes.now
  pub number_is : t.number ≡ old.number
  pub number-after : new.number ≡ t.number + 1
  pub counts-before : t.before ≡ old.counts
  pub counts-after : new.counts ≡ t.after
  pub shorter : length new.text.bytes.now - new.at < length old.text.bytes.now - old.at
  pub counted : t.count ≤ length numbers
  pub no_fewer : t.before.values ≤ t.after.values
  pub room : t.after.values ≤ value_limit
  pub took : {last s : Known} {left : List Line} → (stands : Stands old.text.bytes.now last s left t.before old.at t.number) → Took stands numbers t new.at

-- or it is at the end of its list
abbrev pub NextYield : (old new : Walk) → List ℤ → Perhaps Taken → Type 0
NextYield old new numbers (Some t) = Takes old new numbers t
NextYield old new numbers None = length old.text.bytes.now ≤ old.at
