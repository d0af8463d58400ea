-- What making a text of bytes yields: the text of these bytes, which is ended, or that they are not ended.
use Rattle.std.specs.Prelude.{◌≡◌, false, List, ℕ, Option, Some, None}
use Rattle.meaning.specs.Text.{is_ended}
use Rattle.text.specs.declared.ended.Text.{Text}

abbrev pub EndedYield : List ℕ → Option Text → Type 0
EndedYield bytes (Some text) = text.bytes.now ≡ bytes
EndedYield bytes None = is_ended bytes ≡ false
