-- The word that a code is read as.
use Rattle.std.specs.Prelude.{◌≡◌, ℕ, Result, Ok, Err}
use Rattle.std.proofs.Math.Option.{none, some}
use Rattle.meaning.specs.Write.{word_with}
use Rattle.text.specs.Word.{word_of}
use Rattle.text.specs.declared.Word.{Word}
use Rattle.text.specs.declared.code.UnknownCode.{UnknownCode}

-- the result is the word with this code, or the code, which no word has. FORMAT 9.24
abbrev pub Decodes : ℕ → Result Word UnknownCode → Type 0
Decodes code (Ok w) = word_with code ≡ some (word_of w)
Decodes code (Err unknown) = (word_with code ≡ none) × (unknown.0 ≡ code)
