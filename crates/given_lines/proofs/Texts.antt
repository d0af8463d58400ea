-- The texts of words, lines and lists, in the parts in which they are measured and written: what is left of a text is its next part and what is left
-- after that.
use mathlib.Core.Path.{◌≡◌, refl, sym, ap, ◌∙◌}
use mathlib.Core.Bool.{true}
use mathlib.Core.List.{List, [], ◌∷◌, ◌++◌, append_assoc}
use mathlib.Core.Option.{Option, none, some}
use Prim.Native.Nat.{ℕ, suc, ◌+◌, ◌≤◌, ◌<◌}
use native.Mathlib.Omega.{arith}
use native.Mathlib.Numerals.{add-one}
use borrow.Author.Tests.{leb-true}
use lib.Dec.{leb}
use lib.ListN.{length, get_or, drop, length-append, drop_of_length-le}
use lib.Seq.{drop-cons}
use lib.IntN.{ℤ, pos}
use Rattle.meaning.specs.Text.{bytes, number_text, is_ended}
use Rattle.meaning.specs.Word.{Word, kind_of, words}
use Rattle.meaning.specs.Refusal.{all}
use Rattle.meaning.specs.Write.{Given, given, word_text, fields_text, given_text, text_of}
use Rattle.meaning.proofs.Words.{every-word}
use Rattle.given_lines.specs.Given.{line_text}

-- ---- a text in two parts

pub record Parts (text first rest : List ℕ) : Type 0 where
  pub joined : text ≡ first ++ rest

pub parts-length : {text first rest : List ℕ} → Parts text first rest → length text ≡ length first + length rest
parts-length {first = first} {rest = rest} p = ap length p.joined ∙ length-append first rest

-- ---- a word

pub word-most : (w : Option Word) → length (word_text w) ≤ 5
unfolding word_text all words kind_of bytes
word-most none = omega arith
word-most (some w) = leb-true (length (kind_of w).spelling) 5 (every-word (λ v. leb (length (kind_of v).spelling) 5) refl w)

-- ---- a line

-- its fields after the word, and the byte that ends it
abbrev pub fields_ended : List ℤ → List ℕ
fields_ended ns = fields_text ns ++ 10 ∷ []

pub line-parts : (w : Option Word) (ns : List ℤ) → Parts (line_text (given w ns)) (word_text w) (fields_ended ns)
unfolding given_text
line-parts w ns = record { joined = append_assoc (word_text w) (fields_text ns) (10 ∷ []) }

module _ (ns : List ℤ) (i : ℕ) where
  pub field-parts : i < length ns → Parts (fields_ended (drop i ns)) (9 ∷ number_text (get_or ns i (pos 0))) (fields_ended (drop (i + 1) ns))
  unfolding fields_text
  field-parts h = record {
    joined =
        rw (drop-cons ns i (pos 0) h, add-one i)
        (ap (λ (t : List ℕ). 9 ∷ t) (append_assoc (number_text (get_or ns i (pos 0))) (fields_text (drop (suc i) ns)) (10 ∷ [])));
  }

  pub end-parts : length ns ≤ i → Parts (fields_ended (drop i ns)) (10 ∷ []) []
  unfolding fields_text
  end-parts h = record { joined = ap fields_ended (drop_of_length-le ns h) }

-- ---- a list

pub lines-parts : {gs : List Given} {g : Given} {later : List Given} → gs ≡ g ∷ later → Parts (text_of gs) (line_text g) (text_of later)
unfolding text_of
lines-parts {g = g} {later = later} is = record { joined = ap text_of is ∙ sym (append_assoc (given_text g) (10 ∷ []) (text_of later)) }

pub no_lines : {gs : List Given} → gs ≡ [] → text_of gs ≡ []
unfolding text_of
no_lines is = ap text_of is

-- ---- the text of a list is ended

ended-after : (xs ys : List ℕ) → is_ended ys ≡ true → is_ended (xs ++ ys) ≡ true
unfolding is_ended
ended-after [] ys e = e
ended-after (x ∷ []) [] e = let z : ◌≡◌ {A = ℕ} 0 1 = cc in absurd (omega arith)
ended-after (x ∷ []) (y ∷ ys) e = e
ended-after (x ∷ (z ∷ xs)) ys e = ended-after (z ∷ xs) ys e

lines-ended : (gs : List Given) → is_ended (10 ∷ text_of gs) ≡ true
unfolding text_of is_ended
lines-ended [] = refl
lines-ended (g ∷ gs) = ended-after (10 ∷ given_text g) (10 ∷ text_of gs) (lines-ended gs)

pub text-ended : {gs : List Given} (g : Given) (later : List Given) → gs ≡ g ∷ later → is_ended (text_of gs) ≡ true
unfolding text_of
text-ended g later e = rw e (ended-after (given_text g) (10 ∷ text_of later) (lines-ended later))
