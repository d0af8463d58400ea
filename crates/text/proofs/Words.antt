-- Laws of words: the two bytes that tell which word a field may be, the comparison with that word's spelling, and what it says of all words.
use mathlib.Core.Path.{◌≡◌, refl, sym, ap, ◌∙◌}
use mathlib.Core.Bool.{Bool, true, false, cond, ◌&&◌, ◌||◌}
use mathlib.Core.List.{List, [], ◌∷◌, ◌++◌, append_assoc, append-nil}
use mathlib.Core.Logic.{◌≢◌}
use mathlib.Core.Option.{none}
use Prim.Native.Nat.{ℕ, zero, suc, ◌+◌, ◌≤◌, ◌<◌}
use native.Mathlib.Omega.{arith}
use borrow.Author.Tests.{ltb-true}
use lib.Dec.{eqb, ltb}
use lib.ListN.{length, get_or, take, drop, length-drop, length-take, length-append, take-append-drop, get_or-append}
use lib.Seq.{get_or-take, get_or-drop, take_all, take-suc}
use Rattle.std.proofs.lemmas.List.{drop-append-le}
use Rattle.std.specs.Bool.{then_some}
use Rattle.meaning.specs.Text.{bytes, same_bytes, is_ended}
use Rattle.meaning.specs.Word.{Word, field, input, span, sum, relu, which, max, root, words, kind_of}
use Rattle.meaning.specs.Line.{word_among}
use Rattle.meaning.specs.Refusal.{all}
use Rattle.meaning.proofs.Words.{every-word, all_above, same-spelled, among-spelling}
use Rattle.meaning.proofs.Results.{none-refused}
use Rattle.text.specs.declared.Word.{Word as Read}
use Rattle.std.specs.Prelude.{None}
use Rattle.text.specs.Word.{word_of, WordYield, OnlyWord}
use Rattle.text.specs.Place.{index_of, end_of, field_at, up_to}
use Rattle.text.proofs.Places.{Searched, search-past, search-stop, field-empty, field-more}
use Rattle.text.proofs.Ends.{InLine, in-line, place_inside, cut-length, cut-byte, before-end, place-next, field-ends, ends-field, no-field-end}

-- ---- what comparing asks of a spelling

above-both : (t u : Bool) → t && u ≡ true → (t ≡ true) × (u ≡ true)
above-both true true q = (refl, refl)
above-both true false q = (refl, q)
above-both false u q = let z : ◌≡◌ {A = ℕ} 0 1 = cc in absurd (omega arith)

above_at : (xs : List ℕ) → all_above xs ≡ true → (k : ℕ) → k < length xs → 10 < get_or xs k 0
unfolding all_above
above_at [] q k h = absurd (omega arith)
above_at (x ∷ xs) q zero h = ltb-true 10 x (above-both (ltb 10 x) (all_above xs) q).0
above_at (x ∷ xs) q (suc k) h = above_at xs (above-both (ltb 10 x) (all_above xs) q).1 k (omega arith)

-- a spelling has two bytes or more, which tell its word, and none that ends a field or a line
is_comparable : List ℕ → Bool
is_comparable spelled = ltb 1 (length spelled) && all_above spelled

spelling-comparable : (w : Word) → (ltb 1 (length (kind_of w).spelling) ≡ true) × (all_above (kind_of w).spelling ≡ true)
unfolding is_comparable all_above kind_of bytes words all
spelling-comparable w = above-both _ _ (every-word (λ v. is_comparable (kind_of v).spelling) refl w)

-- ---- the word that two bytes tell

unfoldable pub word_by_bytes : (first second : ℕ) → Word
word_by_bytes first second =
    cond (eqb first 115) (cond (eqb second 117) sum span)
    (cond (eqb first 114) (cond (eqb second 101) relu root)
    (cond (eqb first 102) field (cond (eqb first 105) input (cond (eqb first 119) which max))))

word-by-spelling : (w : Word) → word_by_bytes (get_or (kind_of w).spelling 0 0) (get_or (kind_of w).spelling 1 0) ≡ w
unfolding word_by_bytes kind_of bytes
word-by-spelling field = refl
word-by-spelling input = refl
word-by-spelling span = refl
word-by-spelling sum = refl
word-by-spelling relu = refl
word-by-spelling which = refl
word-by-spelling max = refl
word-by-spelling root = refl

-- a byte of the field at a place is a byte of the text
field-at : {text : List ℕ} {at end : ℕ} → InLine text at end → (k : ℕ) → k < length (field_at (take end text) at)
    → get_or (field_at (take end text) at) k 0 ≡ get_or text (at + k) 0
unfolding field_at
field-at {text} {at} {end} l k h =
    let line = take end text in
    let n = index_of 9 (drop at line) in
    let long = length-take n (drop at line) in
    get_or-take n (drop at line) k 0 (omega (arith, long)) ∙ get_or-drop at line k 0
    ∙ get_or-take end text (at + k) 0 (omega (arith, long, length-drop at line, cut-length l))

word-by-bytes : {text : List ℕ} {at end : ℕ} → InLine text at end → (w : Word) → field_at (take end text) at ≡ (kind_of w).spelling → w ≡ word_by_bytes (get_or text at 0) (get_or text (at + 1) 0)
word-by-bytes {text} {at} {end} l w q =
    let long : 1 < length (kind_of w).spelling = ltb-true 1 (length (kind_of w).spelling) (spelling-comparable w).0 in
    let e : at + 0 ≡ at = omega arith in
    let same = ap length q in
    let first : get_or (kind_of w).spelling 0 0 ≡ get_or text at 0 =
    ap (λ (xs : List ℕ). get_or xs 0 0) (sym q) ∙ (rw e at (field-at l 0 (omega (arith, same)))) in
    let second : get_or (kind_of w).spelling 1 0 ≡ get_or text (at + 1) 0 = ap (λ (xs : List ℕ). get_or xs 1 0) (sym q) ∙ field-at l 1 (omega (arith, same)) in
    sym (word-by-spelling w) ∙ rw (first, second)

-- ---- the same as the check applies them: a place in an ended text

pub second_inside : (text : List ℕ) (at : ℕ) → is_ended text ≡ true → at < length text → get_or text at 0 ≢ 10 → at + 1 < length text
second_inside text at ended h q = place_inside (place-next (in-line text ended at h) q)

pub only_by_bytes : (text : List ℕ) (at : ℕ) → is_ended text ≡ true → at < length text → (w : Read)
    → word_by_bytes (get_or text at 0) (get_or text (at + 1) 0) ≡ word_of w → OnlyWord (up_to text at) at w
only_by_bytes text at ended h w is other q = word-by-bytes (in-line text ended at h) other q ∙ is

-- ---- a text that goes on with a spelling, or with other bytes

-- the text goes on with the field
field-front : {text : List ℕ} {at end : ℕ} → InLine text at end
    → let left = drop at (take end text) in drop at text ≡ field_at (take end text) at ++ (drop (index_of 9 left) left ++ drop end text)
unfolding field_at
field-front {text} {at} {end} l =
    let line = take end text in
    let left = drop at line in
    let inside : at ≤ length line = omega (arith, cut-length l, l.found.low) in
    ap (drop at) (sym (take-append-drop end text)) ∙ drop-append-le at line (drop end text) inside
    ∙ ap (λ (xs : List ℕ). xs ++ drop end text) (sym (take-append-drop (index_of 9 left) left)) ∙ append_assoc (take (index_of 9 left) left) (drop (index_of 9 left) left) (drop end text)

-- the text's next i bytes are those of a spelling: what is left of the field is the same as what is left of the spelling just where all is
pub record Spelling (text : List ℕ) (at end : ℕ) (spelled : List ℕ) (i : ℕ) : Type 0 where
  pub place : InLine text (at + i) end
  pub searched : Searched 9 (take end text) at (at + i)
  pub left : field_at (take end text) at ≡ take i spelled ++ field_at (take end text) (at + i)

pub spelling-start : {text : List ℕ} {at end : ℕ} → InLine text at end → (spelled : List ℕ) → Spelling text at end spelled 0
spelling-start {text} {at} {end} l spelled =
    let e : at + 0 ≡ at = omega arith in record {
      place = rw e l;
      searched = rw e (record { low = omega arith; high = omega (arith, cut-length l, l.found.low); same = refl });
      left = rw e refl;
    }

spelling-next : {text : List ℕ} {at end : ℕ} {spelled : List ℕ} {i : ℕ} → Spelling text at end spelled i → i < length spelled → 10 < get_or spelled i 0
    → get_or text (at + i) 0 ≡ get_or spelled i 0 → Spelling text at end spelled (suc i)
spelling-next {text} {at} {end} {spelled} {i} s h letter q =
    let line = take end text in
    let next : (at + i) + 1 ≡ at + suc i = omega arith in
    let inside : at + i < end = before-end s.place (λ e. omega arith) in
    let byte : get_or line (at + i) 0 ≡ get_or spelled i 0 = cut-byte s.place inside ∙ q in
    let within : at + i < length line = omega (arith, cut-length s.place, inside) in
    let no-tab : get_or line (at + i) 0 ≡ 9 → ⊥ = λ t. omega arith in
    record {
      place = rw next at (place-next s.place (λ t. omega arith));
      searched = search-past s.searched within no-tab (sym next);
      left =
          s.left ∙ ap (λ (xs : List ℕ). take i spelled ++ xs) (rw (byte, next) at (field-more line (at + i) within no-tab))
          ∙ sym (append_assoc (take i spelled) (get_or spelled i 0 ∷ []) (field_at line (at + suc i)))
          ∙ ap (λ (xs : List ℕ). xs ++ field_at line (at + suc i)) (sym (take-suc spelled i 0 h));
    }

-- ---- a word, as the check asks for it

-- ---- the word among all words

among_none : (ws : List Word) (f : List ℕ) → ((w : Word) → f ≢ (kind_of w).spelling) → word_among ws f ≡ none
unfolding word_among
among_none [] f no_word = refl
among_none (w ∷ ws) f no_word = rw (differs (same_bytes (kind_of w).spelling f) refl) (among_none ws f no_word)
  where
    differs : (t : Bool) → same_bytes (kind_of w).spelling f ≡ t → t ≡ false
    differs true q = absurd (no_word w (sym (same-spelled (kind_of w).spelling f q)))
    differs false q = refl

module _ (text : List ℕ) (at : ℕ) (ended : is_ended text ≡ true) (inside : at < length text) (w : Read) (only : OnlyWord (up_to text at) at w) where
  abbrev spelled : List ℕ
  spelled = (kind_of (word_of w)).spelling

  abbrev line : List ℕ
  line = up_to text at

  l : InLine text at (end_of text at)
  l = in-line text ended at inside

  -- the field is none, where it is not the only word that it may be
  no_word : field_at line at ≢ spelled → WordYield line at None
  unfolding WordYield
  no_word differs = none-refused 3 (among_none words (field_at line at) (λ other q. differs (q ∙ ap (λ (v : Word). (kind_of v).spelling) (only other q))))

  -- where the text does not go on with the spelling
  pub other_word : ((rest : List ℕ) → drop at text ≢ spelled ++ rest) → WordYield line at None
  other_word differs = no_word (λ q. differs _ (rw q at (field-front l)))

  -- before a byte of the spelling
  module _ {i : ℕ} (s : Spelling text at (end_of text at) spelled i) (h : i < length spelled) where
    pub byte_there : at + i < length text
    byte_there = place_inside s.place

    pub byte_differs : get_or text (at + i) 0 ≢ get_or spelled i 0 → WordYield line at None
    byte_differs differs =
        other_word (λ rest q. differs (sym (get_or-drop at text i 0) ∙ ap (λ (xs : List ℕ). get_or xs i 0) q ∙ get_or-append spelled rest 0 i h))

    pub byte_same : get_or text (at + i) 0 ≡ get_or spelled i 0 → Spelling text at (end_of text at) spelled (i + 1)
    byte_same q =
        let e : i + 1 ≡ suc i = omega arith in
        rw e (spelling-next s h (above_at spelled (spelling-comparable (word_of w)).1 i h) q)

  -- after the last
  module _ (s : Spelling text at (end_of text at) spelled (length spelled)) where
    pub after_word : at + length spelled < length text
    after_word = place_inside s.place

    field_is : field_at line at ≡ spelled ++ field_at line (at + length spelled)
    field_is = s.left ∙ ap (λ (xs : List ℕ). xs ++ field_at line (at + length spelled)) (take_all (length spelled) spelled (omega arith))

    -- the field is the word where it ends after the spelling, and longer where it does not
    pub word_there : (t : Bool) → t ≡ (eqb (get_or text (at + length spelled) 0) 9 || eqb (get_or text (at + length spelled) 0) 10)
        → WordYield line at (then_some t (record { value = w; end = at + length spelled }))
    unfolding WordYield
    word_there true q =
        let here = field-ends s.place (ends-field _ (sym q)) in
        let is : field_at line at ≡ spelled = field_is ∙ rw (field-empty line (at + length spelled) here) (append-nil spelled) in
        (rw is (among-spelling (word_of w)), search-stop s.searched here)
    word_there false q =
        let stop = no-field-end _ (sym q) in
        let before = before-end s.place stop.1 in
        let more = field-more line (at + length spelled) (omega (arith, cut-length s.place, before)) (rw (cut-byte s.place before) stop.0) in
        no_word (λ e.
        let long = ap length (sym e ∙ field_is ∙ ap (λ (xs : List ℕ). spelled ++ xs) more) in
        omega (arith, long, length-append spelled (get_or line (at + length spelled) 0 ∷ field_at line (at + length spelled + 1))))
