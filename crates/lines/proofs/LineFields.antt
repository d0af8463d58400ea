-- Laws of the fields of a line at a place in a text, one for each way out of `fields_of`: a word alone, a word with the numbers after it, and
-- numbers alone.
use mathlib.Core.Path.{◌≡◌, refl, sym, ap, ◌∙◌}
use mathlib.Core.Bool.{Bool, true, false, cond}
use mathlib.Core.List.{List, [], ◌∷◌}
use mathlib.Core.Option.{none, some}
use Prim.Native.Nat.{ℕ, ◌+◌, ◌-◌, ◌≤◌, ◌<◌}
use native.Mathlib.Omega.{arith}
use native.Mathlib.Decide.{ℕ_discrete}
use borrow.Author.Tests.{ne_eqb}
use lib.IntN.{ℤ, pos}
use lib.ListN.{length, get_or, take, drop}
use lib.Seq.{length-take-le}
use mir.Syntax.{w64}
use mir.Val.{to_z, of_z}
use mir.ValLaws.{to_z-of_z}
use Rattle.meaning.specs.Text.{is_ended, fields_of, number}
use Rattle.meaning.specs.Word.{sum, words, kind_of, most_numbers}
use Rattle.meaning.specs.Line.{word_among, numbers_of, assemble, line_of}
use Rattle.meaning.proofs.Results.{none-refused, some-value, refused_none}
use Rattle.text.specs.declared.Word.{Word}
use Rattle.std.specs.Prelude.{Option as Answer, Some, None, is_some}
use Rattle.text.specs.declared.Field.{Field}
use Rattle.lines.specs.declared.Fields.{Fields}
use Rattle.text.specs.Number.{NumberSpelled, WholeYield}
use Rattle.text.specs.Word.{word_of, WordYield}
use Rattle.text.specs.Place.{index_of, Found, end_of, up_to, line_at, field_at, fields_from}
use Rattle.lines.specs.Parsed.{parsed_meaning, count_meaning, NumbersYield, worded_by, WordedAs, alone_among, FieldsAre, FieldsYield, LineRead, Stored, leading_numbers, leading}
use Rattle.text.proofs.Places.{parts_after, parts_none, parts_more, fields-from, fields-found}
use Rattle.text.proofs.Numbers.{number_small, small-fits}
use Rattle.text.proofs.Ends.{InLine, in-line, cut-length, before-end, place-next, place-later, same_line, ends-line, line-cut}
use Rattle.lines.proofs.Lines.{line_word, line-no-word, leading-word, leading-no-word, only_one, number-alone, none-alone, many-alone, word-no-number}

take-one : (ns : List ℤ) → 0 < length ns → take 1 ns ≡ get_or ns 0 (pos 0) ∷ []
take-one [] h = absurd (omega arith)
take-one (z ∷ ns) h = refl

-- of the first numbers, so many, one stands alone where they are one
alone-among : (count : ℕ) (ns : List ℤ) → count ≤ length ns → only_one (some (take count ns)) ≡ alone_among count ns
unfolding alone_among only_one
alone-among count ns h = elim (ℕ_discrete count 1) [
  | yes q ↦ rw (q, take-one ns (omega arith))
  | no q ↦ many-alone (take count ns) (λ e. q (sym (length-take-le count ns h) ∙ e)) ∙ rw (ne_eqb count 1 q)
]

-- where nothing was written and nothing is to write
stored-none : (ns : List ℤ) (numbers : List ℤ) → ns ≡ [] → Stored ns numbers numbers
stored-none ns numbers q = rw q (record { stand = refl; kept = refl })

module _ {text : List ℕ} {at : ℕ} (l : InLine text at (end_of text at)) where
  abbrev line : List ℕ
  line = up_to text at

  -- ---- a word

  module _ {r : Answer (Field Word)} (read : WordYield line at r) {f : Field Word} (q : r ≡ Some f) where
    abbrev w : Word
    w = f.value

    abbrev end : ℕ
    end = f.end

    is_word : word_among words (field_at line at) ≡ some (word_of w)
    unfolding WordYield
    is_word = (rw q at read).0

    ends : Found 9 line at end
    unfolding WordYield
    ends = (rw q at read).1

    pub word-place : InLine text end (end_of text at)
    word-place = place-later l ends.low (omega (arith, cut-length l, ends.high))

    fields : fields_of (line_at text at) ≡ field_at line at ∷ parts_after 9 line end
    unfolding fields_of
    fields = rw (line-cut text at) (fields-found line ends)

    -- what the word with so many numbers yields, by whether as many belong to it
    yield-by : (right : Bool) (after : List ℤ) (count : ℕ) {place : ℕ} → (kind_of (word_of w)).is_counted (take count after) ≡ right
        → line_of (line_at text at) ≡ assemble (some (word_of w)) (some (take count after)) → count ≤ most_numbers
        → place ≡ end_of text at + 1 → (f : Fields) → f ≡ worded_by right w count place → FieldsYield text at after (Some f)
    unfolding worded_by FieldsYield FieldsAre assemble alone_among
    yield-by true after count t is most last f e =
        rw e ((is ∙ rw t, word-no-number (line_at text at) fields is_word, most), last)
    yield-by false after count t is most last f e =
        rw e ((is ∙ rw t, word-no-number (line_at text at) fields is_word), last)

    yield-at : (after : List ℤ) (count : ℕ) {place : ℕ} → line_of (line_at text at) ≡ assemble (some (word_of w)) (some (take count after)) → count ≤ most_numbers
        → length after ≡ most_numbers → place ≡ end_of text at + 1 → (f : Fields) → WordedAs w count place f → FieldsYield text at after (Some f)
    yield-at after count is most long last f worded =
        yield-by ((kind_of (word_of w)).is_counted (take count after)) after count refl is most last f (worded (take count after) (length-take-le count after (omega arith)))

    module _ (no-tab : get_or text end 0 ≡ 9 → ⊥) where
      last : end_of text at ≤ end
      last = ends-line word-place ends no-tab

      nothing : parts_after 9 line end ≡ []
      nothing = parts_none 9 line end (omega (arith, cut-length l, last))

      pub word-alone : (numbers : List ℤ) → length numbers ≡ most_numbers → (r : Fields) → WordedAs w 0 (end + 1) r → FieldsYield text at numbers (Some r)
      unfolding numbers_of
      word-alone numbers long = yield-at numbers 0 (line_word (line_at text at) fields is_word ∙ rw nothing) (omega arith) long (omega (arith, last, word-place.found.low))

      pub word-alone-stored : (numbers : List ℤ) → Stored (leading (line_at text at)) numbers numbers
      unfolding leading_numbers
      word-alone-stored numbers = stored-none (leading (line_at text at)) numbers (leading-word (line_at text at) fields is_word ∙ rw nothing)

    module _ (tab : get_or text end 0 ≡ 9) where
      next : InLine text (end + 1) (end_of text at)
      next = place-next word-place (λ e. omega arith)

      -- the numbers are read from after the tab on, in the same line
      after-tab : parts_after 9 line end ≡ fields_from (up_to text (end + 1)) (end + 1)
      unfolding fields_of
      after-tab = rw (same_line next) (parts_more 9 line end (omega (arith, cut-length l, before-end word-place (λ e. omega arith))))

      pub word-stored : {before after : List ℤ} → Stored (leading_numbers (fields_from (up_to text (end + 1)) (end + 1))) before after
          → Stored (leading (line_at text at)) before after
      word-stored s = rw (leading-word (line_at text at) fields is_word, after-tab) s

      module _ (after : List ℤ) {c : Answer (Field ℕ)} (yields : NumbersYield (up_to text (end + 1)) (end + 1) after c) where
        pub word-numbers : length after ≡ most_numbers → {n : Field ℕ} → c ≡ Some n → (f : Fields)
            → WordedAs w n.value (n.end + 1) f → FieldsYield text at after (Some f)
        unfolding NumbersYield
        word-numbers long {n} is =
            let t = rw is at yields in
            yield-at after n.value (line_word (line_at text at) fields is_word ∙ rw (after-tab, t.0)) t.1 long (ap (λ (n : ℕ). n + 1) (t.2 ∙ rw (same_line next) (cut-length next)))

        pub word-no-numbers : c ≡ None → FieldsYield text at after None
        unfolding FieldsYield NumbersYield
        word-no-numbers is =
            let t = rw is at yields in
            (line_word (line_at text at) fields is_word ∙ rw after-tab (t (word_of w)), word-no-number (line_at text at) fields is_word)

  -- ---- no word

  module _ {r : Answer (Field Word)} (read : WordYield line at r) (q : r ≡ None) where
    no_word : word_among words (field_at line at) ≡ none
    unfolding WordYield
    no_word = refused_none 3 _ (rw q at read)

    all : fields_of (line_at text at) ≡ fields_from line at
    all = rw (line-cut text at)

    first : (fs : List (List ℕ)) × (fields_of (line_at text at) ≡ field_at line at ∷ fs)
    unfolding fields_of
    first = let left = drop at line in (parts_after 9 left (index_of 9 left), rw (line-cut text at) (fields-from line at))

    no_line : line_of (line_at text at) ≡ none
    no_line = line-no-word (line_at text at) first.1 no_word

    pub bare-stored : {before after : List ℤ} → Stored (leading_numbers (fields_from line at)) before after → Stored (leading (line_at text at)) before after
    bare-stored s = rw (leading-no-word (line_at text at) first.1 no_word, all) s

    module _ (after : List ℤ) {c : Answer (Field ℕ)} (yields : NumbersYield line at after c) where
      pub bare-numbers : length after ≡ most_numbers → {n : Field ℕ} → c ≡ Some n
          → FieldsYield text at after (Some (record { word = None; count = n.value; next = n.end + 1 }))
      unfolding FieldsYield FieldsAre NumbersYield
      bare-numbers long {n} is =
          let t = rw is at yields in
          ((no_line, number-alone (line_at text at) ∙ rw (all, t.0) (alone-among n.value after (omega (arith, t.1)))), ap (λ (n : ℕ). n + 1) (t.2 ∙ cut-length l))

      pub bare-no-numbers : c ≡ None → FieldsYield text at after None
      unfolding FieldsYield NumbersYield
      bare-no-numbers is =
          let t = rw is at yields in
          (no_line, number-alone (line_at text at) ∙ rw all (none-alone (numbers_of (fields_from line at)) (t sum)))

-- ---- the answers of `line_of` and `number_of`, as the check applies them

no_line_read : (text : List ℕ) (at : ℕ) (before after : List ℤ) → Stored (leading (line_at text at)) before after → line_of (line_at text at) ≡ none
    → LineRead (line_at text at) before after None
unfolding parsed_meaning count_meaning
no_line_read text at before after left q = record { meaning = sym (none-refused 3 q); most = omega arith; left = left }

no_number_read : (text : List ℕ) (at : ℕ) → number (line_at text at) ≡ none → WholeYield text at None
unfolding NumberSpelled
no_number_read text at q = none-refused 3 q

module _ (text : List ℕ) (at : ℕ) (after : List ℤ) (r : Answer Fields) (yields : FieldsYield text at after r) where
  module _ (is : r ≡ None) where
    pub no_line_there : (before : List ℤ) → Stored (leading (line_at text at)) before after → LineRead (line_at text at) before after None
    unfolding FieldsYield
    no_line_there before left = no_line_read text at before after left (rw is at yields).0

    pub no_number_there : WholeYield text at None
    unfolding FieldsYield
    no_number_there = no_number_read text at (rw is at yields).1

  module _ (f : Fields) (is : r ≡ Some f) where
    pub goes-on : f.next ≡ end_of text at + 1
    unfolding FieldsYield
    goes-on = (rw is at yields).1

    pub past_line : 1 ≤ f.next
    past_line = omega (arith, goes-on)

    -- a word with the numbers that belong to it
    module _ (w : Word) (word : f.word ≡ Some w) where
      pub line_there : (before : List ℤ) → Stored (leading (line_at text at)) before after
          → LineRead (line_at text at) before after (Some (record { word = w; count = f.count; next = f.next }))
      unfolding FieldsYield FieldsAre parsed_meaning count_meaning
      line_there before left =
          let are = rw (is, word) at yields in
          record { meaning = sym (some-value 3 are.0.0); most = are.0.2; left = left }

    pub no_word_there : f.word ≡ None → (before : List ℤ) → Stored (leading (line_at text at)) before after → LineRead (line_at text at) before after None
    unfolding FieldsYield FieldsAre
    no_word_there word before left = no_line_read text at before after left (rw (is, word) at yields).0.0

    -- the number of the line: none after a word, else the one that stands alone
    number-by : (o : Answer Word) → FieldsAre text at after o f.count → number (line_at text at) ≡ cond (is_some o) none (alone_among f.count after)
    unfolding FieldsAre
    number-by (Some w) are = are.1
    number-by None are = are.1

    number-is : number (line_at text at) ≡ cond (is_some f.word) none (alone_among f.count after)
    unfolding FieldsYield
    number-is = number-by f.word (rw is at yields).0

    pub word_there : is_some f.word ≡ true → WholeYield text at None
    word_there q = no_number_read text at (number-is ∙ rw q)

    pub many_there : is_some f.word ≡ false → (f.count ≡ 1 → ⊥) → WholeYield text at None
    unfolding alone_among
    many_there q many = no_number_read text at (number-is ∙ rw (q, ne_eqb f.count 1 many))

    -- the number is stored as it is: it fits a machine word
    pub one_there : is_some f.word ≡ false → f.count ≡ 1 → is_ended text ≡ true → at < length text
        → WholeYield text at (Some (record { value = to_z w64 (of_z w64 (get_or after 0 (pos 0))); end = f.next - 1 }))
    unfolding NumberSpelled alone_among
    one_there q one ended h =
        let spelled : number (line_at text at) ≡ some (get_or after 0 (pos 0)) = number-is ∙ rw (q, one) in
        let end : f.next - 1 ≡ end_of text at = omega (arith, goes-on) in
        rw (to_z-of_z w64 (get_or after 0 (pos 0)) (small-fits (get_or after 0 (pos 0)) (number_small (line_at text at) spelled))) (spelled, rw end (in-line text ended at h).found)
