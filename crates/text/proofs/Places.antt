-- Laws of places: one byte of a search, the field at a place, the part that a search finds, and the lines that are left at a place.
--
-- A loop over the lines of a text keeps `at ≤ length text` and what it says of `lines_from text at`; that the text is ended it knows from before
-- the loop. In a turn `line-within` says that the line's end is a byte of the text, and `lines_next` takes the line off; after the
-- loop `lines_none` says that none is left.
use mathlib.Core.Path.{◌≡◌, refl, sym, ap, subst, ◌∙◌}
use mathlib.Core.Bool.{Bool, true, false, cond}
use mathlib.Core.List.{List, [], ◌∷◌}
use Prim.Native.Nat.{ℕ, suc, ◌+◌, ◌-◌, ◌≤◌, ◌<◌}
use native.Mathlib.Numerals.{add-one}
use native.Mathlib.Omega.{arith}
use borrow.Author.Tests.{eqb-true, ltb-true, ltb-false, lt-ltb, le-ltb, eq-eqb, ne_eqb}
use lib.Dec.{ltb, eqb, leb-suc-suc}
use lib.ListN.{length, get_or, take, drop, length-drop, drop_of_length-le}
use lib.Seq.{drop-drop, get_or-drop, take_all}
use Rattle.std.specs.Prelude.{Option as Answer, Some, None, ◌==◌}
use Rattle.std.specs.List.{position, position_or_len}
use Rattle.std.proofs.lemmas.List.Recursion.{is_position_or_len}
use Rattle.std.proofs.lemmas.Option.{cond_some, none-some}
use Rattle.std.proofs.lemmas.List.Sums.{prefix_len-le-length}
use Rattle.meaning.specs.Text.{on_first, split, without_last, lines_of, is_ended}
use Rattle.text.specs.Place.{index_of, Found, field_at, lines_from}
use Rattle.text.proofs.Bytes.{drop_more}

-- ---- one byte of a search

module _ (separator : ℕ) (xs : List ℕ) (i : ℕ) where
  pub index-end : length xs ≤ i → index_of separator (drop i xs) ≡ 0
  unfolding index_of
  index-end h = rw (drop_of_length-le xs h)

  pub index-here : i < length xs → get_or xs i 0 ≡ separator → index_of separator (drop i xs) ≡ 0
  unfolding index_of
  index-here h q = rw (drop_more xs i h) (simp (eq-eqb _ _ q))

  pub index-past : i < length xs → (get_or xs i 0 ≡ separator → ⊥) → index_of separator (drop i xs) ≡ suc (index_of separator (drop (i + 1) xs))
  unfolding index_of
  index-past h q = rw (drop_more xs i h) (simp (ne_eqb _ _ q))

-- a search that starts one byte sooner finds the same place, where that byte is no separator
pub found-next : (separator : ℕ) (xs : List ℕ) (at : ℕ) {place : ℕ} → at < length xs → (get_or xs at 0 ≡ separator → ⊥)
    → Found separator xs (at + 1) place → Found separator xs at place
found-next separator xs at h q found =
    record { low = omega (arith, found.low); high = found.high; is = omega (arith, found.is, index-past separator xs at h q) }

-- ---- what a search by `position` finds

index-position : (separator : ℕ) (xs : List ℕ) → index_of separator xs ≡ position_or_len (λ x. x == separator) xs
unfolding index_of
index-position separator xs = is_position_or_len (index_of separator) (λ x. x == separator) refl (λ x ys. head (x == separator) (index_of separator ys)) xs
  where
    head : (t : Bool) (n : ℕ) → cond t 0 (suc n) ≡ cond t 0 (1 + n)
    head true n = refl
    head false n = omega arith

no-place : {n m : ℕ} (t : Bool) → ltb n m ≡ t → cond t (Some n) None ≡ None → m ≤ n
no-place true e q = absurd (none-some _ (sym q))
no-place {n} {m} false e q = ltb-false n m e

module _ (separator : ℕ) (xs : List ℕ) (at : ℕ) (inside : at ≤ length xs) (r : Answer ℕ) (is : r ≡ position (λ x. x == separator) (drop at xs)) where
  pub found-some : {i : ℕ} → r ≡ Some i → Found separator xs at (at + i)
  found-some {i} q =
      let found = cond_some _ _ _ (sym is ∙ q) in
      record { low = omega arith; high = omega (arith, ltb-true _ _ found.0, found.1, length-drop at xs); is = ap (λ (n : ℕ). at + n) (sym found.1 ∙ sym (index-position separator (drop at xs))) }

  pub found-none : r ≡ None → Found separator xs at (length xs)
  found-none q =
      let place = index_of separator (drop at xs) in
      let within : place ≤ length (drop at xs) = rw (index-position separator (drop at xs)) (prefix_len-le-length _ (drop at xs)) in
      let past : length (drop at xs) ≤ place = rw (index-position separator (drop at xs)) (no-place _ refl (sym is ∙ q)) in
      record { low = inside; high = omega arith; is = omega (arith, length-drop at xs, within, past) }

-- ---- the field at a place

field-byte-at : (is-tab : Bool) (x : ℕ) (xs : List ℕ) (n : ℕ) → take (cond is-tab 0 (suc n)) (x ∷ xs) ≡ cond is-tab [] (x ∷ take n xs)
field-byte-at true x xs n = refl
field-byte-at false x xs n = refl

module _ (line : List ℕ) (at : ℕ) where
  pub field-empty : index_of 9 (drop at line) ≡ 0 → field_at line at ≡ []
  unfolding field_at
  field-empty q = rw q

  -- its first byte: none, where that is a tab
  pub field-byte : at < length line → field_at line at ≡ cond (eqb (get_or line at 0) 9) [] (get_or line at 0 ∷ field_at line (at + 1))
  unfolding field_at index_of
  field-byte h = rw (drop_more line at h) (field-byte-at (eqb (get_or line at 0) 9) (get_or line at 0) (drop (at + 1) line) (index_of 9 (drop (at + 1) line)))

  pub field-more : at < length line → (get_or line at 0 ≡ 9 → ⊥) → field_at line at ≡ get_or line at 0 ∷ field_at line (at + 1)
  field-more h q = field-byte h ∙ simp (ne_eqb _ _ q)

  field_found : {place : ℕ} → Found 9 line at place → field_at line at ≡ take (place - at) (drop at line)
  unfolding field_at
  field_found {place} found = let n : index_of 9 (drop at line) ≡ place - at = omega (arith, found.is) in rw n

-- bytes without a tab are one field
pub field-whole : (line : List ℕ) (at : ℕ) → length (drop at line) ≤ index_of 9 (drop at line) → field_at line at ≡ drop at line
unfolding field_at
field-whole line at h = take_all (index_of 9 (drop at line)) (drop at line) h

index_at : (t : Bool) (separator x : ℕ) (xs : List ℕ) → eqb x separator ≡ t → (index_of separator xs < length xs → get_or xs (index_of separator xs) 0 ≡ separator)
    → cond t 0 (suc (index_of separator xs)) < suc (length xs) → get_or (x ∷ xs) (cond t 0 (suc (index_of separator xs))) 0 ≡ separator
index_at true separator x xs q later h = eqb-true x separator q
index_at false separator x xs q later h = later (omega arith)

-- where a search ends inside, the separator stands
index-byte : (separator : ℕ) (xs : List ℕ) → index_of separator xs < length xs → get_or xs (index_of separator xs) 0 ≡ separator
unfolding index_of
index-byte separator [] h = absurd (omega arith)
index-byte separator (x ∷ xs) h = index_at (eqb x separator) separator x xs refl (index-byte separator xs) h

pub found-byte : {separator : ℕ} {xs : List ℕ} {at place : ℕ} → Found separator xs at place → place < length xs → get_or xs place 0 ≡ separator
found-byte {separator} {xs} {at} {place} found h =
    ap (λ (i : ℕ). get_or xs i 0) found.is ∙ sym (get_or-drop at xs (index_of separator (drop at xs)) 0)
    ∙ index-byte separator (drop at xs) (omega (arith, found.is, length-drop at xs))

-- no separator stands from `at` to i, so that a search from `at` on finds what one from i on finds
pub record Searched (separator : ℕ) (xs : List ℕ) (at i : ℕ) : Type 0 where
  pub low : at ≤ i
  pub high : i ≤ length xs
  pub same : at + index_of separator (drop at xs) ≡ i + index_of separator (drop i xs)

module _ {separator : ℕ} {xs : List ℕ} {at i : ℕ} (searched : Searched separator xs at i) where
  pub search-past : i < length xs → (get_or xs i 0 ≡ separator → ⊥) → {j : ℕ} → j ≡ i + 1 → Searched separator xs at j
  search-past h q {j} next = subst (Searched separator xs at) (sym next) (record {
    low = omega (arith, searched.low);
    high = omega arith;
    same = omega (arith, searched.same, index-past separator xs i h q);
  })

  -- where a search from i on would find i itself
  pub search-stop : index_of separator (drop i xs) ≡ 0 → Found separator xs at i
  search-stop here = record { low = searched.low; high = searched.high; is = omega (arith, searched.same, here) }

  pub search-here : i < length xs → get_or xs i 0 ≡ separator → Found separator xs at i
  search-here h q = search-stop (index-here separator xs i h q)

  pub search-on : {place : ℕ} → Found separator xs i place → Found separator xs at place
  search-on found = record {
    low = omega (arith, searched.low, found.low);
    high = found.high;
    is = omega (arith, searched.same, found.is);
  }

-- ---- the part before the first separator, and those after it

-- the parts after the one that ends at a place: none, where that is the end
unfoldable pub parts_after : (separator : ℕ) → List ℕ → ℕ → List (List ℕ)
parts_after separator xs place = cond (ltb place (length xs)) (split separator (drop (suc place) xs)) []

split_at : (t : Bool) (separator x : ℕ) (xs : List ℕ) (n : ℕ) → split separator xs ≡ take n xs ∷ parts_after separator xs n
    → cond t ([] ∷ split separator xs) (on_first x (split separator xs))
    ≡ take (cond t 0 (suc n)) (x ∷ xs) ∷ parts_after separator (x ∷ xs) (cond t 0 (suc n))
unfolding on_first parts_after
split_at true separator x xs n ih = simp (lt-ltb 0 (suc (length xs)) (omega arith))
split_at false separator x xs n ih = rw ih (simp (leb-suc-suc (suc n) (length xs)))

split-index : (separator : ℕ) (xs : List ℕ) → split separator xs ≡ take (index_of separator xs) xs ∷ parts_after separator xs (index_of separator xs)
unfolding split index_of parts_after
split-index separator [] = refl
split-index separator (x ∷ xs) = split_at (eqb x separator) separator x xs (index_of separator xs) (split-index separator xs)

-- two tests that say the same
less-at : (t : Bool) (a b c d : ℕ) → ltb a b ≡ t → (a < b → c < d) → (b ≤ a → d ≤ c) → t ≡ ltb c d
less-at true a b c d q below above = sym (lt-ltb c d (below (ltb-true a b q)))
less-at false a b c d q below above = sym (le-ltb c d (above (ltb-false a b q)))

module _ (separator : ℕ) (xs : List ℕ) where
  -- from a place on: the part up to the separator that a search found, and the parts after it
  pub parts_from : {at place : ℕ} → Found separator xs at place → split separator (drop at xs) ≡ take (place - at) (drop at xs) ∷ parts_after separator xs place
  unfolding parts_after
  parts_from {at} {place} found =
      let n : index_of separator (drop at xs) ≡ place - at = omega (arith, found.is) in
      let next : at + suc (place - at) ≡ suc place = omega (arith, found.low) in
      let within : ltb (place - at) (length (drop at xs)) ≡ ltb place (length xs) =
      less-at _ (place - at) (length (drop at xs)) place (length xs) refl (λ h. omega (arith, found.low, length-drop at xs)) (λ h. omega (arith, found.low, found.high, length-drop at xs)) in
      split-index separator (drop at xs) ∙ rw (n, drop-drop (suc (place - at)) at xs, next, within)

  pub parts_none : (place : ℕ) → length xs ≤ place → parts_after separator xs place ≡ []
  unfolding parts_after
  parts_none place h = simp (le-ltb place (length xs) h)

  -- where a byte, the separator, stands at the end of a part, a part follows
  pub parts_more : (place : ℕ) → place < length xs → parts_after separator xs place ≡ split separator (drop (place + 1) xs)
  unfolding parts_after
  parts_more place h = rw (add-one) (simp (lt-ltb place (length xs) h))

-- the field at a place, and those after it
pub fields-from : (line : List ℕ) (at : ℕ) → let left = drop at line in split 9 left ≡ field_at line at ∷ parts_after 9 left (index_of 9 left)
unfolding field_at
fields-from line at = split-index 9 (drop at line)

pub fields-found : (line : List ℕ) {at place : ℕ} → Found 9 line at place → split 9 (drop at line) ≡ field_at line at ∷ parts_after 9 line place
fields-found line {at} found = parts_from 9 line found ∙ rw (field_found line at found)

-- bytes with a tab are two fields at least, bytes without one are one
pub fields-two : (xs : List ℕ) → index_of 9 xs < length xs → (g : List ℕ) × (gs : List (List ℕ)) × (split 9 xs ≡ field_at xs 0 ∷ g ∷ gs)
fields-two xs h =
    let left = drop (suc (index_of 9 xs)) xs in
    (field_at left 0, parts_after 9 left (index_of 9 left), fields-from xs 0 ∙ rw (parts_more 9 xs (index_of 9 xs) h, add-one) (ap (λ (gs : List (List ℕ)). field_at xs 0 ∷ gs) (fields-from left 0)))

pub fields-one : (xs : List ℕ) → length xs ≤ index_of 9 xs → split 9 xs ≡ xs ∷ []
fields-one xs h = fields-from xs 0 ∙ rw (parts_none 9 xs (index_of 9 xs) h, field-whole xs 0 h)

-- ---- an ended text

pub ended_empty : (text : List ℕ) → length text ≡ 0 → is_ended text ≡ false
unfolding is_ended
ended_empty [] h = refl
ended_empty (x ∷ xs) h = let z : ⊥ = omega arith in absurd z

pub ended_last : (text : List ℕ) → (length text ≡ 0 → ⊥) → is_ended text ≡ eqb (get_or text (length text - 1) 0) 10
unfolding is_ended
ended_last [] h = absurd (h refl)
ended_last (x ∷ []) h = refl
ended_last (x ∷ (y ∷ xs)) h =
    let e : length (x ∷ (y ∷ xs)) - 1 ≡ suc (length (y ∷ xs) - 1) = omega arith in
    rw e (ended_last (y ∷ xs) (λ z. omega arith))

ended-index-at : (t : Bool) (n m : ℕ) → n < m → cond t 0 (suc n) < suc m
ended-index-at true n m h = omega arith
ended-index-at false n m h = omega arith

-- a search for byte 10 in an ended text finds one
pub ended-index : (text : List ℕ) → is_ended text ≡ true → index_of 10 text < length text
unfolding is_ended index_of
ended-index [] ended = let z : ◌≡◌ {A = ℕ} 0 1 = cc in omega arith
ended-index (x ∷ []) ended = rw ended (omega arith)
ended-index (x ∷ (y ∷ xs)) ended = ended-index-at (eqb x 10) (index_of 10 (y ∷ xs)) (length (y ∷ xs)) (ended-index (y ∷ xs) ended)

module _ (text : List ℕ) where
  -- the bytes from a place on end as the whole text does
  pub ended-from : (at : ℕ) → at < length text → is_ended (drop at text) ≡ is_ended text
  ended-from at h =
      let n : length (drop at text) ≡ length text - at = length-drop at text in
      let last : at + (length (drop at text) - 1) ≡ length text - 1 = omega arith in
      ended_last (drop at text) (λ z. omega arith)
      ∙ rw (get_or-drop at text (length (drop at text) - 1) 0, last) (sym (ended_last text (λ z. omega arith)))

  -- ---- the lines that are left at a place

  pub lines_none : (at : ℕ) → length text ≤ at → lines_from text at ≡ []
  unfolding lines_of split without_last
  lines_none at h = rw (drop_of_length-le text h)

  module _ (ended : is_ended text ≡ true) {at end : ℕ} (h : at < length text) (found : Found 10 text at end) where
    pub line-within : end < length text
    line-within =
        let inside : index_of 10 (drop at text) < length (drop at text) = ended-index (drop at text) (ended-from at h ∙ ended) in
        omega (arith, found.is, length-drop at text)

    pub lines_next : lines_from text at ≡ take (end - at) (drop at text) ∷ lines_from text (end + 1)
    unfolding lines_of without_last
    lines_next =
        rw (parts_from 10 text found, parts_more 10 text end line-within, split-index 10 (drop (end + 1) text))

-- ---- a text has no more lines than bytes

first-few : (x : ℕ) (parts : List (List ℕ)) (n : ℕ) → length parts ≤ suc n → length (on_first x parts) ≤ suc (suc n)
unfolding on_first
first-few x [] n h = omega arith
first-few x (p ∷ ps) n h = omega arith

split-few-at : (t : Bool) (x : ℕ) (rest : List (List ℕ)) (n : ℕ) → length rest ≤ suc n → length (cond t ([] ∷ rest) (on_first x rest)) ≤ suc (suc n)
split-few-at true x rest n h = omega arith
split-few-at false x rest n h = first-few x rest n h

split-few : (separator : ℕ) (xs : List ℕ) → length (split separator xs) ≤ suc (length xs)
unfolding split
split-few separator [] = omega arith
split-few separator (x ∷ xs) = split-few-at (eqb x separator) x (split separator xs) (length xs) (split-few separator xs)

without-few : (ls : List (List ℕ)) → length (without_last ls) ≤ length ls - 1
unfolding without_last
without-few [] = omega arith
without-few (l ∷ []) = omega arith
without-few (l ∷ (m ∷ ls)) = omega (arith, without-few (m ∷ ls))

pub lines-few : (text : List ℕ) → length (lines_of text) ≤ length text
unfolding lines_of
lines-few text = omega (arith, without-few (split 10 text), split-few 10 text)
