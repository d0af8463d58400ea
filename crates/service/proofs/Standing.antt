-- The laws of walking a list that was read once more: the first line, the line that is read at a place, the next, and the end.
use mathlib.Core.Path.{◌≡◌, refl, sym, ap, ◌∙◌, subst}
use mathlib.Core.Bool.{true, false, Bool-set}
use mathlib.Core.List.{List, [], ◌∷◌, map}
use mathlib.Core.Option.{some, some-injective, none-ne-some}
use Prim.Native.Nat.{ℕ, zero, suc, ◌+◌, ◌-◌, ◌≤◌, ◌<◌}
use native.Mathlib.Omega.{arith}
use mathlib.Core.HLevel.{⊥_prop}
use Rattle.std.specs.Coded.{le_prop}
use Rattle.std.proofs.Math.Logic.{∥∥₁_map, ∥∥₁_elim}
use native.Mathlib.Numerals.{add-one}
use lib.Dec.{T, leb→le}
use lib.IntN.{ℤ, pos}
use lib.Seq.{get_or-take}
use lib.ListN.{length, take, length-append, length-take}
use Rattle.meaning.specs.Text.{is_ended}
use Rattle.meaning.specs.Word.{kind_of, most_numbers}
use Rattle.meaning.specs.Line.{Line, line_of}
use Rattle.meaning.specs.Word.{Word as Meant}
use Rattle.meaning.specs.Known.{Known, fresh}
use Rattle.meaning.specs.Meaning.{gadget, after}
use Rattle.meaning.specs.Refusal.{value_limit, cell_limit, is_placed, read, reading}
use Rattle.meaning.specs.Kept.{Kept, Keeps}
use Rattle.meaning.proofs.Kept.{keeps-all}
use Rattle.meaning.proofs.Lines.{sound-fresh, sound-after}
use Rattle.meaning.proofs.Induction.{prime-kept, cells-grow}
use Rattle.meaning.proofs.Reading.{reads-exactly, read_kept}
use Rattle.text.specs.Word.{word_of}
use Rattle.text.specs.Place.{end_of, line_at, lines_from}
use Rattle.lines.specs.Parsed.{LineRead, NextAfter}
use Rattle.text.specs.declared.Word.{Word}
use Rattle.std.specs.Prelude.{Option as Answer, Some, None}
use Rattle.lines.specs.declared.Line.{Line as Spelt}
use Rattle.lines.proofs.Answers.{no-line-meaning, line-meaning, line-most, line-counted, line_small, line-next}
use Rattle.text.proofs.Places.{lines_none}
use Rattle.text.proofs.Ends.{in-line, lines_at}
use Rattle.rules.specs.Ready.{greatest, Small}
use Rattle.rules.specs.Yield.{line_with}
use Rattle.reader.specs.Size.{counted, added, Few, Adds}
use Rattle.reader.specs.declared.counts.Counts.{Counts}
use Rattle.reader.proofs.Steps.{few}
use Rattle.table.specs.Line.{KeptLine}
use Rattle.service.specs.Walk.{CountsOf, ListRead, Stands, BeforeLine}
use Rattle.service.specs.Taken.{taken, Took, Takes}
use Rattle.service.specs.declared.walk.Taken.{Taken}
use Rattle.service.specs.declared.walk.Walk.{Walk}
use Rattle.service.proofs.ReadList.{read-ended}

-- ---- the lines that are left

none_left : (left : List Line) → [] ≡ map some left → left ≡ []
none_left [] e = refl
none_left (l ∷ ls) e = let z : ◌≡◌ {A = ℕ} 0 1 = cc in absurd (omega arith)

-- the first line that is left, and those after it
next-left : (line : List ℕ) (lines : List (List ℕ)) (left : List Line) → map line_of (line ∷ lines) ≡ map some left
    → (l : Line) × (rest : List Line) × (left ≡ l ∷ rest) × (line_of line ≡ some l) × (map line_of lines ≡ map some rest)
next-left line lines [] e = let z : ◌≡◌ {A = ℕ} 1 0 = cc in absurd (omega arith)
next-left line lines (l ∷ ls) e = (l, ls, refl, cc, cc)

-- ---- p

-- a line that is not a field line comes after line 0
later-line : (n : ℕ) (w : Meant) → (kind_of w).is_field ≡ false → T (is_placed n w) → 1 ≤ n
unfolding is_placed
later-line zero w e t = absurd (subst T e t)
later-line (suc n) w e t = omega arith

-- from line 1 on, p is that of the list
pub same-prime : (n : ℕ) (s last : Known) (left : List Line) → 1 ≤ n → Kept n s left last → s.p ≡ last.p
same-prime zero s last left h k = absurd (omega arith)
same-prime (suc n) s last left h k = prime-kept left n s last k

-- ---- the counts after a line

pub counted-after : (n : ℕ) (s : Known) (l : Line) (c d : Counts) → Keeps n s l → CountsOf s c → Adds s l d
    → CountsOf (after s l) (added c d)
unfolding after
counted-after n s l c d keeps was adds =
    let g = gadget s l in
    record {
      values-are = omega (arith, length-append g.narrowed g.made, (few n s l keeps).2, was.values-are, adds.values-are);
      inputs_are = omega (arith, was.inputs_are, adds.inputs_are);
      cells_are = omega (arith, was.cells_are, adds.cells_are);
      rows_are = omega (arith, was.rows_are, adds.rows_are);
    }

-- what the counts after a line are said to be
abbrev pub CountsAfter : Spelt → List ℤ → (before after : Counts) → Type 0
CountsAfter l numbers c d = (
    (n : ℕ) (s : Known) → (kind_of (word_of l.word)).is_counted (take l.count numbers) ≡ true
    → Keeps n s (line_with (word_of l.word) (take l.count numbers)) → CountsOf s c
    → CountsOf (after s (line_with (word_of l.word) (take l.count numbers))) d
    ) × (c.values ≤ d.values) × (d.values ≤ c.values + 1)

-- ---- the first line

pub stands-first : (list : List ℕ) (ls : List Line) (last : Known) → reading list ≡ read ls last → last.p ≤ greatest
    → Stands list last fresh ls (counted 0 0 0 0) 0 0
unfolding fresh
stands-first list ls last e h = record {
  inside = omega arith;
  numbered = omega arith;
  spells = ((reads-exactly list).2 ls last e).0;
  kept = read_kept list ls last e;
  sound = sound-fresh;
  p-most = h;
  counted = record { values-are = refl; inputs_are = refl; cells_are = refl; rows_are = refl };
  few = record { values-most = omega arith; inputs-most = omega arith; cells-most = omega arith; rows-most = omega arith };
}

-- a walk may begin over the bytes of such a list, with no counts
pub stands_first : {list bytes : List ℕ} {c : Counts} → ListRead list → bytes ≡ list → c ≡ counted 0 0 0 0 → ∥ BeforeLine bytes c 0 0 ∥₁
stands_first {list} {bytes} {c} l is none =
    let before : BeforeLine list (counted 0 0 0 0) 0 0 = record { listed = l; state = fresh; left = l.lines; stands = stands-first _ l.lines l.last l.is_read l.p-most } in
    rw (is, none) (∣ before ∣₁)

module _ {list : List ℕ} {last s : Known} {left : List Line} {c : Counts} {at n : ℕ} (stands : Stands list last s left c at n) where
  -- ---- the end

  pub nothing_left : length list ≤ at → left ≡ []
  nothing_left h = none_left left (sym (ap (map line_of) (lines_none list at h)) ∙ stands.spells)

  pub known-last : length list ≤ at → s ≡ last
  known-last h = subst (λ (ls : List Line). Kept n s ls last) (nothing_left h) stands.kept

  -- ---- a line that is read

  module _ (ended : is_ended list ≡ true) (inside : at < length list) {before numbers : List ℤ} {r : Answer Spelt}
      (parsed : LineRead (line_at list at) before numbers r) (long : length before ≡ most_numbers) where
    next : (l : Line) × (rest : List Line) × (left ≡ l ∷ rest) × (line_of (line_at list at) ≡ some l)
        × (map line_of (lines_from list (end_of list at + 1)) ≡ map some rest)
    next = next-left (line_at list at) (lines_from list (end_of list at + 1)) left
        (sym (ap (map line_of) (lines_at list at ended inside)) ∙ stands.spells)

    -- the lines after it
    rest : List Line
    rest = next.1

    -- the bytes spell a line, as the list was read
    line-there : r ≡ None → ⊥
    line-there is = none-ne-some _ (sym (no-line-meaning parsed is) ∙ next.3)

    module _ {spelt : Spelt} (is : r ≡ Some spelt) where
      abbrev word : Word
      word = spelt.word

      abbrev count : ℕ
      count = spelt.count

      abbrev line : Line
      line = line_with (word_of word) (take count numbers)

      left_is : left ≡ line ∷ rest
      unfolding rest
      left_is = next.2 ∙ ap (λ (l : Line). l ∷ rest) (some-injective _ _ (sym next.3 ∙ line-meaning parsed is))

      kept_here : Kept n s (line ∷ rest) last
      kept_here = subst (λ (ls : List Line). Kept n s ls last) left_is stands.kept

      kept-after : Kept (suc n) (after s line) rest last
      kept-after = kept_here.1

      keeps : Keeps n s line
      keeps = keeps-all n s line kept_here.0

      numbers-small : Small count numbers
      numbers-small = line_small parsed is

      few-after : (d : Counts) → CountsOf (after s line) d → Few d
      unfolding after
      few-after d now-counted =
          let g = gadget s line in
          let f = few n s line keeps in
          let was = stands.counted in
          record {
            values-most = omega (arith, now-counted.values-are, length-append g.narrowed g.made, f.2, leb→le (length s.known + length g.made) value_limit keeps.values-fit);
            inputs-most = omega (arith, now-counted.inputs_are, now-counted.values-are, length-append g.narrowed g.made, f.0, f.2, was.inputs_are, was.values-are, stands.few.inputs-most);
            cells-most = omega (arith, now-counted.cells_are, leb→le (s.cells + g.width) cell_limit keeps.cells_fit);
            rows-most = omega (arith, now-counted.rows_are, now-counted.cells_are, f.1, was.rows_are, was.cells_are, stands.few.rows-most);
          }

      stands-next : (d : Counts) → CountsOf (after s line) d → Stands list last (after s line) rest d (end_of list at + 1) (n + 1)
      unfolding rest
      stands-next d now-counted = record {
        inside = omega (arith, (in-line list ended at inside).inside);
        numbered = omega (arith, stands.numbered);
        spells = next.4;
        kept = rw (add-one n) kept-after;
        sound = rw (add-one n) (sound-after n s line stands.sound keeps);
        p-most = stands.p-most;
        counted = now-counted;
        few = few-after d now-counted;
      }

-- ---- what a walk keeps, and what it then promises of a line that it takes

module _ {list : List ℕ} {c : Counts} {at n : ℕ} (before-line : ∥ BeforeLine list c at n ∥₁) where
  pub list-ended : is_ended list ≡ true
  list-ended = ∥∥₁_elim before-line (Bool-set _ _) (λ b. read-ended list b.listed.lines b.listed.last b.listed.is_read)

  pub few-counts : Few c
  few-counts = record {
    values-most = ∥∥₁_elim before-line le_prop (λ b. b.stands.few.values-most);
    inputs-most = ∥∥₁_elim before-line le_prop (λ b. b.stands.few.inputs-most);
    cells-most = ∥∥₁_elim before-line le_prop (λ b. b.stands.few.cells-most);
    rows-most = ∥∥₁_elim before-line le_prop (λ b. b.stands.few.rows-most);
  }

  pub number-within : n ≤ at
  number-within = ∥∥₁_elim before-line le_prop (λ b. b.stands.numbered)

  module _ (inside : at < length list) {before numbers : List ℤ} {r : Answer Spelt}
      (parsed : LineRead (line_at list at) before numbers r) (long : length before ≡ most_numbers) where
    pub line-is-there : r ≡ None → ⊥
    line-is-there is = ∥∥₁_elim before-line ⊥_prop (λ b. line-there b.stands list-ended inside parsed long is)

    module _ {l : Spelt} (is : r ≡ Some l) (after-it : NextAfter list at r) {d : Counts} (counted-so : CountsAfter l numbers c d) where
      pub took : {last s : Known} {left : List Line} (stands : Stands list last s left c at n)
          → Took stands numbers (record { number = n; word = l.word; count = l.count; before = c; after = d }) l.next
      took stands = let e = line-next list at after-it is in rw e (record {
        rest = rest stands list-ended inside parsed long;
        left_is = left_is stands list-ended inside parsed long is;
        kept = kept_here stands list-ended inside parsed long is;
        next = stands-next stands list-ended inside parsed long is d
            (counted-so.0 _ _ (line-counted parsed is) (keeps stands list-ended inside parsed long is) stands.counted);
        one_more = counted-so.2;
        counted = line-counted parsed is;
        few = line-most parsed is;
        small = numbers-small stands list-ended inside parsed long is;
      })

      before-next : BeforeLine list c at n → BeforeLine list d l.next (n + 1)
      before-next b = record { listed = b.listed; state = _; left = _; stands = (took b.stands).next }

      pub stands-before-next : ∥ BeforeLine list d l.next (n + 1) ∥₁
      stands-before-next = ∥∥₁_map before-line before-next

      pub goes-further : length list - l.next < length list - at
      goes-further = omega (arith, line-next list at after-it is)

      pub room-after : d.values ≤ value_limit
      room-after = ∥∥₁_elim before-line le_prop (λ b. (took b.stands).next.few.values-most)

-- ---- what is known of a line that was taken

module _ {list : List ℕ} {last s : Known} {left : List Line} {c : Counts} {at n : ℕ} {stands : Stands list last s left c at n} {numbers : List ℤ} {t : Taken} {next : ℕ} (took : Took stands numbers t next) where
  pub keeps-rules : Keeps n s (taken numbers t)
  keeps-rules = keeps-all n s (taken numbers t) took.kept.0

  pub prime-here : (kind_of (word_of t.word)).is_field ≡ false → s.p ≡ last.p
  prime-here plain =
      same-prime n s last left (later-line n (word_of t.word) plain keeps-rules.placed)
      stands.kept

  -- the cells of the line are among those of the list
  pub cells-inside : s.cells + (gadget s (taken numbers t)).width ≤ last.cells
  unfolding after
  cells-inside = cells-grow took.rest (suc n) (after s (taken numbers t)) last took.kept.1

  -- its values are counted
  pub values-counted : t.after.values ≡ c.values + length (gadget s (taken numbers t)).made
  unfolding after
  values-counted =
      let g = gadget s (taken numbers t) in
      omega (
        arith,
        took.next.counted.values-are,
        length-append g.narrowed g.made,
        (few n s (taken numbers t) keeps-rules).2,
        stands.counted.values-are,
      )

  abbrev pub line_kept : KeptLine (word_of t.word) (take t.count numbers)
  line_kept = record {
    line = n;
    state = s;
    sound = stands.sound;
    keeps = keeps-rules;
    p-most = λ plain. subst (λ (q : ℕ). q ≤ greatest) (sym (prime-here plain)) stands.p-most;
    counted = took.counted;
    small = λ i h. let here : i < t.count = omega (arith, length-take t.count numbers) in rw (get_or-take t.count numbers i (pos 0) here) (took.small i here);
  }

-- a line that a walk takes is the first that is left, in whatever way the walk stood before it
pub taken-here : {list : List ℕ} {old new : Walk} {numbers : List ℤ} {t : Taken} → old.text.bytes.now ≡ list → Takes old new numbers t
    → {last s : Known} {left : List Line} (stands : Stands list last s left t.before old.at t.number) → Took stands numbers t new.at
taken-here {old = old} {new = new} {numbers = numbers} {t = t} over takes {last} {s} {left} =
    subst (λ (l : List ℕ). (stands : Stands l last s left t.before old.at t.number) → Took stands numbers t new.at) over takes.took
