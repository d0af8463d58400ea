-- Writing a text into a part of the output: one text after another, and a byte after a text.
use mathlib.Core.Path.{◌≡◌, refl, sym, ap, subst, ◌∙◌}
use mathlib.Core.List.{List, [], ◌∷◌, ◌++◌, append_assoc}
use Prim.Native.Nat.{ℕ, suc, ◌+◌, ◌-◌, ◌≤◌, ◌<◌}
use native.Mathlib.Omega.{arith}
use lib.ListN.{length, get_or, take, drop, set, length-append, length-drop}
use lib.Seq.{length-take-le, drop-cons, set_at}
use borrow.Rule.Slice.PartMut.{put_mid}
use Rattle.meaning.proofs.Part.{written_after}
use Rattle.output.specs.Written.{Written}

-- ---- one text after another

pub written_next : {xs ys before first last : List ℕ} {n m : ℕ} → Written xs before first n → Written ys (take (length first - n) (drop n first)) last m
    → Written (xs ++ ys) before (put_mid n (length first - n) first last) (n + m)
written_next {xs} {ys} {before} {first} {last} {n} {m} w v = record {
  stands = written_after n m (length (xs ++ ys)) before first last xs ys (sym w.counted)
      (w.stands ∙ ap (λ (i : ℕ). xs ++ drop i before) (sym w.counted))
      (v.stands ∙ ap (λ (i : ℕ). ys ++ drop i (take (length first - n) (drop n first))) (sym v.counted))
      all;
  counted = sym all;
}
  where
    all : length (xs ++ ys) ≡ n + m
    all = omega (arith, length-append xs ys, w.counted, v.counted)

pub written-length : {xs before after : List ℕ} {n : ℕ} → Written xs before after n → length xs ≤ length before → length after ≡ length before
written-length {xs} {before} w h = ap length w.stands ∙ omega (arith, length-append xs (drop (length xs) before), length-drop (length xs) before)

-- ---- one byte after a text, or after nothing

pub nothing_written : (before : List ℕ) → Written [] before before 0
nothing_written before = record { stands = refl; counted = refl }

module _ {xs before after : List ℕ} {n : ℕ} (byte : ℕ) (w : Written xs before after n) (h : length xs < length before) where
  pub byte_inside : n < length after
  byte_inside = omega (arith, w.counted, written-length w (omega arith))

  pub written_byte : Written (xs ++ byte ∷ []) before (set after n byte) (n + 1)
  written_byte = record {
    stands =
        ap (λ (l : List ℕ). set l n byte) (w.stands ∙ ap (λ (l : List ℕ). xs ++ l) (drop-cons before (length xs) 0 h))
        ∙ set_at xs (get_or before (length xs) 0) (drop (suc (length xs)) before) byte n (sym w.counted)
        ∙ rw all (sym (append_assoc xs (byte ∷ []) (drop (suc (length xs)) before)));
    counted = omega (arith, all, w.counted);
  }
    where
      all : length (xs ++ byte ∷ []) ≡ suc (length xs)
      all = omega (arith, length-append xs (byte ∷ []))

-- ---- a text in two parts, which are written one after the other

pub record Halves (text xs ys before : List ℕ) : Type 0 where
  pub parts : xs ++ ys ≡ text
  pub room : length text ≤ length before

module _ {text xs ys before : List ℕ} (halves : Halves text xs ys before) where
  sizes : length xs + length ys ≡ length text
  sizes = sym (length-append xs ys) ∙ ap length halves.parts

  pub first-room : length xs ≤ length before
  first-room = omega (arith, halves.room, sizes)

  module _ {first : List ℕ} {n : ℕ} (w : Written xs before first n) where
    pub rest-starts : n ≤ length first
    rest-starts = omega (arith, halves.room, sizes, w.counted, written-length w first-room)

    pub rest-room : length ys ≤ length (take (length first - n) (drop n first))
    rest-room =
        let left = length-drop n first in
        omega (arith, halves.room, sizes, w.counted, written-length w first-room, length-take-le (length first - n) (drop n first) (omega arith))

    module _ {last : List ℕ} {m : ℕ} (v : Written ys (take (length first - n) (drop n first)) last m) where
      pub whole_room : n + m ≤ length before
      whole_room = omega (arith, halves.room, sizes, w.counted, v.counted)

      pub written-whole : Written text before (put_mid n (length first - n) first last) (n + m)
      written-whole = subst (λ (t : List ℕ). Written t before (put_mid n (length first - n) first last) (n + m)) halves.parts (written_next w v)

-- what has room where a text is written in two parts, as the check applies it
pub ruleset room_for_parts = (first-room, rest-room)
