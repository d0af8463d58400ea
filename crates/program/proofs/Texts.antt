-- The texts of the definitions, in the parts in which they are written.
use mathlib.Core.Path.{◌≡◌, refl, sym, ap}
use mathlib.Core.List.{List, [], ◌∷◌, ◌++◌, append_assoc}
use Prim.Native.Nat.{ℕ, suc, ◌+◌, ◌-◌, ◌≤◌, ◌<◌}
use native.Mathlib.Omega.{arith}
use native.Mathlib.Numerals.{add-one}
use lib.ListN.{length, get_or, take, drop, length-append, take-append-drop}
use lib.Seq.{length-take-le, take_all, take-suc}
use borrow.Rule.Slice.PartMut.{put_mid}
use Rattle.meaning.specs.Text.{bytes, decimal_of}
use Rattle.meaning.specs.Reply.{reply}
use Rattle.meaning.specs.Program.{tabbed, refusal_text, cells_text, table_text}
use Rattle.output.specs.Written.{Written, field_text}
use Rattle.output.proofs.Writing.{Halves, rest-starts, rest-room, whole_room, written-whole}
use Rattle.program.specs.Texts.{pair_text, heading_text}

-- ---- the parts of a text

pub pair_parts : (first second : ℕ) → field_text first 9 ++ field_text second 10 ≡ pair_text first second
unfolding tabbed
pair_parts first second = simp append_assoc

pub refusal-parts : (number place : ℕ) → bytes "refused\t" ++ pair_text number place ≡ refusal_text (reply number place)
unfolding refusal_text tabbed bytes
refusal-parts number place = refl

pub heading-parts : (count : ℕ) → bytes "table\t" ++ field_text count 10 ≡ heading_text count
unfolding tabbed bytes
heading-parts count = refl

pub table-parts : (t : List ℕ) → heading_text (length t) ++ cells_text 0 t ≡ table_text t
unfolding table_text
table-parts t = append_assoc (tabbed (bytes "table") (decimal_of (length t))) (10 ∷ []) (cells_text 0 t)

pub cell_parts : (i c : ℕ) (cs : List ℕ) → cells_text i (c ∷ cs) ≡ pair_text i c ++ cells_text (suc i) cs
unfolding cells_text
cell_parts i c cs = sym (append_assoc (tabbed (decimal_of i) (decimal_of c)) (10 ∷ []) (cells_text (suc i) cs))

cells-append : (n : ℕ) (xs ys : List ℕ) → cells_text n (xs ++ ys) ≡ cells_text n xs ++ cells_text (n + length xs) ys
unfolding cells_text
cells-append n [] ys = rw (add-zero n)
  where
    add-zero : (m : ℕ) → m + 0 ≡ m
    add-zero m = omega arith
cells-append n (x ∷ xs) ys =
    let e : n + suc (length xs) ≡ suc n + length xs = omega arith in
    rw (e, cells-append (suc n) xs ys) (sym (append_assoc (tabbed (decimal_of n) (decimal_of x)) (10 ∷ cells_text (suc n) xs) (cells_text (suc n + length xs) ys)))

-- ---- the lines of cells, one after the other

pub record Listing (table before part : List ℕ) (at i : ℕ) : Type 0 where
  pub within : i ≤ length table
  pub written : Written (cells_text 0 (take i table)) before part at

pub listing_start : (table before : List ℕ) → Listing table before before 0 0
unfolding cells_text
listing_start table before = record { within = omega arith; written = record { stands = refl; counted = refl } }

module _ {table before part : List ℕ} {at i : ℕ} (l : Listing table before part at i) where
  pub listing-end : length table ≤ i → Written (cells_text 0 table) before part at
  listing-end h =
      let all : take i table ≡ table = take_all i table h in
      rw all at l.written

  module _ (h : i < length table) (room : length (cells_text 0 table) ≤ length before) where
    one_more : cells_text 0 (take i table) ++ pair_text i (get_or table i 0) ≡ cells_text 0 (take (i + 1) table)
    unfolding cells_text
    one_more =
        let taken : length (take i table) ≡ i = length-take-le i table l.within in
        let more : take (i + 1) table ≡ take i table ++ get_or table i 0 ∷ [] = rw (add-one i) (take-suc table i 0 h) in
        let here : 0 + i ≡ i = omega arith in
        rw (more, cells-append 0 (take i table) (get_or table i 0 ∷ []), taken, here)

    more_room : length (cells_text 0 (take (i + 1) table)) ≤ length before
    more_room =
        let e = take-append-drop (i + 1) table in
        let size = length-append (cells_text 0 (take (i + 1) table)) (cells_text (0 + length (take (i + 1) table)) (drop (i + 1) table)) in
        let f = cells-append 0 (take (i + 1) table) (drop (i + 1) table) in
        let g = ap (λ (t : List ℕ). length (cells_text 0 t)) e in
        omega (arith, ap length f)

    line-halves : Halves (cells_text 0 (take (i + 1) table)) (cells_text 0 (take i table)) (pair_text i (get_or table i 0)) before
    line-halves = record { parts = one_more; room = more_room }

    pub line-starts : at ≤ length part
    line-starts = rest-starts line-halves l.written

    pub line-room : length (pair_text i (get_or table i 0)) ≤ length (take (length part - at) (drop at part))
    line-room = rest-room line-halves l.written

    module _ {last : List ℕ} {m : ℕ} (v : Written (pair_text i (get_or table i 0)) (take (length part - at) (drop at part)) last m) where
      pub line-end-inside : at + m ≤ length before
      line-end-inside = whole_room line-halves l.written v

      pub listing-turn : Listing table before (put_mid at (length part - at) part last) (at + m) (i + 1)
      listing-turn = record { within = omega arith; written = written-whole line-halves l.written v }
