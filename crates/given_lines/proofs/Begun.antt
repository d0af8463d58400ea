-- A text of which so much is written, and this is left: how it is begun, how the next part of what is left is written, and how it is done.
use mathlib.Core.Path.{◌≡◌, refl, sym, ap, ◌∙◌}
use mathlib.Core.List.{List, [], ◌∷◌, ◌++◌, append_assoc, append-nil}
use Prim.Native.Nat.{ℕ, ◌+◌, ◌-◌, ◌≤◌, ◌<◌}
use native.Mathlib.Omega.{arith}
use lib.ListN.{length, take, drop, set, length-append}
use borrow.Rule.Slice.PartMut.{put_mid}
use Rattle.output.specs.Written.{Written}
use Rattle.output.proofs.Writing.{Halves, rest-starts, rest-room, written-whole, written-length, written_byte}
use Rattle.given_lines.proofs.Texts.{Parts, parts-length}

-- the part, which was `before`, holds the text up to `at`
pub record Begun (text before part : List ℕ) (at : ℕ) (left : List ℕ) : Type 0 where
  pub done : List ℕ
  pub parts : Parts text done left
  pub written : Written done before part at
  pub room : length text ≤ length before

-- ---- the start

pub begun-with : {text first left before part : List ℕ} {at : ℕ} → Parts text first left → length text ≤ length before → Written first before part at
    → Begun text before part at left
begun-with {first = first} p h w = record { done = first; parts = p; written = w; room = h }

module _ {text before part : List ℕ} {at : ℕ} {left : List ℕ} (b : Begun text before part at left) where
  -- ---- the end

  pub begun-end : left ≡ [] → Written text before part at
  begun-end e =
      let all : text ≡ b.done = b.parts.joined ∙ ap (λ (l : List ℕ). b.done ++ l) e ∙ append-nil b.done in
      rw all b.written

  pub begun-length : length part ≡ length before
  begun-length = written-length b.written (omega (arith, b.room, parts-length b.parts))

  -- ---- the next part of what is left

  module _ {next rest : List ℕ} (split : Parts left next rest) where
    -- what is written, and the next part after it
    with-next : Halves (b.done ++ next) b.done next before
    with-next = record {
      parts = refl;
      room = omega (arith, b.room, parts-length b.parts, parts-length split, length-append b.done next);
    }

    begun-with-next : {part' : List ℕ} {at' : ℕ} → Written (b.done ++ next) before part' at' → Begun text before part' at' rest
    begun-with-next w = record {
      done = b.done ++ next;
      parts = record { joined = b.parts.joined ∙ ap (λ (l : List ℕ). b.done ++ l) split.joined ∙ sym (append_assoc b.done next rest) };
      written = w;
      room = b.room;
    }

    pub next-starts : at ≤ length part
    next-starts = rest-starts with-next b.written

    pub next-room : length next ≤ length (take (length part - at) (drop at part))
    next-room = rest-room with-next b.written

    module _ {last : List ℕ} {m : ℕ} (w : Written next (take (length part - at) (drop at part)) last m) where
      pub begun-next : Begun text before (put_mid at (length part - at) part last) (at + m) rest
      begun-next = begun-with-next (written-whole with-next b.written w)

  -- ---- one byte

  module _ {byte : ℕ} {rest : List ℕ} (split : Parts left (byte ∷ []) rest) where
    byte_left : length b.done < length before
    byte_left = omega (arith, b.room, parts-length b.parts, parts-length split)

    pub byte_inside : at < length part
    byte_inside = omega (arith, b.written.counted, byte_left, begun-length)

    pub begun-byte : Begun text before (set part at byte) (at + 1) rest
    begun-byte = begun-with-next split (written_byte byte b.written byte_left)
