-- Laws of a number at a place in a text, one for each way out of `number_at`: the bytes are the text's, the number that of the field.
use mathlib.Core.Path.{◌≡◌, sym, ◌∙◌}
use mathlib.Core.Bool.{Bool, true, false, ◌||◌}
use mathlib.Core.List.{List}
use mathlib.Core.Logic.{◌⊎◌}
use Prim.Native.Nat.{ℕ, ◌+◌, ◌<◌}
use native.Mathlib.Omega.{arith}
use lib.IntN.{pos, ◌-ℤ◌}
use lib.Dec.{eqb}
use lib.ListN.{length, get_or, take}
use mir.Syntax.{w64}
use mir.Val.{to_z, of_z}
use Rattle.std.specs.Prelude.{Option as Answer, Some, None}
use Rattle.std.specs.Bool.{then_some}
use Rattle.text.specs.declared.Field.{Field}
use Rattle.text.specs.Number.{SizeRead, NumberYield}
use Rattle.text.specs.Place.{end_of, up_to}
use Rattle.text.proofs.Places.{field-more}
use Rattle.text.proofs.Ends.{InLine, cut-length, cut-byte, before-end, place-next, same_line, field-ends, place_inside, ends-field, no-field-end}
use Rattle.text.proofs.Numbers.{zero_number, zero-none, minus-none, minus_number, plain-none, plain-number}

module _ {text : List ℕ} {at end : ℕ} (l : InLine text at end) where
  -- a byte of the text that stands in the line is the same byte of the line
  at-inside : (get_or text at 0 ≡ 10 → ⊥) → at < length (take end text)
  at-inside q = omega (arith, cut-length l, before-end l q)

  at_byte : (get_or text at 0 ≡ 10 → ⊥) → get_or (take end text) at 0 ≡ get_or text at 0
  at_byte q = cut-byte l (before-end l q)

  -- ---- a zero

  module _ (zero-byte : get_or text at 0 ≡ 48) where
    no_end : get_or text at 0 ≡ 10 → ⊥
    no_end e = omega arith

    reads-zero : (get_or text (at + 1) 0 ≡ 9) ⊎ (get_or text (at + 1) 0 ≡ 10) → NumberYield (take end text) at (Some (record { value = pos 0; end = at + 1 }))
    reads-zero stop = zero_number (take end text) at (at-inside no_end) (at_byte no_end ∙ zero-byte) (field-ends (place-next l no_end) stop)

    reads-no-zero : (get_or text (at + 1) 0 ≡ 9 → ⊥) → (get_or text (at + 1) 0 ≡ 10 → ⊥) → NumberYield (take end text) at None
    reads-no-zero no-tab no_stop =
        let next = place-next l no_end in
        let h = before-end next no_stop in
        let more = field-more (take end text) (at + 1) (omega (arith, cut-length l, h)) (rw (cut-byte next h) no-tab) in
        zero-none (take end text) at (at-inside no_end) (at_byte no_end ∙ zero-byte) (rw more (λ e. omega arith))

    -- a number where the field ends after it
    pub reads-zero-if : (t : Bool) → t ≡ (eqb (get_or text (at + 1) 0) 9 || eqb (get_or text (at + 1) 0) 10)
        → NumberYield (take end text) at (then_some t (record { value = pos 0; end = at + 1 }))
    reads-zero-if true q = reads-zero (ends-field _ (sym q))
    reads-zero-if false q = let stop = no-field-end _ (sym q) in reads-no-zero stop.0 stop.1

    pub next-inside : at + 1 < length text
    next-inside = place_inside (place-next l no_end)

  -- ---- a minus, and then a size

  module _ (minus : get_or text at 0 ≡ 45) where
    no_stop : get_or text at 0 ≡ 10 → ⊥
    no_stop e = omega arith

    pub minus-inside : at + 1 < length text
    minus-inside = place_inside (place-next l no_stop)

    same_end : end_of text (at + 1) ≡ end
    same_end = same_line (place-next l no_stop)

    module _ {r : Answer (Field ℕ)} (read : SizeRead (up_to text (at + 1)) (at + 1) r) where
      pub reads-minus-none : r ≡ None → NumberYield (take end text) at None
      reads-minus-none = minus-none (take end text) at (at-inside no_stop) (at_byte no_stop ∙ minus) (rw same_end at read)

      pub reads-minus : {f : Field ℕ} → r ≡ Some f → NumberYield (take end text) at (Some (record { value = to_z w64 (of_z w64 (pos 0 -ℤ to_z w64 f.value)); end = f.end }))
      reads-minus = minus_number (take end text) at (at-inside no_stop) (at_byte no_stop ∙ minus) (rw same_end at read)

  -- ---- a size alone

  other : (x : ℕ) → (get_or text at 0 ≡ x → ⊥) → at < length (take end text) → get_or (take end text) at 0 ≡ x → ⊥
  other x q h e = q (sym (cut-byte l (omega (arith, cut-length l))) ∙ e)

  module _ (no_zero : get_or text at 0 ≡ 48 → ⊥) (no_minus : get_or text at 0 ≡ 45 → ⊥) {r : Answer (Field ℕ)} (read : SizeRead (take end text) at r) where
    pub reads-plain-none : r ≡ None → NumberYield (take end text) at None
    reads-plain-none = plain-none (take end text) at (other 48 no_zero) (other 45 no_minus) read

    pub reads_plain : {f : Field ℕ} → r ≡ Some f → NumberYield (take end text) at (Some (record { value = to_z w64 f.value; end = f.end }))
    reads_plain = plain-number (take end text) at (other 48 no_zero) (other 45 no_minus) read
