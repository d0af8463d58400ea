-- What `write` replies and leaves, by what was found: the text is too long, there is no line, a line is refused, the buffer is too short, or the text is
-- written.
use mathlib.Core.Path.{◌≡◌, refl, sym, ap, ◌∙◌}
use mathlib.Core.List.{List, []}
use Prim.Native.Nat.{ℕ, ◌≤◌, ◌<◌}
use native.Mathlib.Omega.{arith}
use borrow.Author.Tests.{le-leb, lt-leb}
use lib.ListN.{length}
use lib.IntN.{ℤ}
use Rattle.meaning.specs.Text.{is_ended}
use Rattle.meaning.specs.Refusal.{text_limit, Reading, refused, read, on_reading, reading_by, reading}
use Rattle.meaning.specs.Reply.{Reply, reply, Writing, writing, written, write_reply}
use Rattle.meaning.specs.Write.{Given, text_of, lines_given}
use Rattle.output.specs.Written.{Written}
use Rattle.std.specs.Prelude.{Result}
use Rattle.refusal.specs.Refusal.{number_of, refused_reply, answered}
use Rattle.refusal.specs.declared.refused.Refused.{Refused}
use Rattle.reader.specs.Read.{counted, refused_at, survey_of}
use Rattle.writer.specs.Survey.{IsRead, IsFirstRefusal}
use Rattle.writer.specs.Claims.{Writes}

-- a reply and a buffer together keep the promise of `write`
pub writes-by : {words counts : List ℕ} {numbers : List ℤ} {buffer after : List ℕ} {r : Result ℕ Refused}
    → writing (answered r) after ≡ write_reply (lines_given words counts numbers) buffer → Writes words counts numbers buffer r after
writes-by e = record { replied = ap (λ (w : Writing). w.answer) e; left = ap (λ (w : Writing). w.buffer) e }

-- ---- the refusals of the text

module _ (gs : List Given) (buffer : List ℕ) where
  write-refused : (n i : ℕ) → reading (text_of gs) ≡ refused n i → writing (reply n i) buffer ≡ write_reply gs buffer
  unfolding write_reply on_reading
  write-refused n i e = rw e refl

  pub write-too-long : text_limit < length (text_of gs) → writing (reply 1 0) buffer ≡ write_reply gs buffer
  unfolding reading_by
  write-too-long h = write-refused 1 0 (rw (lt-leb (length (text_of gs)) text_limit h) refl)

  pub write-no-line : gs ≡ [] → writing (reply 2 0) buffer ≡ write_reply gs buffer
  unfolding reading_by text_of is_ended
  write-no-line e = write-refused 2 0 (rw e refl)

  -- a line is refused, where the text is not too long
  refused-by : (r : Reading) (n i : ℕ) → refused_at n i ≡ survey_of r → r ≡ refused n i
  unfolding survey_of on_reading
  refused-by (refused m j) n i e = cc
  refused-by (read ls s) n i e = cc

  pub write-not-read : {f r : Refused} → IsFirstRefusal (text_of gs) f r
      → (length (text_of gs) ≤ text_limit → refused_at (number_of f.refusal) f.place ≡ survey_of (reading (text_of gs)))
      → writing (refused_reply r) buffer ≡ write_reply gs buffer
  write-not-read {f} {r} is not-read = elim (native.Mathlib.Decide.dec_lt text_limit (length (text_of gs))) [
    | yes h ↦ ap (λ (a : Reply). writing a buffer) (is.over h) ∙ write-too-long h
    | no h ↦
        ap (λ (q : Refused). writing (refused_reply q) buffer) (is.within (omega arith))
        ∙ write-refused (number_of f.refusal) f.place (refused-by (reading (text_of gs)) (number_of f.refusal) f.place (not-read (omega arith)))
  ]

  -- ---- a text that is read

  read_by : (r : Reading) (p v i c w : ℕ) → counted p v i c w ≡ survey_of r
      → on_reading r (λ n at. writing (reply n at) buffer) (λ ls s. written (text_of gs) buffer) ≡ written (text_of gs) buffer
  unfolding survey_of on_reading
  read_by (refused n at) p v i c w e = let z : ◌≡◌ {A = ℕ} 0 1 = cc in absurd (omega arith)
  read_by (read ls s) p v i c w e = refl

  module _ (yields : IsRead (survey_of (reading (text_of gs)))) where
    write_read : write_reply gs buffer ≡ written (text_of gs) buffer
    unfolding write_reply IsRead
    write_read = let (p, v, i, c, w, e) = yields in read_by (reading (text_of gs)) p v i c w e

    pub write-no-room : length buffer < length (text_of gs) → writing (reply 21 0) buffer ≡ write_reply gs buffer
    unfolding written
    write-no-room h = sym (write_read ∙ rw (lt-leb (length (text_of gs)) (length buffer) h) refl)

    pub write-written : length (text_of gs) ≤ length buffer → {after : List ℕ} {n : ℕ} → Written (text_of gs) buffer after n
        → writing (reply 0 n) after ≡ write_reply gs buffer
    unfolding written
    write-written h w = sym (write_read ∙ rw (le-leb (length (text_of gs)) (length buffer) h, w.stands, w.counted) refl)
