-- Laws of a place in a line of an ended text. The line ends at the first byte 10 from the place on. The readers know the text; the laws of
-- fields and numbers are about the bytes up to that end, and the two agree before it.
use mathlib.Core.Path.{◌≡◌, refl, sym, ap, ◌∙◌}
use mathlib.Core.Bool.{Bool, true, false, ◌||◌}
use mathlib.Core.List.{List, ◌∷◌}
use mathlib.Core.Logic.{◌⊎◌, inl, inr, ⊎_elim}
use Prim.Native.Nat.{ℕ, zero, suc, ◌+◌, ◌-◌, ◌≤◌, ◌<◌}
use native.Mathlib.Decide.{ℕ_discrete, dec_lt}
use native.Mathlib.Omega.{arith}
use borrow.Author.Tests.{eqb-true, eqb-false}
use lib.Dec.{eqb}
use lib.ListN.{length, get_or, take, drop, length-drop}
use lib.Seq.{length-take-le, get_or-take}
use Rattle.meaning.specs.Text.{is_ended}
use Rattle.text.specs.Place.{index_of, Found, end_of, line_at, lines_from}
use Rattle.text.proofs.Bytes.{drop-take}
use Rattle.text.proofs.Places.{index-here, index-past, index-end, found-byte, ended-from, ended-index, lines_next}

-- the line that the place i stands in ends at `end`
pub record InLine (text : List ℕ) (i end : ℕ) : Type 0 where
  pub found : Found 10 text i end
  pub inside : end < length text

pub in-line : (text : List ℕ) → is_ended text ≡ true → (at : ℕ) → at < length text → InLine text at (end_of text at)
in-line text ended at h =
    let byte : index_of 10 (drop at text) < length (drop at text) = ended-index (drop at text) (ended-from text at h ∙ ended) in
    let within : end_of text at < length text = omega (arith, byte, length-drop at text) in
    record { found = record { low = omega arith; high = omega (arith, within); is = refl }; inside = within }

-- ---- the bytes up to the end

module _ {text : List ℕ} {i end : ℕ} (l : InLine text i end) where
  pub place_inside : i < length text
  place_inside = omega (arith, l.found.low, l.inside)

  pub cut-length : length (take end text) ≡ end
  cut-length = length-take-le end text (omega (arith, l.inside))

  pub cut-byte : i < end → get_or (take end text) i 0 ≡ get_or text i 0
  cut-byte h = get_or-take end text i 0 h

  -- a byte that is not 10 stands before the end
  pub before-end : (get_or text i 0 ≡ 10 → ⊥) → i < end
  before-end q = elim (ℕ_discrete i end) [
    | yes e ↦ absurd (q (ap (λ (n : ℕ). get_or text n 0) e ∙ found-byte l.found l.inside))
    | no e ↦ omega (arith, l.found.low)
  ]

  pub end-here : get_or text i 0 ≡ 10 → i ≡ end
  end-here q = omega (arith, l.found.is, index-here 10 text i place_inside q)

  -- the place after it is in the same line
  pub place-next : (get_or text i 0 ≡ 10 → ⊥) → InLine text (i + 1) end
  place-next q =
      let h = before-end q in record {
        found = record { low = omega (arith, h); high = l.found.high; is = omega (arith, l.found.is, index-past 10 text i place_inside q) };
        inside = l.inside;
      }

  pub same_line : end_of text i ≡ end
  same_line = sym l.found.is

-- so is each place up to the end
places-on : {text : List ℕ} {end : ℕ} (d i : ℕ) → InLine text i end → i + d ≤ end → InLine text (i + d) end
places-on {text} {end} zero i l h = let e : i + 0 ≡ i = omega arith in rw e l
places-on {text} {end} (suc d) i l h =
    let e : i + suc d ≡ (i + 1) + d = omega arith in
    rw e (places-on d (i + 1) (place-next l (λ q. omega (arith, end-here l q))) (omega arith))

pub place-later : {text : List ℕ} {i j end : ℕ} → InLine text i end → i ≤ j → j ≤ end → InLine text j end
place-later {text} {i} {j} l low high = let e : i + (j - i) ≡ j = omega arith in rw e at (places-on (j - i) i l (omega arith))

-- ---- the end of a field

pub ends-field : (x : ℕ) → eqb x 9 || eqb x 10 ≡ true → (x ≡ 9) ⊎ (x ≡ 10)
ends-field x q = at (eqb x 9) refl q
  where
    at : (t : Bool) → eqb x 9 ≡ t → t || eqb x 10 ≡ true → (x ≡ 9) ⊎ (x ≡ 10)
    at true e r = inl (eqb-true x 9 e)
    at false e r = inr (eqb-true x 10 r)

pub no-field-end : (x : ℕ) → eqb x 9 || eqb x 10 ≡ false → (x ≡ 9 → ⊥) × (x ≡ 10 → ⊥)
no-field-end x q = at (eqb x 9) refl q
  where
    at : (t : Bool) → eqb x 9 ≡ t → t || eqb x 10 ≡ false → (x ≡ 9 → ⊥) × (x ≡ 10 → ⊥)
    at true e r = let z : ◌≡◌ {A = ℕ} 0 1 = cc in absurd (omega arith)
    at false e r = (eqb-false x 9 e, eqb-false x 10 r)

module _ {text : List ℕ} {i end : ℕ} (l : InLine text i end) where
  -- where a tab or the line's end stands, a field ends
  pub field-ends : (get_or text i 0 ≡ 9) ⊎ (get_or text i 0 ≡ 10) → index_of 9 (drop i (take end text)) ≡ 0
  field-ends = ⊎_elim
      (λ q. let h = before-end l (λ e. omega arith) in index-here 9 (take end text) i (omega (arith, cut-length l, h)) (cut-byte l h ∙ q))
      (λ q. index-end 9 (take end text) i (omega (arith, cut-length l, end-here l q)))

-- a field that was found to end elsewhere than at a tab ends with the line
pub ends-line : {text : List ℕ} {at i end : ℕ} → InLine text i end → Found 9 (take end text) at i → (get_or text i 0 ≡ 9 → ⊥) → end ≤ i
ends-line {text} {at} {i} {end} l found no-tab = elim (dec_lt i end) [
  | yes h ↦ absurd (no-tab (sym (cut-byte l h) ∙ found-byte found (omega (arith, cut-length l))))
  | no h ↦ omega arith
]

-- ---- the line at a place

module _ (text : List ℕ) (at : ℕ) where
  -- its bytes are those from the place on of the text up to its end
  pub line-cut : line_at text at ≡ drop at (take (end_of text at) text)
  unfolding line_at
  line-cut = sym (drop-take at (index_of 10 (drop at text)) text)

  pub lines_at : is_ended text ≡ true → at < length text → lines_from text at ≡ line_at text at ∷ lines_from text (end_of text at + 1)
  unfolding line_at
  lines_at ended h =
      let e : end_of text at - at ≡ index_of 10 (drop at text) = omega arith in
      rw e at (lines_next text ended h (in-line text ended at h).found)
