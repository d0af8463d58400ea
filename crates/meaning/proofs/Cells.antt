-- Stretches of a table: the cells from one place on, and how a stretch is told part by part.
use mathlib.Core.Path.{◌≡◌, refl, sym, ap, ap₂, ◌∙◌}
use mathlib.Core.List.{List, [], ◌∷◌, ◌++◌}
use mathlib.Core.Logic.{◌↔◌}
use Prim.Native.Nat.{ℕ, zero, suc, ◌+◌, ◌≤◌, ◌<◌}
use native.Mathlib.Omega.{arith}
use lib.ListN.{length, get_or, take, drop, length-drop}
use lib.Seq.{take-add, drop-drop, drop-cons, length-take-le, take_at, drop_at}

-- the count cells from the one called at
unfoldable pub cells_at : List ℕ → (at count : ℕ) → List ℕ
cells_at t at count = take count (drop at t)

pub cells_at-zero : (t : List ℕ) (at : ℕ) → cells_at t at zero ≡ []
unfolding cells_at
cells_at-zero t at = refl

pub cells_at-suc : (t : List ℕ) (at count : ℕ) → at < length t → cells_at t at (suc count) ≡ get_or t at 0 ∷ cells_at t (suc at) count
unfolding cells_at
cells_at-suc t at count h = rw (drop-cons t at 0 h) refl

pub cells_at-+ : (t : List ℕ) (at m n : ℕ) → cells_at t at (m + n) ≡ cells_at t at m ++ cells_at t (at + m) n
unfolding cells_at
cells_at-+ t at m n = take-add m n (drop at t) ∙ rw (drop-drop m at t) refl

pub length-cells_at : (t : List ℕ) (at count : ℕ) → at + count ≤ length t → length (cells_at t at count) ≡ count
unfolding cells_at
length-cells_at t at count h = length-take-le count (drop at t) (omega (arith, length-drop at t))

-- ---- equal lists have equal parts

pub head-equal : {x y : ℕ} {xs ys : List ℕ} → x ∷ xs ≡ y ∷ ys → x ≡ y
head-equal e = ap (λ l. get_or l 0 0) e

pub tail-equal : {x y : ℕ} {xs ys : List ℕ} → x ∷ xs ≡ y ∷ ys → xs ≡ ys
tail-equal e = ap (drop 1) e

pub front-equal : (xs ys us vs : List ℕ) → length xs ≡ length us → xs ++ ys ≡ us ++ vs → xs ≡ us
front-equal xs ys us vs l e = sym (take_at xs ys (length xs) refl) ∙ ap (take (length xs)) e ∙ take_at us vs (length xs) (sym l)

pub back-equal : (xs ys us vs : List ℕ) → length xs ≡ length us → xs ++ ys ≡ us ++ vs → ys ≡ vs
back-equal xs ys us vs l e = sym (drop_at xs ys (length xs) refl) ∙ ap (drop (length xs)) e ∙ drop_at us vs (length xs) (sym l)

-- ---- a stretch, told by its first cell and by its parts

module _ (t : List ℕ) (at : ℕ) where
  pub cons-iff : (count x : ℕ) (xs : List ℕ) → at < length t
      → (cells_at t at (suc count) ≡ x ∷ xs) ↔ ((get_or t at 0 ≡ x) × (cells_at t (suc at) count ≡ xs))
  cons-iff count x xs h = (
    λ e. let q = sym (cells_at-suc t at count h) ∙ e in (head-equal q, tail-equal q),
    λ e. cells_at-suc t at count h ∙ ap₂ (λ (y : ℕ) (ys : List ℕ). y ∷ ys) e.0 e.1,
  )

  pub append-iff : (m n : ℕ) (xs ys : List ℕ) → at + m ≤ length t → length xs ≡ m
      → (cells_at t at (m + n) ≡ xs ++ ys) ↔ ((cells_at t at m ≡ xs) × (cells_at t (at + m) n ≡ ys))
  append-iff m n xs ys h l = (
    λ e. let q = sym (cells_at-+ t at m n) ∙ e in
        let k = length-cells_at t at m h ∙ sym l in
        (front-equal (cells_at t at m) (cells_at t (at + m) n) xs ys k q, back-equal (cells_at t at m) (cells_at t (at + m) n) xs ys k q),
    λ e. cells_at-+ t at m n ∙ ap₂ (λ (us vs : List ℕ). us ++ vs) e.0 e.1,
  )
