-- Every line that keeps its rules has the law of its kind: the one place where the kinds of lines are told apart.
use mathlib.Core.Path.{◌≡◌, refl, sym, subst}
use mathlib.Core.Bool.{Bool, true, false, ◌&&◌}
use mathlib.Core.List.{List, [], ◌∷◌}
use mathlib.Core.Logic.{◌⊎◌, inl, inr, ⊎_elim}
use Prim.Native.Nat.{ℕ, zero, suc, ◌%◌, ◌≤◌, ◌<◌}
use native.Mathlib.Omega.{arith}
use lib.Dec.{T, eqb, leb, ltb, eqb→eq, ltb→lt}
use lib.ListN.{length, take}
use lib.Seq.{length-take-le}
use lib.IntN.{ℤ, pos, negsuc, nat_abs}
use lib.Signed.{◌≤ℤ◌, non_neg}
use Rattle.algebra.proofs.Test.{left, right, ≡-test}
use Rattle.algebra.proofs.Integer.Linear.{linear}
use Rattle.meaning.specs.Number.{in_range, odd_prime, OddPrime}
use Rattle.meaning.specs.Word.{Word, field, input, span, sum, relu, which, max, root, number_at, size_at, alternate, without_first, digits_at, most_numbers, kind_of}
use Rattle.meaning.specs.Line.{Line}
use Rattle.meaning.specs.Known.{Known, fresh, Ranged}
use Rattle.meaning.specs.Gadget.Sum.{terms_of}
use Rattle.meaning.specs.Meaning.{gadget, prime_after, after}
use Rattle.meaning.specs.Refusal.{all, is_placed, is_over_prime, is_digits, is_ranged, is_made}
use Rattle.meaning.proofs.Number.{odd-prime}
use Rattle.meaning.proofs.Law.{Law}
use Rattle.meaning.specs.Kept.{Keeps, Sound}
use Rattle.meaning.proofs.Gadget.Field.{field-law}
use Rattle.meaning.proofs.Gadget.Input.{input-law}
use Rattle.meaning.proofs.Gadget.Span.{span-law}
use Rattle.meaning.proofs.Gadget.Sum.{Named, sum-law}
use Rattle.meaning.proofs.Gadget.Relu.{relu-law}
use Rattle.meaning.proofs.Gadget.Which.{which-law}
use Rattle.meaning.proofs.Gadget.Max.{max-law}
use Rattle.meaning.proofs.Gadget.Root.{root-law}

-- ---- what the rules say of a line's numbers

pub made-name : (n : ℕ) (v : ℤ) → T (is_made n v) → nat_abs v < n
unfolding is_made
made-name n v t = ltb→lt (nat_abs v) n (right (non_neg v) (ltb (nat_abs v) n) t)

pub not-below : (z : ℤ) → T (non_neg z) → pos 0 ≤ℤ z
not-below (pos n) t = omega linear
not-below (negsuc n) t = absurd t

size-at-least : (n : ℕ) (z : ℤ) → pos n ≤ℤ z → n ≤ nat_abs z
size-at-least n (pos m) h = omega linear
size-at-least n (negsuc m) h = omega linear

-- the base and the digit count are in their ranges
pub digits-given : (p i : ℕ) (w : Word) (ns : List ℤ) → (kind_of w).digits ns ≡ digits_at ns i → T (is_ranged p w ns) → T (all is_digits (digits_at ns i))
unfolding is_ranged
digits-given p i w ns e t =
    rw e at
    (left (all is_digits ((kind_of w).digits ns)) (all (in_range p) ((kind_of w).shifts ns))
    (left (all is_digits ((kind_of w).digits ns) && all (in_range p) ((kind_of w).shifts ns)) (all (in_range p) ((kind_of w).coefficients ns)) t))

-- b is at least 2 and k at least 1, where they are the numbers from place i on
pub digits-ranged : (p i : ℕ) (w : Word) (ns : List ℤ) → (kind_of w).digits ns ≡ digits_at ns i → T (is_ranged p w ns)
    → (2 ≤ size_at ns i) × (1 ≤ size_at ns (suc i))
unfolding is_digits digits_at size_at all
digits-ranged p i w ns e t =
    let good = digits-given p i w ns e t in (
      size-at-least 2 (number_at ns i) (record { le = search (left, right) }),
      size-at-least 1 (number_at ns (suc i)) (record { le = search (left, right) }),
    )

-- a sum has an odd count of numbers
pub sum-odd : (numbers : List ℤ) (m : ℕ) → m ≤ length numbers → (kind_of sum).is_counted (take m numbers) ≡ true → m % 2 ≡ 1
unfolding kind_of
sum-odd numbers m few counted =
    let n : ℕ = length (take m numbers) in
    let odd : n % 2 ≡ 1 = eqb→eq (n % 2) 1 (left (eqb (n % 2) 1) (leb n most_numbers) (≡-test ((kind_of sum).is_counted (take m numbers)) counted)) in
    rw (length-take-le m numbers few) at odd

-- the first name, and the two names of a line that has two
pub first-named : (m i : ℕ) (ns vs : List ℤ) → T (all (is_made m) (number_at ns i ∷ vs)) → size_at ns i < m
unfolding all size_at
first-named m i ns vs t = made-name m (number_at ns i) (left (is_made m (number_at ns i)) (all (is_made m) vs) t)

pub second-named : (m i : ℕ) (ns vs : List ℤ) (v : ℤ) → T (all (is_made m) (v ∷ number_at ns i ∷ vs)) → size_at ns i < m
unfolding all
second-named m i ns vs v t = first-named m i ns vs (right (is_made m v) (all (is_made m) (number_at ns i ∷ vs)) t)

-- the terms of a sum name made values: v1, v2, .. are every other number after c0 and c1
pub terms-named : (s : Known) (ns : List ℤ) → T (all (is_made (length s.known)) (alternate (without_first ns))) → Named s (terms_of ns)
unfolding terms_of alternate without_first all
terms-named s [] t = tt
terms-named s (c ∷ []) t = tt
terms-named s (c ∷ (v ∷ [])) t = (made-name (length s.known) v (left (is_made (length s.known) v) true t), tt)
terms-named s (c ∷ (v ∷ (d ∷ ns))) t =
    let rest : Bool = all (is_made (length s.known)) (alternate ns) in (
      made-name (length s.known) v (left (is_made (length s.known) v) rest t),
      terms-named s (d ∷ ns) (right (is_made (length s.known) v) rest t),
    )

-- ---- a line that is not a field line comes after line 0

pub after-field : (n : ℕ) (w : Word) → (kind_of w).is_field ≡ false → T (is_placed n w) → zero < n
unfolding is_placed
after-field zero w e t = absurd (subst T e t)
after-field (suc n) w e t = omega arith

first-line : (n : ℕ) → T (is_placed n field) → n ≡ 0
unfolding is_placed kind_of
first-line zero t = refl
first-line (suc n) t = absurd t

pub field-or-not : (w : Word) (p : ℕ) (ns : List ℤ) → (w ≡ field) ⊎ (((kind_of w).is_field ≡ false) × (prime_after w p ns ≡ p))
unfolding kind_of prime_after
field-or-not field p ns = inl refl
field-or-not input p ns = inr (refl, refl)
field-or-not span p ns = inr (refl, refl)
field-or-not sum p ns = inr (refl, refl)
field-or-not relu p ns = inr (refl, refl)
field-or-not which p ns = inr (refl, refl)
field-or-not max p ns = inr (refl, refl)
field-or-not root p ns = inr (refl, refl)

field-prime : (p : ℕ) (ns : List ℤ) → T (is_over_prime field ns) → OddPrime (prime_after field p ns)
unfolding is_over_prime prime_after size_at kind_of
field-prime p ns t = odd-prime (nat_abs (number_at ns 0)) (right (non_neg (number_at ns 0)) (odd_prime (nat_abs (number_at ns 0))) t)

-- ---- the law, by word

module _ (n : ℕ) (s : Known) (sound : Sound n s) where
  -- of a line with this word and these numbers: what the rules 6 and 7 give of its first, second, .. number
  abbrev line : Word → List ℤ → Line
  line w ns = record { word = w; numbers = ns }

  prime-at : (w : Word) (ns : List ℤ) → (kind_of w).is_field ≡ false → Keeps n s (line w ns) → OddPrime s.p
  prime-at w ns e k = sound.prime (after-field n w e k.placed)

  nothing-ranged : (p : ℕ) → Ranged p fresh.known
  unfolding fresh
  nothing-ranged p = tt

  by_word : (w : Word) (ns : List ℤ) → Keeps n s (line w ns) → Law (prime_after w s.p ns) s ((kind_of w).gadget s ns)
  unfolding kind_of prime_after gadget
  by_word field ns k =
      field-law (size_at ns 0) s (subst (λ (q : Known). Ranged (size_at ns 0) q.known) (sym (sound.start (first-line n k.placed))) (nothing-ranged (size_at ns 0)))
  by_word input ns k = input-law s (prime-at input ns refl k) sound.ranged
  by_word span ns k =
      let d = digits-ranged s.p 1 span ns refl k.ranged in
      span-law s (prime-at span ns refl k) sound.ranged (size_at ns 0) (size_at ns 1) (size_at ns 2) (number_at ns 3)
      (first-named (length s.known) 0 ns [] k.names-made) (omega (arith, d.0)) k.unambiguous
  by_word sum ns k =
      sum-law s (prime-at sum ns refl k) sound.ranged (number_at ns 0) (terms_of (without_first ns))
      (terms-named s (without_first ns) k.names-made) k.fits
  by_word relu ns k =
      let d = digits-ranged s.p 1 relu ns refl k.ranged in
      relu-law s (prime-at relu ns refl k) sound.ranged (size_at ns 0) (size_at ns 1)
      (first-named (length s.known) 0 ns [] k.names-made) d.0 (size_at ns 2) d.1 k.unambiguous
  by_word which ns k =
      let d = digits-ranged s.p 2 which ns refl k.ranged in
      which-law s (prime-at which ns refl k) sound.ranged (size_at ns 0) (size_at ns 1) (size_at ns 2)
      (first-named (length s.known) 0 ns _ k.names-made) (second-named (length s.known) 1 ns [] _ k.names-made)
      d.0 (size_at ns 3) d.1 k.unambiguous
  by_word max ns k =
      let d = digits-ranged s.p 2 max ns refl k.ranged in
      max-law s (prime-at max ns refl k) sound.ranged (size_at ns 0) (size_at ns 1) (size_at ns 2) (size_at ns 3)
      (first-named (length s.known) 0 ns _ k.names-made) (second-named (length s.known) 1 ns [] _ k.names-made)
      d.0 k.unambiguous
  by_word root ns k =
      let d = digits-ranged s.p 1 root ns refl k.ranged in
      root-law s (prime-at root ns refl k) sound.ranged (size_at ns 0) (size_at ns 1) (size_at ns 2)
      (first-named (length s.known) 0 ns [] k.names-made) d.0 k.unambiguous

  -- p is an odd prime after the line: the field line's by rule 5, and the same p after any other
  prime-by-word : (w : Word) (ns : List ℤ) → Keeps n s (line w ns) → OddPrime (prime_after w s.p ns)
  prime-by-word w ns k = ⊎_elim
      (λ e. subst (λ (v : Word). Keeps n s (line v ns) → OddPrime (prime_after v s.p ns)) (sym e) (λ f. field-prime s.p ns f.over-prime) k)
      (λ h. subst OddPrime (sym h.1) (prime-at w ns h.0 k))
      (field-or-not w s.p ns)

-- ---- what the induction over the list goes by

pub line-law : (n : ℕ) (s : Known) (l : Line) → Sound n s → Keeps n s l → Law (after s l).p s (gadget s l)
unfolding after gadget
line-law n s l h k = by_word n s h l.word l.numbers k

pub sound-after : (n : ℕ) (s : Known) (l : Line) → Sound n s → Keeps n s l → Sound (suc n) (after s l)
unfolding after gadget
sound-after n s l h k = record {
  start = λ e. absurd (omega arith);
  prime = λ _. prime-by-word n s h l.word l.numbers k;
  ranged = (by_word n s h l.word l.numbers k).ranged;
}

-- a later line does not change p
pub same-prime : (n : ℕ) (s : Known) (l : Line) → Keeps (suc n) s l → (after s l).p ≡ s.p
unfolding after
same-prime n s l k = ⊎_elim
    (λ e. absurd (suc-not-zero (first-line (suc n) (subst (λ (w : Word). T (is_placed (suc n) w)) e k.placed))))
    (λ h. h.1)
    (field-or-not l.word s.p l.numbers)
  where
    suc-not-zero : suc n ≡ 0 → ⊥
    suc-not-zero e = omega arith

pub sound-fresh : Sound 0 fresh
unfolding fresh
sound-fresh = record { start = λ _. refl; prime = λ h. absurd (omega arith); ranged = tt }
