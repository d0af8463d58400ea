-- `or_refused` and `refusal_at`, and the option that they read: `or_refused` is the refusal exactly where there is no value, and a value exactly
-- where there is that one; `refusal_at` is a refusal exactly at the place that is there.
use Prim.Native.Nat.{ℕ}
use native.Mathlib.Omega.{arith}
use mathlib.Core.Path.{◌≡◌, refl, ap}
use mathlib.Core.Option.{Option, none, some, none-ne-some, some-ne-none, some-injective}
use Rattle.meaning.specs.Refusal.{value, refused_by, or_refused}
use Rattle.meaning.specs.Reply.{Reply, reply, refusal_at}

module _ {A : Type 0} (number : ℕ) where
  pub none-refused : {o : Option A} → o ≡ none → or_refused number o ≡ refused_by number
  unfolding or_refused
  none-refused q = ap (or_refused number) q

  pub some-value : {o : Option A} {x : A} → o ≡ some x → or_refused number o ≡ value x
  unfolding or_refused
  some-value q = ap (or_refused number) q

  pub refused_none : (o : Option A) → or_refused number o ≡ refused_by number → o ≡ none
  unfolding or_refused
  refused_none none q = refl
  refused_none (some x) q = let e : ◌≡◌ {A = ℕ} 0 1 = cc in absurd (omega arith)

  pub value-some : (o : Option A) {x : A} → or_refused number o ≡ value x → o ≡ some x
  unfolding or_refused
  value-some none q = let e : ◌≡◌ {A = ℕ} 0 1 = cc in absurd (omega arith)
  value-some (some y) q = cc

pub refusal-none : (number : ℕ) (o : Option ℕ) → refusal_at number o ≡ none → o ≡ none
unfolding refusal_at
refusal-none number none q = refl
refusal-none number (some i) q = absurd (some-ne-none _ q)

pub refusal-place : (number : ℕ) (o : Option ℕ) {i : ℕ} → refusal_at number o ≡ some (reply number i) → o ≡ some i
unfolding refusal_at
refusal-place number none q = absurd (none-ne-some _ q)
refusal-place number (some j) q = ap (λ (r : Reply). some r.place) (some-injective _ _ q)
