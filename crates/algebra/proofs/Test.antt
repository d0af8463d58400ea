-- Boolean tests as propositions: `T b` of lib.Dec says that the test b passed, `b ≡ false` that it failed.
-- First what holds of every test, then what the tests of order and equality on ℕ and ℤ say when they pass and when they fail, then a test
-- of many numbers.
use mathlib.Core.Path.{◌≡◌, refl, subst}
use mathlib.Core.Bool.{Bool, true, false, not, cond, ◌&&◌, ◌||◌}
use mathlib.Core.List.{List, [], ◌∷◌}
use mathlib.Core.Logic.{◌⊎◌, inl, inr, ◌≢◌, ◌↔◌}
use Prim.Native.Nat.{ℕ, zero, suc, ◌≤◌, ◌<◌}
use native.Mathlib.Omega.{arith}
use native.Mathlib.Decide.{ℕ_discrete}
use lib.ListN.{length, get_or}
use lib.IntN.{ℤ, pos, negsuc}
use lib.Signed.{◌≤ℤ◌, ◌<ℤ◌, le_z, lt_z}
use lib.Dec.{T, eqb, leb, ltb, eqb→eq, eqb_refl, leb→le, le→leb, nleb→lt, ltb→lt, lt→ltb, nltb→le}

-- ---- any test

pub both : (a b : Bool) → T a → T b → T (a && b)
both true b s t = t
both false b s t = s

pub left : (a b : Bool) → T (a && b) → T a
left true b t = tt
left false b t = t

pub right : (a b : Bool) → T (a && b) → T b
right true b t = t
right false b t = absurd t

pub test-≡ : (b : Bool) → T b → b ≡ true
test-≡ true t = refl
test-≡ false t = absurd t

pub ≡-test : (b : Bool) → b ≡ true → T b
≡-test b e = rw e tt

pub false-not : (b : Bool) → b ≡ false → ¬ T b
false-not b e t = subst T e t

pub not-false : (b : Bool) → ¬ T b → b ≡ false
not-false true h = absurd (h tt)
not-false false h = refl

pub false-test : (b : Bool) → b ≡ false → T (not b)
false-test b e = rw e tt

pub decide : (b : Bool) → (T b) ⊎ (b ≡ false)
decide true = inl tt
decide false = inr refl

pub either : (a b : Bool) → T (a || b) → (T a) ⊎ (T b)
either true b t = inl tt
either false b t = inr t

-- what holds of x where the test passed and of y where it failed holds of the choice between them
pub cond_cases {ℓ κ} : {A : Type ℓ} (P : A → Type κ) (b : Bool) (x y : A) → (T b → P x) → (b ≡ false → P y) → P (cond b x y)
cond_cases P true x y f g = f tt
cond_cases P false x y f g = g refl

pub elim-cases {ℓ κ} : {A : Type ℓ} (P : A → Type κ) (b : Bool) (x y : A) → (T b → P x) → (b ≡ false → P y)
    → P (elim b [ true ↦ x | false ↦ y ])
elim-cases P true x y f g = f tt
elim-cases P false x y f g = g refl

-- ---- equality and order on ℕ

pub eqb-iff : (a b : ℕ) → T (eqb a b) ↔ (a ≡ b)
eqb-iff a b = (eqb→eq a b, λ e. rw e (eqb_refl b))

pub eqb-false : (a b : ℕ) → eqb a b ≡ false → a ≢ b
eqb-false a b f e = false-not (eqb a b) f ((eqb-iff a b).1 e)

pub false-eqb : (a b : ℕ) → a ≢ b → eqb a b ≡ false
false-eqb a b h = not-false (eqb a b) (λ t. h (eqb→eq a b t))

pub leb-iff : (a b : ℕ) → T (leb a b) ↔ (a ≤ b)
leb-iff a b = (leb→le a b, le→leb a b)

pub leb-false : (a b : ℕ) → leb a b ≡ false → b < a
leb-false a b f = nleb→lt a b (false-test (leb a b) f)

pub false-leb : (a b : ℕ) → b < a → leb a b ≡ false
false-leb a b h = not-false (leb a b) (λ t. let k : a ≤ b = leb→le a b t in omega arith)

pub ltb_iff : (a b : ℕ) → T (ltb a b) ↔ (a < b)
ltb_iff a b = (ltb→lt a b, lt→ltb a b)

pub ltb-false : (a b : ℕ) → ltb a b ≡ false → b ≤ a
ltb-false a b f = nltb→le a b (false-test (ltb a b) f)

pub false-ltb : (a b : ℕ) → b ≤ a → ltb a b ≡ false
false-ltb a b h = not-false (ltb a b) (λ t. let k : a < b = ltb→lt a b t in omega arith)

-- ---- order on ℤ

pub le_z-iff : (a b : ℤ) → T (le_z a b) ↔ (a ≤ℤ b)
le_z-iff a b = (λ t. record { le = t }, λ h. h.le)

not_le_z : (a b : ℤ) → T (not (le_z a b)) → T (lt_z b a)
not_le_z (pos a) (pos b) t = lt→ltb b a (nleb→lt a b t)
not_le_z (pos a) (negsuc b) t = tt
not_le_z (negsuc a) (pos b) t = t
not_le_z (negsuc a) (negsuc b) t = lt→ltb a b (nleb→lt b a t)

pub le_z-not : (a b : ℤ) → T (not (le_z a b)) → b <ℤ a
le_z-not a b t = record { lt = not_le_z a b t }

pub le_z-false : (a b : ℤ) → le_z a b ≡ false → b <ℤ a
le_z-false a b f = le_z-not a b (false-test (le_z a b) f)

pub order : (a b : ℤ) → (a ≤ℤ b) ⊎ (b <ℤ a)
order a b = elim (decide (le_z a b)) [ inl t ↦ inl ((le_z-iff a b).0 t) | inr f ↦ inr (le_z-false a b f) ]

-- ---- tests over a list, and over the numbers below a bound

abbrev pub every : (ℕ → Bool) → List ℕ → Bool
every f [] = true
every f (x ∷ xs) = f x && every f xs

pub every-at : (f : ℕ → Bool) (xs : List ℕ) → T (every f xs) → (k : ℕ) → k < length xs → T (f (get_or xs k 0))
every-at f [] t k h = absurd (omega arith)
every-at f (x ∷ xs) t zero h = left (f x) (every f xs) t
every-at f (x ∷ xs) t (suc k) h = every-at f xs (right (f x) (every f xs) t) k (omega arith)

abbrev pub every_below : (ℕ → Bool) → ℕ → Bool
every_below f zero = true
every_below f (suc n) = f n && every_below f n

pub every_below-at : (f : ℕ → Bool) (n : ℕ) → T (every_below f n) → (k : ℕ) → k < n → T (f k)
every_below-at f zero t k h = absurd (omega arith)
every_below-at f (suc n) t k h = elim (ℕ_discrete k n) [
  | yes e ↦ rw e (left (f n) (every_below f n) t)
  | no e ↦ every_below-at f n (right (f n) (every_below f n) t) k (omega arith)
]
