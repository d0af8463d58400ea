-- The larger and the smaller of two whole numbers, and the test of a range, as propositions of order.
use mathlib.Core.Path.{◌≡◌, refl}
use mathlib.Core.Logic.{◌⊎◌, inl, inr, ◌↔◌}
use lib.Dec.{T}
use lib.IntN.{ℤ}
use lib.Signed.{◌≤ℤ◌, le_z, ≤ℤ_refl}
use Rattle.algebra.proofs.Test.{both, left, right, cond_cases, le_z-iff, le_z-false}
use Rattle.algebra.proofs.Integer.Linear.{linear}
use Rattle.meaning.specs.Number.{between}
use Rattle.meaning.specs.Known.{larger, smaller}

pub between-iff : (low x high : ℤ) → T (between low x high) ↔ ((low ≤ℤ x) × (x ≤ℤ high))
unfolding between
between-iff low x high = (
  λ t. (record { le = left (le_z low x) (le_z x high) t }, record { le = right (le_z low x) (le_z x high) t }),
  λ h. both (le_z low x) (le_z x high) h.0.le h.1.le,
)

module _ (a b : ℤ) where
  pub larger-left : a ≤ℤ larger a b
  unfolding larger
  larger-left = cond_cases (λ z. a ≤ℤ z) (le_z a b) b a (λ t. (le_z-iff a b).0 t) (λ _. ≤ℤ_refl a)

  pub larger-right : b ≤ℤ larger a b
  unfolding larger
  larger-right = cond_cases (λ z. b ≤ℤ z) (le_z a b) b a (λ _. ≤ℤ_refl b) (λ f. let h = le_z-false a b f in omega linear)

  pub larger-either : (larger a b ≡ a) ⊎ (larger a b ≡ b)
  unfolding larger
  larger-either = cond_cases (λ z. (z ≡ a) ⊎ (z ≡ b)) (le_z a b) b a (λ _. inr refl) (λ _. inl refl)

  pub larger-least : (c : ℤ) → a ≤ℤ c → b ≤ℤ c → larger a b ≤ℤ c
  unfolding larger
  larger-least c h k = cond_cases (λ z. z ≤ℤ c) (le_z a b) b a (λ _. k) (λ _. h)

  pub larger-is-left : b ≤ℤ a → larger a b ≡ a
  unfolding larger
  larger-is-left h = cond_cases (λ z. z ≡ a) (le_z a b) b a (λ t. let k = (le_z-iff a b).0 t in omega linear) (λ _. refl)

  pub larger-is-right : a ≤ℤ b → larger a b ≡ b
  unfolding larger
  larger-is-right h = cond_cases (λ z. z ≡ b) (le_z a b) b a (λ _. refl) (λ f. let k = le_z-false a b f in omega linear)

  pub smaller-left : smaller a b ≤ℤ a
  unfolding smaller
  smaller-left = cond_cases (λ z. z ≤ℤ a) (le_z a b) a b (λ _. ≤ℤ_refl a) (λ f. let h = le_z-false a b f in omega linear)

  pub smaller-right : smaller a b ≤ℤ b
  unfolding smaller
  smaller-right = cond_cases (λ z. z ≤ℤ b) (le_z a b) a b (λ t. (le_z-iff a b).0 t) (λ _. ≤ℤ_refl b)

  pub smaller-greatest : (c : ℤ) → c ≤ℤ a → c ≤ℤ b → c ≤ℤ smaller a b
  unfolding smaller
  smaller-greatest c h k = cond_cases (λ z. c ≤ℤ z) (le_z a b) a b (λ _. h) (λ _. k)

pub larger-keeps : {a b c d : ℤ} → a ≤ℤ c → b ≤ℤ d → larger a b ≤ℤ larger c d
larger-keeps {a} {b} {c} {d} h k =
    let l = larger-left c d in
    let r = larger-right c d in
    larger-least a b (larger c d) (omega linear) (omega linear)
