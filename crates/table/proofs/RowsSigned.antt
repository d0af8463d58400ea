-- The rows of the lines that have a sign, relu and which, as those of the sign.
use mathlib.Core.Path.{◌≡◌, refl}
use Prim.Native.Nat.{ℕ, ◌+◌}
use native.Mathlib.Numerals.{add-one}
use lib.IntN.{pos}
use Rattle.meaning.specs.Known.{Known, place_of}
use Rattle.meaning.specs.Row.{cell, constant, ◌⊖◌, ◌⊗◌, ◌≅◌}
use Rattle.meaning.specs.Gadget.Sign.{sign_rows}
use Rattle.meaning.specs.Gadget.Relu.{relu_line}
use Rattle.meaning.specs.Gadget.Which.{which_line}

pub relu-rows-are : (s : Known) (v place at b k : ℕ) → place_of s v ≡ place → s.cells ≡ at
    → (relu_line s v b k).rows ≡ sign_rows (cell place) (at + 1) b k (λ f. f ⊗ cell place ≅ cell at)
unfolding relu_line
relu-rows-are s v place at b k e h = rw (e, h, add-one) refl

pub which-rows-are : (s : Known) (u v place-u place-v at b k : ℕ) → place_of s u ≡ place-u → place_of s v ≡ place-v → s.cells ≡ at
    → (which_line s u v b k).rows ≡ sign_rows (cell place-u ⊖ cell place-v) (at + 1) b k (λ f. cell at ≅ constant (pos 1) ⊖ f)
unfolding which_line
which-rows-are s u v place-u place-v at b k d e h = rw (d, e, h, add-one) refl
