-- A line that reading stops at or goes past: what is found then, and what is known after it.
use mathlib.Core.Path.{◌≡◌, refl, sym, ap, ◌∙◌}
use mathlib.Core.Option.{Option, none, some}
use Prim.Native.Nat.{ℕ, zero, suc, ◌≤◌}
use native.Mathlib.Omega.{arith}
use Rattle.meaning.specs.Line.{Line}
use Rattle.meaning.specs.Known.{Known}
use Rattle.meaning.specs.Meaning.{after}
use Rattle.meaning.specs.Refusal.{Reading, refused, read, on_some, on_reading, is_placed, rules_with, rules_within, rules, first_broken, plain, cons_line, read_line}
use Rattle.reader.specs.Step.{stops, goes, step_of, step_option}
use Rattle.reader.specs.Read.{refused_at, survey_of}

-- the rules are the same for every line after line 0
step_after : (m : ℕ) (s : Known) (o : Option Line) → step_option 1 s o ≡ step_option (suc m) s o
unfolding step_option step_of rules rules_with rules_within first_broken is_placed
step_after m s none = refl
step_after m s (some l) = refl

pub step-later : (n : ℕ) → 1 ≤ n → (s : Known) (o : Option Line) → step_option 1 s o ≡ step_option n s o
step-later zero h s o = absurd (omega arith)
step-later (suc m) h s o = step_after m s o

-- ---- a step taken apart

survey-cons : (l : Line) (r : Reading) → survey_of (cons_line l r) ≡ survey_of r
unfolding survey_of cons_line on_reading
survey-cons l (refused n i) = refl
survey-cons l (read ls z) = refl

module _ (n : ℕ) (s : Known) (rest : Known → Reading) where
  stopped_by : (o : Option ℕ) (l : Line) (r : ℕ) (a : Known) → stops r ≡ on_some o stops (goes a)
      → survey_of (on_some o (λ r. refused r n) (cons_line l (rest a))) ≡ refused_at r n
  unfolding on_some survey_of on_reading
  stopped_by none l r a e = let z : ◌≡◌ {A = ℕ} 0 1 = cc in absurd (omega arith)
  stopped_by (some q) l r a e = cc

  gone-by : (o : Option ℕ) (l : Line) (a b : Known) → goes b ≡ on_some o stops (goes a)
      → (o ≡ none) × (b ≡ a) × (survey_of (on_some o (λ r. refused r n) (cons_line l (rest a))) ≡ survey_of (rest b))
  unfolding on_some
  gone-by none l a b e = let is : b ≡ a = cc in (refl, is, survey-cons l (rest a) ∙ ap (λ (z : Known). survey_of (rest z)) (sym is))
  gone-by (some q) l a b e = let z : ◌≡◌ {A = ℕ} 0 1 = cc in absurd (omega arith)

  pub stopped-at : (o : Option Line) (r : ℕ) → stops r ≡ step_option n s o → survey_of (read_line plain n s o rest) ≡ refused_at r n
  unfolding step_option step_of read_line survey_of on_reading
  stopped-at none r e = cc
  stopped-at (some l) r e = stopped_by (first_broken rules n s l) l r (after s l) e

  pub gone_at : (o : Option Line) (b : Known) → goes b ≡ step_option n s o
      → (l : Line) × (first_broken rules n s l ≡ none) × (b ≡ after s l) × (survey_of (read_line plain n s o rest) ≡ survey_of (rest b))
  unfolding step_option step_of read_line
  gone_at none b e = let z : ◌≡◌ {A = ℕ} 0 1 = cc in absurd (omega arith)
  gone_at (some l) b e = let g = gone-by (first_broken rules n s l) l (after s l) b e in (l, g.0, g.1, g.2)
