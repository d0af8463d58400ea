-- The rules that the lines of a list keep, as later proofs go through the lines: what is found by any rules of one line (none is broken, or the
-- first that is), and a line that breaks none of the rules of a list keeps what each asks.
use Prim.Native.Nat.{ℕ, suc, ◌<◌}
use native.Mathlib.Omega.{arith}
use mathlib.Core.Path.{◌≡◌, refl, sym, ◌∙◌}
use mathlib.Core.Bool.{Bool}
use mathlib.Core.Logic.{◌⊎◌, inl, inr}
use mathlib.Core.List.{List, [], ◌∷◌}
use mathlib.Core.Option.{Option, none, some, none-ne-some, some-injective}
use lib.Dec.{T, lit<}
use lib.ListN.{length}
use Rattle.algebra.proofs.Test.{cond_cases}
use Rattle.meaning.specs.Line.{Line}
use Rattle.meaning.specs.Known.{Known}
use Rattle.meaning.specs.Refusal.{RuleOf, rules_with, rules_within, rules, first_broken, Way}
use Rattle.meaning.specs.Kept.{KeptBy, Keeps}
use Rattle.meaning.specs.Claims.{no_rule, rule_at, known_after}
use Rattle.meaning.proofs.Lists.{FirstFails, all-pass-cons, first-fails-here, first-fails-later}

pub kept-known : {S : Type 0} (w : Way S) (n : ℕ) (s : S) (ls : List Line) (s' : S) → KeptBy w n s ls s' → s' ≡ known_after w.next s ls
unfolding known_after
kept-known w n s [] s' h = sym h
kept-known w n s (l ∷ ls) s' h = kept-known w (suc n) (w.next s l) ls s' h.1

-- ---- a table of rules

-- line n in state s, by any rules
module _ {S : Type 0} (n : ℕ) (s : S) (l : Line) where
  abbrev kept_by : RuleOf S → Bool
  kept_by r = r.keeps n s l

  abbrev AllKept : List (RuleOf S) → Type 0
  AllKept rs = (k : ℕ) → k < length rs → T ((rule_at rs k).keeps n s l)

  -- r is the number of the first rule that is broken
  abbrev FirstBroken : List (RuleOf S) → (r : ℕ) → Type 0
  FirstBroken rs r = (k : ℕ) × (r ≡ (rule_at rs k).refusal) × FirstFails kept_by no_rule rs k

  abbrev Found : List (RuleOf S) → Option ℕ → Type 0
  Found rs o = ((o ≡ none) × AllKept rs) ⊎ ((r : ℕ) × (o ≡ some r) × FirstBroken rs r)

  found-later : (r : RuleOf S) (rs : List (RuleOf S)) (o : Option ℕ) → T (kept_by r) → Found rs o → Found (r ∷ rs) o
  found-later r rs o t (inl h) = inl (h.0, all-pass-cons kept_by no_rule r rs t h.1)
  found-later r rs o t (inr (q, e, (k, p, first))) = inr (q, e, (suc k, p, first-fails-later kept_by no_rule r rs k t first))

  found : (rs : List (RuleOf S)) → Found rs (first_broken rs n s l)
  unfolding first_broken
  found [] = inl (refl, λ k h. absurd (omega arith))
  found (r ∷ rs) =
      cond_cases (Found (r ∷ rs)) (kept_by r) (first_broken rs n s l) (some r.refusal)
      (λ t. found-later r rs (first_broken rs n s l) t (found rs))
      (λ e. inr (r.refusal, refl, (0, refl, first-fails-here kept_by no_rule r rs e)))

  pub none-broken : (rs : List (RuleOf S)) → first_broken rs n s l ≡ none → AllKept rs
  none-broken rs e = by (found rs)
    where
      by : Found rs (first_broken rs n s l) → AllKept rs
      by (inl h) = h.1
      by (inr h) = absurd (none-ne-some _ (sym e ∙ h.1))

  pub one-broken : (rs : List (RuleOf S)) (r : ℕ) → first_broken rs n s l ≡ some r → FirstBroken rs r
  one-broken rs r e = by (found rs)
    where
      by : Found rs (first_broken rs n s l) → FirstBroken rs r
      by (inl h) = absurd (none-ne-some _ (sym h.0 ∙ e))
      by (inr h) = rw (some-injective _ _ (sym e ∙ h.1)) h.2

-- ---- one line

pub keeps-all : (n : ℕ) (s : Known) (l : Line) → first_broken rules n s l ≡ none → Keeps n s l
unfolding rules rules_within rules_with
keeps-all n s l e =
    let kept : (k : ℕ) → k < length rules → T ((rule_at rules k).keeps n s l) = none-broken n s l rules e in
    record {
      placed = kept 0 (lit< tt);
      over-prime = kept 1 (lit< tt);
      ranged = kept 2 (lit< tt);
      names-made = kept 3 (lit< tt);
      values-fit = kept 4 (lit< tt);
      cells_fit = kept 5 (lit< tt);
      unambiguous = kept 6 (lit< tt);
      fits = kept 7 (lit< tt);
      overlaps = kept 8 (lit< tt);
    }
