-- Reading is exact (FORMAT 13.3), by any rules that are in the order of the tests: a text is read exactly when no refusal fits it, a refusal
-- that is replied is the first that fits, and the lines of a read text are those that its bytes spell and keep every rule.
use Prim.Native.Nat.{ℕ, zero, suc, ◌+◌, ◌<◌, ◌≤◌}
use native.Mathlib.Nat.{zero-add}
use native.Mathlib.Omega.{arith}
use mathlib.Core.Path.{◌≡◌, refl, sym, ap, ap₂, subst, ◌∙◌}
use mathlib.Core.Bool.{true, false, cond}
use mathlib.Core.Logic.{◌↔◌, inl, inr}
use mathlib.Core.List.{List, [], ◌∷◌, map}
use mathlib.Core.Option.{Option, none, some, none-ne-some, some-injective}
use lib.Dec.{T, leb}
use lib.ListN.{length, get_or}
use Rattle.algebra.proofs.Test.{leb-iff, leb-false, false-not, cond_cases}
use Rattle.meaning.specs.Text.{lines_of, is_ended}
use Rattle.meaning.specs.Line.{Line, line_of}
use Rattle.meaning.specs.Known.{Known, fresh}
use Rattle.meaning.specs.Refusal.{text_limit, on_some, RuleOf, rules_with, rules_within, rules, first_broken, test_order, place_among, rank, Way, plain, ReadingOf, refused, read, on_reading, cons_line, read_line, read_from, reading_by, reading}
use Rattle.meaning.specs.Claims.{
  line_at,
  after_bytes,
  known_before,
  rule_at,
  FitsLine,
  no_line,
  breaks,
  FitsBy,
  too_long,
  not-ended,
  in-line,
  Before,
  Spells,
  ReadsExactlyBy,
  ReadsExactly,
}
use Rattle.meaning.proofs.Ranks.{ascends, tests_of, in_order, IsTest, too-long-test, not-ended-test, no-line-test, rule-test, test-ranked, earlier-test, same_test}
use Rattle.meaning.specs.Kept.{KeptBy, Kept}
use Rattle.meaning.proofs.Kept.{kept-known, none-broken, one-broken}

module _ {S : Type 0} (w : Way S) (ordered : T (in_order w.rules)) where
  abbrev rs : List (RuleOf S)
  rs = w.rules

  -- ---- what fits a line

  -- a refusal fits line n + j, where bs are the lines from n on
  abbrev FaultAt : (n : ℕ) (s : S) (bs : List (List ℕ)) (number j : ℕ) → Type 0
  FaultAt n s [] r j = ⊥
  FaultAt n s (b ∷ bs) r zero = FitsLine rs n s b r
  FaultAt n s (b ∷ bs) r (suc j) = FaultAt (suc n) (after_bytes w.next s (line_of b)) bs r j

  -- a refusal of a line has a test, after those of 1 and 2
  line-test : {n : ℕ} {s : S} {b : List ℕ} {r : ℕ} → FitsLine rs n s b r → (k : ℕ) × IsTest rs k r × (2 ≤ k)
  line-test (no_line e _) = (2, rw e (no-line-test rs), omega arith)
  line-test (breaks k l h e _ _) = (suc (suc (suc k)), rw e (rule-test rs k h), omega arith)

  module _ (n : ℕ) (s : S) (b : List ℕ) where
    before-no-line : line_of b ≡ none → (r : ℕ) → rank r < rank 3 → ¬ FitsLine rs n s b r
    before-no-line e r h (no_line q _) = omega (arith, ap rank q)
    before-no-line e r h (breaks k l _ _ q _) = none-ne-some l (sym e ∙ q)

    module _ (l : Line) (spelled : line_of b ≡ some l) where
      -- a refusal of a spelled line is a broken rule
      only-broken : (r : ℕ) → FitsLine rs n s b r → (k : ℕ) × (k < length rs) × (r ≡ (rule_at rs k).refusal) × (¬ T ((rule_at rs k).keeps n s l))
      only-broken r (no_line _ q) = absurd (none-ne-some l (sym q ∙ spelled))
      only-broken r (breaks k m h e q f) = (k, h, e, rw (some-injective l m (sym spelled ∙ q)) f)

      no-fault : first_broken rs n s l ≡ none → (r : ℕ) → ¬ FitsLine rs n s b r
      no-fault e r f = let (k, h, _, broken) = only-broken r f in broken (none-broken n s l rs e k h)

      -- the rules before the first broken one are kept, and those are the ones with a lesser rank
      before-broken : (q : ℕ) → first_broken rs n s l ≡ some q → (r : ℕ) → rank r < rank q → ¬ FitsLine rs n s b r
      before-broken q e r h f =
          let (k, i, p, broken) = only-broken r f in
          let (k', p', first) = one-broken n s l rs q e in
          let earlier = earlier-test rs ordered (rule-test rs k i) (rule-test rs k' first.inside) (rw (← p, ← p') h) in
          broken (first.earlier k (omega (arith, earlier)))

      first-fault : (q : ℕ) → first_broken rs n s l ≡ some q → FitsLine rs n s b q
      first-fault q e = let (k, p, first) = one-broken n s l rs q e in breaks k l first.inside p spelled first.fails

      after-spelled : after_bytes w.next s (line_of b) ≡ w.next s l
      unfolding after_bytes
      after-spelled = ap (after_bytes w.next s) spelled

  -- ---- reading line by line

  -- what reading the lines from n on comes to: all are read and no refusal fits, or the first refusal that fits is replied
  data Outcome (n : ℕ) (s : S) (bs : List (List ℕ)) (o : ReadingOf S) : Type 0 where
    all_read : (ls : List Line) (s' : S) → o ≡ read ls s' → map line_of bs ≡ map some ls → KeptBy w n s ls s'
        → ((r j : ℕ) → ¬ FaultAt n s bs r j) → Outcome n s bs o
    stopped : (r j : ℕ) → o ≡ refused r (n + j) → FaultAt n s bs r j → ((q k : ℕ) → Before q k r j → ¬ FaultAt n s bs q k)
        → Outcome n s bs o

  -- what comes before the first place has a lesser rank
  lesser : (q k r : ℕ) → Before q k r 0 → (k ≡ 0) × (rank q < rank r)
  lesser q k r (inl h) = absurd (omega arith)
  lesser q k r (inr h) = h

  before-down : (q k r j : ℕ) → Before q (suc k) r (suc j) → Before q k r j
  before-down q k r j (inl h) = inl (omega arith)
  before-down q k r j (inr h) = inr (omega arith)

  module _ (n : ℕ) (s : S) (b : List ℕ) (bs : List (List ℕ)) where
    stops-here : (r : ℕ) → FitsLine rs n s b r → ((q : ℕ) → rank q < rank r → ¬ FitsLine rs n s b q) → Outcome n s (b ∷ bs) (refused r n)
    stops-here r f h = stopped r 0 (ap (refused r) (omega arith)) f before
      where
        before : (q k : ℕ) → Before q k r 0 → ¬ FaultAt n s (b ∷ bs) q k
        before q zero e g = h q (lesser q 0 r e).1 g
        before q (suc k) e g = omega (arith, (lesser q (suc k) r e).0)

    module _ (l : Line) (spelled : line_of b ≡ some l) where
      goes_on : first_broken rs n s l ≡ none → (o : ReadingOf S) → Outcome (suc n) (w.next s l) bs o → Outcome n s (b ∷ bs) (cons_line l o)
      unfolding cons_line
      goes_on e o (all_read ls s' q spells kept none-fits) =
          all_read (l ∷ ls) s' (ap (cons_line l) q) (ap₂ {C = List (Option Line)} ◌∷◌ spelled spells) (e, kept) fits
        where
          fits : (r j : ℕ) → ¬ FaultAt n s (b ∷ bs) r j
          fits r zero f = no-fault n s b l spelled e r f
          fits r (suc j) f = none-fits r j (rw (after-spelled n s b l spelled) at f)
      goes_on e o (stopped r j q f none_before) =
          let m : suc n + j ≡ n + suc j = omega arith in
          stopped r (suc j) (ap (cons_line l) q ∙ ap (refused r) m) (rw (after-spelled n s b l spelled) f) before
        where
          before : (q k : ℕ) → Before q k r (suc j) → ¬ FaultAt n s (b ∷ bs) q k
          before q zero h g = no-fault n s b l spelled e q g
          before q (suc k) h g = none_before q k (before-down q k r j h) (rw (after-spelled n s b l spelled) at g)

      by-rules : (f : Option ℕ) → first_broken rs n s l ≡ f → (o : ReadingOf S) → Outcome (suc n) (w.next s l) bs o
          → Outcome n s (b ∷ bs) (on_some f (λ r. refused r n) (cons_line l o))
      unfolding on_some
      by-rules none e o h = goes_on e o h
      by-rules (some r) e o h = stops-here r (first-fault n s b l spelled r e) (before-broken n s b l spelled r e)

    by-line : (o : Option Line) → line_of b ≡ o
        → ((l : Line) → Outcome (suc n) (w.next s l) bs (read_from w (suc n) (w.next s l) bs))
        → Outcome n s (b ∷ bs) (read_line w n s o (λ s'. read_from w (suc n) s' bs))
    unfolding read_line
    by-line none e rest = stops-here 3 (no_line refl e) (before-no-line n s b e)
    by-line (some l) e rest = by-rules l e (first_broken rs n s l) refl (read_from w (suc n) (w.next s l) bs) (rest l)

  -- by induction over the lines: a line that is refused ends the reading, and one that is kept leaves it to the rest
  outcome : (n : ℕ) (s : S) (bs : List (List ℕ)) → Outcome n s bs (read_from w n s bs)
  unfolding read_from
  outcome n s [] = all_read [] s refl refl refl (λ r j f. f)
  outcome n s (b ∷ bs) = by-line n s b bs (line_of b) refl (λ l. outcome (suc n) (w.next s l) bs)

  -- ---- what fits a text

  -- a fault is at a line, and is a fault of that line's bytes in the state before it
  fault-at : (n : ℕ) (s : S) (bs : List (List ℕ)) (r j place : ℕ) → place ≡ n + j
      → FaultAt n s bs r j ↔ ((j < length bs) × FitsLine rs place (known_before w.next s bs j) (get_or bs j []) r)
  unfolding known_before
  fault-at n s [] r j m e = (λ f. absurd f, λ h. absurd (omega arith))
  fault-at n s (b ∷ bs) r zero m e = let q : m ≡ n = omega arith in rw q (λ f. (omega arith, f), λ h. h.1)
  fault-at n s (b ∷ bs) r (suc j) m e =
      let h = fault-at (suc n) (after_bytes w.next s (line_of b)) bs r j m (omega arith) in
      (λ f. (omega (arith, (h.0 f).0), (h.0 f).1), λ g. h.1 (omega arith, g.1))

  module _ (text : List ℕ) where
    fault-fits : (r i : ℕ) → FaultAt 0 w.start (lines_of text) r i → FitsBy w text r i
    unfolding line_at
    fault-fits r i g = let (h, f) = (fault-at 0 w.start (lines_of text) r i i (omega arith)).0 g in in-line h f

    -- of a text that is neither too long nor without an end, only lines are refused
    fits-fault : length text ≤ text_limit → T (is_ended text) → (r i : ℕ) → FitsBy w text r i → FaultAt 0 w.start (lines_of text) r i
    unfolding line_at
    fits-fault short ended r i (too_long _ _ long) = absurd (omega arith)
    fits-fault short ended r i (not-ended _ _ e) = absurd (e ended)
    fits-fault short ended r i (in-line h f) = (fault-at 0 w.start (lines_of text) r i i (omega arith)).1 (h, f)

    -- a refusal that fits has a test
    fits-test : (r i : ℕ) → FitsBy w text r i → (k : ℕ) × IsTest rs k r
    fits-test r i (too_long e _ _) = (0, rw e (too-long-test rs))
    fits-test r i (not-ended e _ _) = (1, rw e (not-ended-test rs))
    fits-test r i (in-line _ f) = let (k, t, _) = line-test f in (k, t)

    before-too-long : (r i : ℕ) → rank r < rank 1 → ¬ FitsBy w text r i
    before-too-long r i h f = let (k, t) = fits-test r i f in omega (arith, earlier-test rs ordered t (too-long-test rs) h)

    before-not-ended : length text ≤ text_limit → (r i : ℕ) → rank r < rank 2 → ¬ FitsBy w text r i
    before-not-ended short r i h (too_long _ _ long) = omega arith
    before-not-ended short r i h (not-ended e _ _) = omega (arith, ap rank e)
    before-not-ended short r i h (in-line _ f) =
        let (k, t, after-2) = line-test f in omega (arith, earlier-test rs ordered t (not-ended-test rs) h)

    -- ---- what reading the text comes to

    -- the first refusal that fits
    abbrev First : (r i : ℕ) → Type 0
    First r i = FitsBy w text r i × ((q k : ℕ) → Before q k r i → ¬ FitsBy w text q k)

    -- the same as an outcome, by the refusals that fit the text
    data Verdict (o : ReadingOf S) : Type 0 where
      nothing-fits : (ls : List Line) (s : S) → o ≡ read ls s → Spells text ls → KeptBy w 0 w.start ls s
          → ((r i : ℕ) → ¬ FitsBy w text r i) → Verdict o
      first_fits : (r i : ℕ) → o ≡ refused r i → First r i → Verdict o

    by_lines : length text ≤ text_limit → T (is_ended text) → (o : ReadingOf S) → Outcome 0 w.start (lines_of text) o → Verdict o
    by_lines short ended o (all_read ls s e spells kept none-fits) =
        nothing-fits ls s e spells kept (λ r i f. none-fits r i (fits-fault short ended r i f))
    by_lines short ended o (stopped r j e f none_before) =
        first_fits r j (rw (zero-add j) at e) (fault-fits r j f, λ q k h g. none_before q k h (fits-fault short ended q k g))

    by_end : length text ≤ text_limit → Verdict (cond (is_ended text) (read_from w 0 w.start (lines_of text)) (refused 2 0))
    by_end short = cond_cases Verdict (is_ended text) _ _ (λ ended. by_lines short ended _ (outcome 0 w.start (lines_of text))) unended
      where
        unended : is_ended text ≡ false → Verdict (refused 2 0)
        unended e =
            first_fits 2 0 refl
            (not-ended refl refl (false-not (is_ended text) e), λ q k h. before-not-ended short q k (lesser q k 2 h).1)

    verdict : Verdict (reading_by w text)
    unfolding reading_by
    verdict = cond_cases Verdict (leb (length text) text_limit) _ _ (λ t. by_end ((leb-iff (length text) text_limit).0 t)) over
      where
        over : leb (length text) text_limit ≡ false → Verdict (refused 1 0)
        over e =
            first_fits 1 0 refl
            (too_long refl refl (leb-false (length text) text_limit e), λ q k h. before-too-long q k (lesser q k 1 h).1)

    -- ---- the claim

    not-both : (ls : List Line) (s : S) (r i : ℕ) → reading_by w text ≡ read ls s → ¬ (reading_by w text ≡ refused r i)
    unfolding on_reading
    not-both ls s r i e q = subst (λ o. T (on_reading o (λ _ _. false) (λ _ _. true))) (sym e ∙ q) tt

    read-facts : (ls : List Line) (s : S) → reading_by w text ≡ read ls s → Verdict (reading_by w text)
        → Spells text ls × KeptBy w 0 w.start ls s × ((r i : ℕ) → ¬ FitsBy w text r i)
    read-facts ls s e (nothing-fits ls' s' q spells kept none-fits) =
        let a : ls ≡ ls' = cc in
        let b : s ≡ s' = cc in
        rw (a, b) (spells, kept, none-fits)
    read-facts ls s e (first_fits r i q _) = absurd (not-both ls s r i e q)

    first-of-refused : (r i : ℕ) → reading_by w text ≡ refused r i → Verdict (reading_by w text) → First r i
    first-of-refused r i e (nothing-fits ls s q _ _ _) = absurd (not-both ls s r i q e)
    first-of-refused r i e (first_fits r' i' q f) =
        let a : r ≡ r' = cc in
        let b : i ≡ i' = cc in
        rw (a, b) f

    -- of two first refusals neither comes before the other
    one-first : (r i r' i' : ℕ) → First r i → First r' i' → (r ≡ r') × (i ≡ i')
    one-first r i r' i' f g =
        let a : ¬ Before r i r' i' = λ h. g.1 r i h f.0 in
        let b : ¬ Before r' i' r i = λ h. f.1 r' i' h g.0 in
        let a₁ : ¬ (i < i') = λ h. a (inl h) in
        let b₁ : ¬ (i' < i) = λ h. b (inl h) in
        let same : i ≡ i' = omega arith in
        let a₂ : ¬ (rank r < rank r') = λ h. a (inr (same, h)) in
        let b₂ : ¬ (rank r' < rank r) = λ h. b (inr (sym same, h)) in
        (same_test rs ordered (fits-test r i f.0).1 (fits-test r' i' g.0).1 (omega arith), same)

    refused-of-first : (r i : ℕ) → First r i → Verdict (reading_by w text) → reading_by w text ≡ refused r i
    refused-of-first r i f (nothing-fits _ _ _ _ _ none-fits) = absurd (none-fits r i f.0)
    refused-of-first r i f (first_fits r' i' q g) = let (a, b) = one-first r i r' i' f g in rw (a, b) q

    read-of-none : ((r i : ℕ) → ¬ FitsBy w text r i) → Verdict (reading_by w text) → (ls : List Line) × (s : S) × (reading_by w text ≡ read ls s)
    read-of-none h (nothing-fits ls s q _ _ _) = (ls, s, q)
    read-of-none h (first_fits r i _ f) = absurd (h r i f.0)

  -- the lines of a read text keep every rule
  pub read-kept-by : (text : List ℕ) (ls : List Line) (s : S) → reading_by w text ≡ read ls s → KeptBy w 0 w.start ls s
  read-kept-by text ls s e = (read-facts text ls s e (verdict text)).1

  pub reads-exactly-by : ReadsExactlyBy w
  reads-exactly-by text = (
    (λ h. (read-facts text h.0 h.1 h.2 (verdict text)).2, λ h. read-of-none text h (verdict text)),
    λ r i. (λ e. first-of-refused text r i e (verdict text), λ f. refused-of-first text r i f (verdict text)),
    λ ls s e. ((read-facts text ls s e (verdict text)).0, kept-known w 0 w.start ls s (read-kept-by text ls s e)),
  )

  -- a refusal that fits is one of those in the order
  pub fits-ranked : (text : List ℕ) (r i : ℕ) → FitsBy w text r i → rank r < length test_order
  fits-ranked text r i f = test-ranked rs ordered (fits-test text r i f).1

-- ---- the rules of a list

pub rules-in-order : T (in_order rules)
unfolding in_order ascends tests_of rank place_among test_order rules rules_within rules_with
rules-in-order = tt

pub read_kept : (text : List ℕ) (ls : List Line) (s : Known) → reading text ≡ read ls s → Kept 0 fresh ls s
read_kept = read-kept-by plain rules-in-order

pub reads-exactly : ReadsExactly
reads-exactly = reads-exactly-by plain rules-in-order
