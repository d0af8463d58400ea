-- What is known of a list that was read, as the contracts of the code say it: its lines keep the rules, and before each line a prime and ends in
-- its signed range are known.
use Rattle.std.specs.Prelude.{ℕ, zero, suc, ◌+◌, ◌<◌, ◌≡◌, List, [], ◌∷◌, T, leb, length}
use Rattle.std.proofs.Math.Option.{none}
use Rattle.meaning.specs.Number.{OddPrime}
use Rattle.meaning.specs.Word.{kind_of}
use Rattle.meaning.specs.Line.{Line}
use Rattle.meaning.specs.Known.{Known, fresh, Ranged}
use Rattle.meaning.specs.Meaning.{gadget}
use Rattle.meaning.specs.Refusal.{value_limit, cell_limit, all, is_placed, is_over_prime, is_ranged, is_made, first_broken, Way, plain}

-- what the table of rules asks of line n, in state s: a field for each rule. FORMAT 10.4, 10.5, 10.6, 10.7, 10.8, 10.9, 10.10, 10.11, 10.12
pub record Keeps (n : ℕ) (s : Known) (l : Line) : Type 0 where
  pub placed : T (is_placed n l.word)
  pub over-prime : T (is_over_prime l.word l.numbers)
  pub ranged : T (is_ranged s.p l.word l.numbers)
  pub names-made : T (all (is_made (length s.known)) ((kind_of l.word).names l.numbers))
  pub values-fit : T (leb (length s.known + length (gadget s l).made) value_limit)
  pub cells_fit : T (leb (s.cells + (gadget s l).width) cell_limit)
  pub unambiguous : T (gadget s l).unambiguous
  pub fits : T (gadget s l).fits
  pub overlaps : T (gadget s l).overlaps

-- all lines keep the rules of this way of reading, from line n in state s to state s'. FORMAT 13.3
abbrev pub KeptBy : {S : Type 0} → Way S → (n : ℕ) (s : S) (ls : List Line) (s' : S) → Type 0
KeptBy w n s [] s' = s ≡ s'
KeptBy w n s (l ∷ ls) s' = (first_broken w.rules n s l ≡ none) × KeptBy w (suc n) (w.next s l) ls s'

-- by the rules of Refusal.antt. FORMAT 13.3
abbrev pub Kept : (n : ℕ) (s : Known) (ls : List Line) (s' : Known) → Type 0
Kept n s ls s' = KeptBy plain n s ls s'

-- what is known before line n: nothing before line 0, and then a prime and ends in its signed range. FORMAT 1.1, 5.1, 9.5
pub record Sound (n : ℕ) (s : Known) : Type 0 where
  pub start : n ≡ 0 → s ≡ fresh
  pub prime : zero < n → OddPrime s.p
  pub ranged : Ranged s.p s.known
