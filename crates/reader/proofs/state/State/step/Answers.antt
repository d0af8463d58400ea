-- What the rules tell of the line, taken in behind the values, or at the value that a span line names.
use mathlib.Core.Path.{◌≡◌, ◌∙◌}
use mathlib.Core.List.{List, [], ◌∷◌}
use Prim.Native.Nat.{ℕ, ◌<◌}
use native.Mathlib.Omega.{arith}
use Rattle.meaning.specs.Known.{Known}
use Rattle.meaning.specs.Refusal.{value_limit}
use Rattle.text.specs.Word.{word_of}
use Rattle.rules.specs.Yield.{makes, made_meaning, line_with, ends_meaning}
use Rattle.reader.specs.State.{state_of}
use Rattle.reader.specs.Line.{line_yield}
use Rattle.reader.proofs.Steps.{meaning-state, refused-line}
use Rattle.reader.proofs.Taking.{passed-on, inside, taken, taken-left}
use Rattle.reader.proofs.state.State.step.Goals as goal
use Rattle.reader.proofs.state.State.step.Goals.{After-read_ends, After-value_at-at}

line-yield : (c : After-read_ends) (s : Known) (places : List ℕ) → s ≡ state_of c.args.self.now places
    → made_meaning c.read_ends.result ≡ line_yield s (line_with (word_of c.args.line.word) c.args.line.numbers.now)
line-yield c s places is = c.read_ends.ensures.yields s (rw c.from.ensures (meaning-state (record { is = is; sized = c.requires })))

pub returns-in_err-ends-clause-yields : goal.returns-in_err-ends-clause-yields
returns-in_err-ends-clause-yields c = λ s places long is.
    passed-on _ _ _ _ c.from_residual.ensures.1
    ∙ refused-line s _ _ _ (rw c.in_err-ends.was at (line-yield (goal.at.returns-in_err-ends-clause-yields c).After-read_ends s places is))

-- the line has ends
with-ends : (c : After-value_at-at) (s : Known) (places : List ℕ) → s ≡ state_of c.args.self.now places
    → makes (ends_meaning c.in_ok-ends.ends ∷ []) ≡ line_yield s (line_with (word_of c.args.line.word) c.args.line.numbers.now)
with-ends c s places is = rw c.in_ok-ends.was at (line-yield (goal.at-After-value_at-at c).After-read_ends s places is)

below : (c : After-value_at-at) → c.value_at-at.result < value_limit
below c = inside _ _ c.requires (with-ends c) c.value_at-at.ensures.span c.value_at-at.ensures.other

pub offset_bounds-self-at : goal.offset_bounds-self-at
offset_bounds-self-at c = record { fits = omega (arith, below (goal.at.offset_bounds-self-at c).After-value_at-at) }

pub bounds-self-at : goal.bounds-self-at
bounds-self-at c = below (goal.at.bounds-self-at c).After-value_at-at

pub returns-clause-yields : goal.returns-clause-yields
returns-clause-yields c = λ s places long is.
    rw c.add-self.ensures (taken _ _ c.requires (with-ends (goal.at.returns-clause-yields c).After-value_at-at) c.value_at-at.ensures.span c.value_at-at.ensures.other
    (λ z kept. c.line_size.ensures.yields 1 z c.args.line.parsed.counted kept) s places long is)

pub returns-clause-held : goal.returns-clause-held
returns-clause-held c =
    rw c.add-self.ensures (taken-left _ _ c.requires (with-ends (goal.at.returns-clause-held c).After-value_at-at) c.value_at-at.ensures.span c.value_at-at.ensures.other
    (λ z kept. c.line_size.ensures.yields 1 z c.args.line.parsed.counted kept) c.in_ok-ends.ensures.sized)
