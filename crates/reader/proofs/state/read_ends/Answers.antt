-- For each word, the reader of that kind.
use mathlib.Core.Path.{refl}
use native.Mathlib.Omega.{arith}
use Rattle.meaning.specs.Word.{kind_of}
use Rattle.text.specs.Word.{word_of}
use Rattle.reader.specs.Line.{yield_by, line_yield}
use Rattle.reader.proofs.Steps.{sum-count, with_count, no-numbers, by_word}
use Rattle.reader.proofs.state.read_ends.Goals as goal

pub read_span-requires : goal.read_span-requires
unfolding kind_of word_of
read_span-requires c =
    let four = with_count 4 c.args.line.parsed c.in-Span.is (λ ns. refl) in
    (four, λ i below. c.args.line.parsed.small i (omega (arith, four, below)))

pub read_sum-requires : goal.read_sum-requires
read_sum-requires c =
    let line = c.args.line.parsed in (sum-count c.in-Sum.is _ line.counted, line.small)

pub returns-in-In-clause-yields : goal.returns-in-In-clause-yields
unfolding kind_of word_of line_yield yield_by
returns-in-In-clause-yields c = λ s meaning. by_word _ s _ c.in-In.is (rw (no-numbers c.args.line.parsed c.in-In.is (λ ns. refl)) (c.read_input.ensures.yields s meaning))
