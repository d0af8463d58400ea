-- How much a line with digits adds, where the numbers are its own, and where they begin with these. The check finds the others by the lemmas that are
-- named on the function. That the code reads the digit count at the line's place is left to arithmetic.
use native.Mathlib.Omega.{arith}
use Rattle.reader.proofs.Sizes.{all_first, taken-first, span-sizes, relu-sizes, which-sizes, max-sizes, root-sizes}
use Rattle.reader.proofs.size.line_size.Goals as goal

pub returns-in-Span-clause-yields : goal.returns-in-Span-clause-yields
returns-in-Span-clause-yields c = span-sizes (all_first c.args.numbers.now) c.in-Span.is c.digit_size.ensures (λ long. omega arith)

pub returns-in-Span-clause-first : goal.returns-in-Span-clause-first
returns-in-Span-clause-first c = λ n count.
    let first = taken-first count c.args.numbers.now in
    span-sizes first c.in-Span.is c.digit_size.ensures (λ long. omega arith) n

pub returns-in-Relu-clause-yields : goal.returns-in-Relu-clause-yields
returns-in-Relu-clause-yields c = relu-sizes (all_first c.args.numbers.now) c.in-Relu.is c.digit_size-in-Relu.ensures (λ long. omega arith)

pub returns-in-Relu-clause-first : goal.returns-in-Relu-clause-first
returns-in-Relu-clause-first c = λ n count.
    let first = taken-first count c.args.numbers.now in
    relu-sizes first c.in-Relu.is c.digit_size-in-Relu.ensures (λ long. omega arith) n

pub returns-in-Which-clause-yields : goal.returns-in-Which-clause-yields
returns-in-Which-clause-yields c = which-sizes (all_first c.args.numbers.now) c.in-Which.is c.digit_size-in-Which.ensures (λ long. omega arith)

pub returns-in-Which-clause-first : goal.returns-in-Which-clause-first
returns-in-Which-clause-first c = λ n count.
    let first = taken-first count c.args.numbers.now in
    which-sizes first c.in-Which.is c.digit_size-in-Which.ensures (λ long. omega arith) n

pub returns-in-Max-clause-yields : goal.returns-in-Max-clause-yields
returns-in-Max-clause-yields c = max-sizes (all_first c.args.numbers.now) c.in-Max.is c.digit_size-in-Max.ensures (λ long. omega arith)

pub returns-in-Max-clause-first : goal.returns-in-Max-clause-first
returns-in-Max-clause-first c = λ n count.
    let first = taken-first count c.args.numbers.now in
    max-sizes first c.in-Max.is c.digit_size-in-Max.ensures (λ long. omega arith) n

pub returns-in-Root-clause-yields : goal.returns-in-Root-clause-yields
returns-in-Root-clause-yields c = root-sizes (all_first c.args.numbers.now) c.in-Root.is c.digit_size-in-Root.ensures (λ long. omega arith)

pub returns-in-Root-clause-first : goal.returns-in-Root-clause-first
returns-in-Root-clause-first c = λ n count.
    let first = taken-first count c.args.numbers.now in
    root-sizes first c.in-Root.is c.digit_size-in-Root.ensures (λ long. omega arith) n
