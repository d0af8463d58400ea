-- `table::line_works::line_works`: at each word the line's numbers are what the function of its kind takes. That the line yields what that function
-- answers the check finds by `line_yields`, but for a sum.
use native.Mathlib.Omega.{arith}
use Rattle.table.proofs.LineKinds.{span-long, span-word, relu-word, which-word, max-word, root-word, one-digits, two-digits}
use Rattle.table.proofs.LineValues.{one-value, first-value, second-value}
use Rattle.table.proofs.WorksLine.{sum-given, sum-yield}
use Rattle.table.proofs.line_works.line_works.Goals as goal

-- ---- span

pub value_at-v-requires : goal.value_at-v-requires
value_at-v-requires c = one-value c.requires (span-word c.in-Span.is)

pub digits_from-requires : goal.digits_from-requires
digits_from-requires c = one-digits c.requires.kept (span-word c.in-Span.is)

pub whole_at-requires : goal.whole_at-requires
whole_at-requires c = omega (arith, span-long c.in-Span.is c.requires.kept)

-- ---- sum

pub sum_works-requires : goal.sum_works-requires
sum_works-requires c = sum-given c.in-Sum.is c.requires

pub returns-in-Sum : goal.returns-in-Sum
returns-in-Sum c = sum-yield c.in-Sum.is c.sum_works.ensures c.args.next.0

-- ---- relu

pub value_at-requires : goal.value_at-requires
value_at-requires c = one-value c.requires (relu-word c.in-Relu.is)

pub digits_from-requires-in-Relu : goal.digits_from-requires-in-Relu
digits_from-requires-in-Relu c = one-digits c.requires.kept (relu-word c.in-Relu.is)

-- ---- which

pub value_at-u-requires : goal.value_at-u-requires
value_at-u-requires c = first-value c.requires (which-word c.in-Which.is)

pub value_at-v-requires-in-Which : goal.value_at-v-requires-in-Which
value_at-v-requires-in-Which c = second-value c.requires (which-word c.in-Which.is)

pub digits_from-requires-in-Which : goal.digits_from-requires-in-Which
digits_from-requires-in-Which c = two-digits c.requires.kept (which-word c.in-Which.is)

-- ---- max

pub value_at-u-requires-in-Max : goal.value_at-u-requires-in-Max
value_at-u-requires-in-Max c = first-value c.requires (max-word c.in-Max.is)

pub value_at-v-requires-in-Max : goal.value_at-v-requires-in-Max
value_at-v-requires-in-Max c = second-value c.requires (max-word c.in-Max.is)

pub digits_from-requires-in-Max : goal.digits_from-requires-in-Max
digits_from-requires-in-Max c = two-digits c.requires.kept (max-word c.in-Max.is)

-- ---- root

pub value_at-requires-in-Root : goal.value_at-requires-in-Root
value_at-requires-in-Root c = one-value c.requires (root-word c.in-Root.is)

pub digits_from-requires-in-Root : goal.digits_from-requires-in-Root
digits_from-requires-in-Root c = one-digits c.requires.kept (root-word c.in-Root.is)
