-- `table::line_rows::line_rows`: at each word the line's numbers are what the function of its kind takes, and the line yields what it answers; a
-- field line and an input line have no row.
use native.Mathlib.Omega.{arith}
use Rattle.meaning.specs.Gadget.Span.{span_line}
use Rattle.meaning.specs.Gadget.Relu.{relu_line}
use Rattle.meaning.specs.Gadget.Which.{which_line}
use Rattle.meaning.specs.Gadget.Max.{max_line}
use Rattle.meaning.specs.Gadget.Root.{root_line}
use Rattle.table.proofs.LineKinds.{span-long, span-word, relu-word, which-word, max-word, root-word, one-digits, two-digits}
use Rattle.table.proofs.RowsLine.{no-row, one-place, one-power, one-checks, one-yield}
use Rattle.table.proofs.RowsLine.{first-place, second-place, two-power, two-checks, two-yield}
use Rattle.table.proofs.RowsSum.{sum-given, sum-yield}
use borrow.Author.Rules.{rules}
use Rattle.table.proofs.line_rows.line_rows.Goals as goal

-- ---- a field and an input

pub returns-in-Field : goal.returns-in-Field
returns-in-Field c = no-row _ _ _ _ _ c.in-Field.is

-- ---- span

pub place_at-v-requires : goal.place_at-v-requires
place_at-v-requires c = one-place c.requires (span-word c.in-Span.is)

pub digits_from-digits-requires : goal.digits_from-digits-requires
digits_from-digits-requires c = one-digits c.requires.kept (span-word c.in-Span.is)

pub invariant_of-span_rows : goal.invariant_of-span_rows
invariant_of-span_rows c = record { power = one-power c.requires (span-word c.in-Span.is) c.digits_from-digits.ensures }

pub whole_at-requires : goal.whole_at-requires
whole_at-requires c = omega (arith, span-long c.in-Span.is c.requires.kept)

pub span_rows-requires : goal.span_rows-requires
unfolding span_line
span_rows-requires c = let known = one-checks c.requires (span-word c.in-Span.is) c.place_at-v.ensures c.digits_from-digits.ensures in search rules

pub returns-in-Span : goal.returns-in-Span
returns-in-Span c a = one-yield a (span-word c.in-Span.is) c.place_at-v.ensures c.digits_from-digits.ensures (rw c.whole_at.ensures at c.span_rows.ensures)

-- ---- sum

pub sum_rows-requires : goal.sum_rows-requires
sum_rows-requires c = sum-given c.in-Sum.is c.requires

pub returns-in-Sum : goal.returns-in-Sum
returns-in-Sum c = sum-yield c.in-Sum.is _ c.sum_rows.ensures

-- ---- relu

pub place_at-v-requires-in-Relu : goal.place_at-v-requires-in-Relu
place_at-v-requires-in-Relu c = one-place c.requires (relu-word c.in-Relu.is)

pub digits_from-digits-requires-in-Relu : goal.digits_from-digits-requires-in-Relu
digits_from-digits-requires-in-Relu c = one-digits c.requires.kept (relu-word c.in-Relu.is)

pub invariant_of-relu_rows : goal.invariant_of-relu_rows
invariant_of-relu_rows c = record { power = one-power c.requires (relu-word c.in-Relu.is) c.digits_from-digits-in-Relu.ensures }

pub relu_rows-requires : goal.relu_rows-requires
unfolding relu_line
relu_rows-requires c = let known = one-checks c.requires (relu-word c.in-Relu.is) c.place_at-v-in-Relu.ensures c.digits_from-digits-in-Relu.ensures in search rules

pub returns-in-Relu : goal.returns-in-Relu
returns-in-Relu c a = one-yield a (relu-word c.in-Relu.is) c.place_at-v-in-Relu.ensures c.digits_from-digits-in-Relu.ensures c.relu_rows.ensures

-- ---- which

pub place_at-u-requires : goal.place_at-u-requires
place_at-u-requires c = first-place c.requires (which-word c.in-Which.is)

pub place_at-v-requires-in-Which : goal.place_at-v-requires-in-Which
place_at-v-requires-in-Which c = second-place c.requires (which-word c.in-Which.is)

pub digits_from-digits-requires-in-Which : goal.digits_from-digits-requires-in-Which
digits_from-digits-requires-in-Which c = two-digits c.requires.kept (which-word c.in-Which.is)

pub invariant_of-which_rows : goal.invariant_of-which_rows
invariant_of-which_rows c = record { power = two-power c.requires (which-word c.in-Which.is) c.digits_from-digits-in-Which.ensures }

pub which_rows-requires : goal.which_rows-requires
unfolding which_line
which_rows-requires c = let known = two-checks c.requires (which-word c.in-Which.is) c.place_at-u.ensures c.place_at-v-in-Which.ensures c.digits_from-digits-in-Which.ensures in search rules

pub returns-in-Which : goal.returns-in-Which
returns-in-Which c a = two-yield a (which-word c.in-Which.is) c.place_at-u.ensures c.place_at-v-in-Which.ensures c.digits_from-digits-in-Which.ensures c.which_rows.ensures

-- ---- max

pub place_at-u-requires-in-Max : goal.place_at-u-requires-in-Max
place_at-u-requires-in-Max c = first-place c.requires (max-word c.in-Max.is)

pub place_at-v-requires-in-Max : goal.place_at-v-requires-in-Max
place_at-v-requires-in-Max c = second-place c.requires (max-word c.in-Max.is)

pub digits_from-digits-requires-in-Max : goal.digits_from-digits-requires-in-Max
digits_from-digits-requires-in-Max c = two-digits c.requires.kept (max-word c.in-Max.is)

pub invariant_of-max_rows : goal.invariant_of-max_rows
invariant_of-max_rows c = record { power = two-power c.requires (max-word c.in-Max.is) c.digits_from-digits-in-Max.ensures }

pub max_rows-requires : goal.max_rows-requires
unfolding max_line
max_rows-requires c = let known = two-checks c.requires (max-word c.in-Max.is) c.place_at-u-in-Max.ensures c.place_at-v-in-Max.ensures c.digits_from-digits-in-Max.ensures in search rules

pub returns-in-Max : goal.returns-in-Max
returns-in-Max c a = two-yield a (max-word c.in-Max.is) c.place_at-u-in-Max.ensures c.place_at-v-in-Max.ensures c.digits_from-digits-in-Max.ensures c.max_rows.ensures

-- ---- root

pub place_at-v-requires-in-Root : goal.place_at-v-requires-in-Root
place_at-v-requires-in-Root c = one-place c.requires (root-word c.in-Root.is)

pub digits_from-digits-requires-in-Root : goal.digits_from-digits-requires-in-Root
digits_from-digits-requires-in-Root c = one-digits c.requires.kept (root-word c.in-Root.is)

pub invariant_of-root_rows : goal.invariant_of-root_rows
invariant_of-root_rows c = record { power = one-power c.requires (root-word c.in-Root.is) c.digits_from-digits-in-Root.ensures }

pub root_rows-requires : goal.root_rows-requires
unfolding root_line
root_rows-requires c = let known = one-checks c.requires (root-word c.in-Root.is) c.place_at-v-in-Root.ensures c.digits_from-digits-in-Root.ensures in search rules

pub returns-in-Root : goal.returns-in-Root
returns-in-Root c a = one-yield a (root-word c.in-Root.is) c.place_at-v-in-Root.ensures c.digits_from-digits-in-Root.ensures c.root_rows.ensures
