-- `table::line_cells::line_cells`: at each word the line's numbers are what the function that writes its cells takes, and the cells are the line's.
use native.Mathlib.Omega.{arith}
use lib.Dec.{lit≤}
use Rattle.meaning.specs.Gadget.Span.{span_line}
use Rattle.meaning.specs.Gadget.Relu.{relu_line}
use Rattle.meaning.specs.Gadget.Which.{which_line}
use Rattle.meaning.specs.Gadget.Max.{max_line}
use Rattle.meaning.specs.Gadget.Root.{root_line}
use Rattle.number.proofs.Bounded.{bounded-more, bounded-difference}
use Rattle.table.proofs.LineKinds.{span-long, span-word, relu-word, which-word, max-word, root-word, one-digits, two-digits}
use Rattle.table.proofs.LineValues.{one-value, first-value, second-value}
use Rattle.table.proofs.WorksLine.{span-shift}
use Rattle.table.proofs.CellsLine.{field-cells-yield, own-given, own-yield, one-writes, two-writes}
use Rattle.table.proofs.CellsLine.{span-cells-yield, relu-cells-yield, which-cells-yield, max-cells-yield, root-cells-yield}
use borrow.Author.Rules.{rules}
use Rattle.table.proofs.line_cells.line_cells.Goals as goal

-- ---- lines without a digit group

pub returns-in-Field : goal.returns-in-Field
returns-in-Field c = field-cells-yield c.in-Field.is _ _ _ _ _

pub whole_at-requires : goal.whole_at-requires
whole_at-requires c = (own-given c.in-In.is c.requires).2

pub value_cell-requires : goal.value_cell-requires
value_cell-requires c = let given = own-given c.in-In.is c.requires in (given.0, given.1)

pub returns-in-In : goal.returns-in-In
returns-in-In c = own-yield c.in-In.is (rw c.whole_at.ensures at c.value_cell.ensures)

-- ---- span

pub value_at-v-requires : goal.value_at-v-requires
value_at-v-requires c = one-value c.requires.given (span-word c.in-Span.is)

pub digits_from-digits-requires : goal.digits_from-digits-requires
digits_from-digits-requires c = one-digits c.requires.given.kept (span-word c.in-Span.is)

pub whole_at-requires-in-Span : goal.whole_at-requires-in-Span
whole_at-requires-in-Span c = omega (arith, span-long c.in-Span.is c.requires.given.kept)

pub form_cells-requires : goal.form_cells-requires
unfolding span_line
form_cells-requires c = (
  omega (arith, c.digits_from-digits.result.group.base),
  (one-writes c.requires (span-word c.in-Span.is) c.digits_from-digits.ensures).1,
  bounded-more c.value_at-v.result.small (lit≤ tt),
  rw c.whole_at-in-Span.ensures (bounded-more (span-shift c.in-Span.is c.requires.given.kept) (lit≤ tt)),
)

pub returns-in-Span : goal.returns-in-Span
returns-in-Span c = span-cells-yield c.value_at-v.ensures c.digits_from-digits.ensures c.in-Span.is c.whole_at-in-Span.ensures c.form_cells.ensures

-- ---- relu

pub value_at-v-requires-in-Relu : goal.value_at-v-requires-in-Relu
value_at-v-requires-in-Relu c = one-value c.requires.given (relu-word c.in-Relu.is)

pub digits_from-requires : goal.digits_from-requires
digits_from-requires c = one-digits c.requires.given.kept (relu-word c.in-Relu.is)

pub signed_cells-requires : goal.signed_cells-requires
unfolding relu_line
signed_cells-requires c =
    let known = one-writes c.requires (relu-word c.in-Relu.is) c.digits_from.ensures in
    (known.0, known.2, known.1, bounded-more c.value_at-v-in-Relu.result.small (lit≤ tt))

pub returns-in-Relu : goal.returns-in-Relu
returns-in-Relu c =
    relu-cells-yield c.value_at-v-in-Relu.ensures c.digits_from.ensures c.in-Relu.is (rw c.relu_value.ensures at c.signed_cells.ensures)

-- ---- which

pub value_at-u-requires : goal.value_at-u-requires
value_at-u-requires c = first-value c.requires.given (which-word c.in-Which.is)

pub value_at-v-requires-in-Which : goal.value_at-v-requires-in-Which
value_at-v-requires-in-Which c = second-value c.requires.given (which-word c.in-Which.is)

pub digits_from-requires-in-Which : goal.digits_from-requires-in-Which
digits_from-requires-in-Which c = two-digits c.requires.given.kept (which-word c.in-Which.is)

pub signed_cells-requires-in-Which : goal.signed_cells-requires-in-Which
unfolding which_line
signed_cells-requires-in-Which c =
    let known = two-writes c.requires (which-word c.in-Which.is) c.digits_from-in-Which.ensures in
    (known.0, known.2, known.1, rw c.whole_difference-x.ensures (bounded-difference c.value_at-u.result.small c.value_at-v-in-Which.result.small))

pub returns-in-Which : goal.returns-in-Which
returns-in-Which c =
    which-cells-yield c.value_at-u.ensures c.value_at-v-in-Which.ensures c.digits_from-in-Which.ensures c.in-Which.is
    (rw (c.which_value.ensures, c.whole_difference-x.ensures) at c.signed_cells-in-Which.ensures)

-- ---- max

pub value_at-u-requires-in-Max : goal.value_at-u-requires-in-Max
value_at-u-requires-in-Max c = first-value c.requires.given (max-word c.in-Max.is)

pub value_at-v-requires-in-Max : goal.value_at-v-requires-in-Max
value_at-v-requires-in-Max c = second-value c.requires.given (max-word c.in-Max.is)

pub digits_from-requires-in-Max : goal.digits_from-requires-in-Max
digits_from-requires-in-Max c = two-digits c.requires.given.kept (max-word c.in-Max.is)

pub max_cells-requires : goal.max_cells-requires
unfolding max_line
max_cells-requires c = let known = two-writes c.requires (max-word c.in-Max.is) c.digits_from-in-Max.ensures in search rules

pub returns-in-Max : goal.returns-in-Max
returns-in-Max c =
    max-cells-yield c.value_at-u-in-Max.ensures c.value_at-v-in-Max.ensures c.digits_from-in-Max.ensures c.in-Max.is c.max_cells.ensures

-- ---- root

pub value_at-v-requires-in-Root : goal.value_at-v-requires-in-Root
value_at-v-requires-in-Root c = one-value c.requires.given (root-word c.in-Root.is)

pub digits_from-requires-in-Root : goal.digits_from-requires-in-Root
digits_from-requires-in-Root c = one-digits c.requires.given.kept (root-word c.in-Root.is)

pub root_cells-requires : goal.root_cells-requires
unfolding root_line
root_cells-requires c = let known = one-writes c.requires (root-word c.in-Root.is) c.digits_from-in-Root.ensures in search rules

pub returns-in-Root : goal.returns-in-Root
returns-in-Root c = root-cells-yield c.value_at-v-in-Root.ensures c.digits_from-in-Root.ensures c.in-Root.is c.root_cells.ensures
