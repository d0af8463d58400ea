-- Each way out is one law of `Responding`.
use mathlib.Core.Path.{◌≡◌, ap, ◌∙◌}
use Prim.Native.Nat.{◌+◌}
use native.Mathlib.Omega.{arith}
use borrow.Author.Rules.{rules}
use Rattle.meaning.specs.Reply.{reply}
use Rattle.refusal.specs.Refusal.{refused_reply}
use Rattle.meaning.specs.Program.{refusal_text}
use Rattle.reader.proofs.Placing.{passed_on, gone_on}
use Rattle.program.specs.Made.{ColumnYield}
use Rattle.program.proofs.Answering.{passed-on}
use Rattle.program.proofs.Responding.{inputs-no-number, inputs-numbers, place-fits, no_number, made-answer}
use Rattle.program.proofs.reading.read_column.Goals as goal

pub map_err-requires : goal.map_err-requires
map_err-requires c e is =
    let fails = inputs-no-number _ _ c.read_inputs-read.ensures is in
    let fits = place-fits c.requires.given c.requires.listed _ fails in
    ((λ _ _ _ _ _. omega (arith, fits)), (λ _ _ _ _ _. omega (arith, fits)))

pub returns-in_err-count : goal.returns-in_err-count
returns-in_err-count c =
    let (i, is, placed, out) = passed_on c.read_inputs-read.result c.from_residual.result _ c.map_err.ensures.cases c.in_err-count.was c.from_residual.ensures.1 in
    let fails = inputs-no-number _ _ c.read_inputs-read.ensures is in
    let told : refused_reply c.in_err-count.field-0.0 ≡ reply 3 (c.args.listed.end.lines + 1 + i) = search (rules, placed) in
    passed-on (ColumnYield _ c.args.listed.end _ _) _ _ c.from_residual.ensures.1 (ap refusal_text told ∙ no_number c.requires.given c.requires.listed _ fails)

pub returns : goal.returns
returns c =
    let numbers = inputs-numbers _ _ c.read_inputs-read.ensures (gone_on c.read_inputs-read.result _ c.map_err.ensures.cases c.in_ok-count.was) in
    (omega arith, numbers.room, made-answer c.requires.given c.requires.listed numbers c.args.listed.cells (omega arith) c.requires.cells_are)
