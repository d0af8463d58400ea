-- `desk::Desk::call`: 19, then 20, then the check that is counted.
use mathlib.Core.Path.{◌≡◌, ap}
use mathlib.Core.Bool.{true, false, not}
use borrow.Author.Rules.{rules}
use native.Mathlib.Omega.{arith}
use Rattle.meaning.specs.Desk.{full_count, check_of, call_of}
use Rattle.desk.specs.Desk.{Agrees}
use Rattle.desk.proofs.Calling.{tested-agrees, call-disagrees, call-full, call-counted, counts-one}
use Rattle.desk.proofs.Desk.call.Goals as goal

pub returns-then-not-agrees-clause-answers : goal.returns-then-not-agrees-clause-answers
returns-then-not-agrees-clause-answers c =
    let test : c.agrees-agrees.result ≡ false = search rules in
    let disagrees = call-disagrees c.args.self _ c.agrees-agrees.ensures (check_of (call_of c.args.list.now c.args.table.now)) (ap not test) in
    cc

pub returns-then-full-clause-answers : goal.returns-then-full-clause-answers
unfolding full_count
returns-then-full-clause-answers c =
    let test : c.agrees-agrees.result ≡ true = search rules in
    let agrees : Agrees c.args.self = tested-agrees c.args.self _ c.agrees-agrees.ensures (ap not test) in
    let full = call-full c.args.self (check_of (call_of c.args.list.now c.args.table.now)) agrees (omega arith) in
    cc

pub returns-then-full-clause-counts : goal.returns-then-full-clause-counts
unfolding full_count
returns-then-full-clause-counts c agrees room = absurd (omega arith)

pub count-requires : goal.count-requires
unfolding full_count
count-requires c = (tested-agrees c.args.self _ c.agrees-agrees.ensures (ap not c.if-not-agrees.false), c.if-full.false)

pub returns-clause-answers : goal.returns-clause-answers
unfolding full_count check_of
returns-clause-answers c =
    let agrees = tested-agrees c.args.self _ c.agrees-agrees.ensures (ap not c.if-not-agrees.false) in
    call-counted c.args.self _ agrees c.if-full.false _ _ c.count.ensures c.check-reply.ensures

pub returns-clause-counts : goal.returns-clause-counts
returns-clause-counts c = counts-one c.args.self _ _ _ (returns-clause-answers c)
