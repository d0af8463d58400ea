-- `service::walk::Walk::next`: the one place where a line of a list that was read is parsed and counted. That the walk stands before a line of such a
-- list is a fact of its own, which no clause repeats.
use mathlib.Core.Path.{refl}
use borrow.Author.Rules.{rules}
use Rattle.lines.proofs.Answers.{line-most}
use Rattle.reader.proofs.Steps.{numbers-fit}
use Rattle.service.proofs.Standing.{CountsAfter, few-counts, number-within, line-is-there, took, stands-before-next, goes-further, room-after}
use Rattle.service.proofs.walk.Walk.next.Goals as goal
use Rattle.service.proofs.walk.Walk.next.Goals.{After-counts_after}

pub unreachable-requires : goal.unreachable-requires
unreachable-requires c = line-is-there c.args.self.now.stands c.if-self.false c.line_of.ensures.read c.told-numbers c.in_default.is

pub shared_ref_as_front-own : goal.shared_ref_as_front-own
shared_ref_as_front-own c = line-most c.line_of.ensures.read c.in-Some.is

pub counts_after-requires : goal.counts_after-requires
counts_after-requires c = few-counts c.args.self.now.stands

pub overflow_add-self : goal.overflow_add-self
overflow_add-self c = search (rules, number-within c.args.self.now.stands)

-- the counts after the line
counted-so : (c : After-counts_after) → CountsAfter c.in-Some.line c.line_of.new.numbers c.args.self.now.counts c.counts_after.result
counted-so c = (c.counts_after.ensures.yields, c.counts_after.ensures.more.0, c.counts_after.ensures.more.1)

pub invariant_of-self : goal.invariant_of-self
invariant_of-self c =
    record { stands = stands-before-next c.args.self.now.stands c.if-self.false c.line_of.ensures.read c.told-numbers c.in-Some.is c.line_of.ensures.next (counted-so (goal.at.invariant_of-self c).After-counts_after) }

pub returns : goal.returns
returns c =
    let stands = c.args.self.now.stands in
    let read = c.line_of.ensures.read in
    let next = c.line_of.ensures.next in
    let so = counted-so (goal.at.returns c).After-counts_after in
    record {
      same_list = refl;
      number_is = refl;
      number-after = refl;
      counts-before = refl;
      counts-after = refl;
      shorter = goes-further stands c.if-self.false read c.told-numbers c.in-Some.is next so;
      counted = numbers-fit read c.line_of.array_long c.in-Some.is;
      no_fewer = c.counts_after.ensures.more.0;
      room = room-after stands c.if-self.false read c.told-numbers c.in-Some.is next so;
      took = took stands c.if-self.false read c.told-numbers c.in-Some.is next so;
    }
