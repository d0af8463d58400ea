-- The pairs before the iterator's are added: those that are left, with the ends so far, say what the whole sum says.
use mathlib.Core.Path.{◌≡◌}
use Rattle.std.specs.Slice.Iter.{chunks_exact_rest, chunks_exact_size}
use Rattle.rules.specs.Yield.{ends_meaning}
use Rattle.rules.proofs.SumLine.{Summing}
use Rattle.rules.proofs.sum.sum_ends.Given as goal

abbrev pub invariant-loop-term : goal.invariant-loop-term
invariant-loop-term l =
    (chunks_exact_size l.term-iterator ≡ 2) × Summing l.known.p l.known.ends.now l.numbers (ends_meaning l.so_far) (chunks_exact_rest l.term-iterator)
