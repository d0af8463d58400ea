-- The worked tables P1 to P11, by computation.
use Rattle.meaning.proofs.Compute.{computing}
use Rattle.meaning.specs.Examples.{WorkedTables}

pub worked-tables : WorkedTables
unfolding computing
worked-tables = tt
