-- `number::inverse::inverse_of`: p - 1 is its own inverse; for another t Euclid's algorithm starts from p and t.
use Rattle.number.proofs.Euclid.{euclid-start, own-inverse}
use native.Mathlib.Omega.{arith}
use Rattle.number.proofs.inverse.inverse_of.Goals as goal

pub returns-then-t-p : goal.returns-then-t-p
returns-then-t-p c = own-inverse _ _ c.requires.0 (omega arith)

pub euclid-requires : goal.euclid-requires
euclid-requires c = let p = c.requires in euclid-start _ _ p.0 p.1 p.2
