use Rattle.number.proofs.inverse.+euclid.Given as goal

abbrev pub decreases-euclid : goal.decreases-euclid
decreases-euclid l = l.r1
