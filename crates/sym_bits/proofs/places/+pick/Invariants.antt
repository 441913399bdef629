use Rattle.sym_bits.proofs.places.+pick.Given as goal

abbrev pub decreases-pick : goal.decreases-pick
decreases-pick g l = l.level
