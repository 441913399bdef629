use Rattle.std.proofs.Common.{refl}
use Rattle.gl_logic.specs.Ground.{ground}
use Rattle.gl_logic.specs.WorkedCounts.{worked_counts}
use Rattle.gl_logic.proofs.worked.counts_are_right.Goals as goal

pub returns : goal.returns
unfolding worked_counts ground
returns c = ((refl, tt, refl, refl, refl), ((refl, tt, refl, refl, refl), ((refl, tt, refl, refl, refl), ((refl, tt, refl, refl, refl), ((refl, tt, refl, refl, refl), ((refl, tt, refl, refl, refl), ((refl, tt, refl, refl, refl), ((refl, refl, refl, refl, refl), ((refl, refl, refl, refl, refl), ((refl, refl, refl, refl, refl), ((refl, refl, refl, refl, refl), ((refl, refl, refl, refl, refl), ((refl, refl, refl, refl, refl), ((refl, refl, refl, refl, refl), ((refl, refl, refl, refl, refl), ((refl, refl, refl, refl, refl), ((refl, refl, refl, refl, refl), ((refl, refl, refl, refl, refl), ((refl, refl, refl, refl, refl), ((refl, refl, refl, refl, refl), ((refl, refl, refl, refl, refl), ((refl, tt, refl, refl, refl), ((refl, tt, refl, refl, refl), ((refl, refl, refl, refl, refl), ((refl, refl, refl, refl, refl), ((refl, refl, refl, refl, refl), ((refl, refl, refl, refl, refl), ((refl, refl, refl, refl, refl), ((refl, refl, refl, refl, refl), ((refl, refl, refl, refl, refl), ((refl, refl, refl, refl, refl), ((refl, refl, refl, refl, refl), ((refl, refl, refl, refl, refl), ((refl, refl, refl, refl, refl), ((refl, refl, refl, refl, refl), ((refl, refl, refl, refl, refl), ((refl, refl, refl, refl, refl), tt)))))))))))))))))))))))))))))))))))))
