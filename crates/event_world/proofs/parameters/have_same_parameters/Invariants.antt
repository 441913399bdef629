use Rattle.std.proofs.Common.{◌≡◌}
use Rattle.event_world.proofs.KeptNames.{same_from}
use Rattle.event_world.proofs.parameters.have_same_parameters.Given as goal

abbrev pub invariant-loop-i : goal.invariant-loop-i
invariant-loop-i l = same_from l.first l.second l.i ≡ same_from l.first l.second 0
