use Rattle.std.proofs.Common.{◌≡◌, map, take}
use Rattle.admission.specs.Admitted.{settled}
use Rattle.event_world.proofs.clique.all_settled.Given as goal

abbrev pub invariant-loop-i : goal.invariant-loop-i
invariant-loop-i l = l.all ≡ map settled (take l.i l.defs)
