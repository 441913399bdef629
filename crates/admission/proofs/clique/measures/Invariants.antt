use Rattle.std.proofs.Common.{◌≡◌, map, take}
use Rattle.admission.specs.Admitted.{settled_measure}
use Rattle.admission.proofs.clique.measures.Given as goal

abbrev pub invariant-loop-i : goal.invariant-loop-i
invariant-loop-i l = l.all ≡ map settled_measure (take l.i l.members)
