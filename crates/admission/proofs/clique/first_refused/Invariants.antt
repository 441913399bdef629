use Rattle.std.proofs.Common.{◌≡◌, map}
use Rattle.admission.specs.Admitted.{settled}
use Rattle.admission.specs.Refused.{first_refused}
use Rattle.admission.proofs.Cliques.{refused_from}
use Rattle.admission.proofs.clique.first_refused.Given as goal

abbrev pub invariant-loop-i : goal.invariant-loop-i
invariant-loop-i l = refused_from l.first (map settled l.members) l.i l.next ≡ first_refused l.first (map settled l.members)
