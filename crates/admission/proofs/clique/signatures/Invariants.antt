use Rattle.std.proofs.Common.{◌≡◌, map, take}
use Rattle.admission.specs.Admitted.{settled}
use Rattle.admission.specs.Signatures.{signature_of, signature}
use Rattle.admission.proofs.clique.signatures.Given as goal

abbrev pub invariant-loop-i : goal.invariant-loop-i
invariant-loop-i l = map signature_of l.all.items ≡ map signature (map settled (take l.i l.members))
