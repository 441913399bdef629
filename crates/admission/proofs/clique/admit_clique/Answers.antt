use Rattle.admission.proofs.Cliques.{clique_admitted}
use Rattle.admission.proofs.clique.admit_clique.Goals as goal

pub returns-in-Ok-measures-clause-admissible : goal.returns-in-Ok-measures-clause-admissible
returns-in-Ok-measures-clause-admissible c = clique_admitted c.args.first.number c.args.members.now c.in-Ok-measures.measures c.in-Ok-measures.ensures c.in-Ok-first_refused.ensures
