use Rattle.aig_store.specs.Nodes.{truth_of}
use Rattle.aig_store.proofs.Nodes.{values_of}
use Rattle.aig_store.proofs.store.Aig.not.Goals as goal

pub returns-clause-truth : goal.returns-clause-truth
unfolding truth_of
returns-clause-truth c a = c.complement.ensures.truth (values_of c.args.self.now.nodes a)
