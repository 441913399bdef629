use Rattle.std.proofs.Common.{rules}
use Rattle.bdd_store.specs.Nodes.{truth_of}
use Rattle.bdd_store.proofs.Canonical.{only_edge}
use Rattle.bdd_store.proofs.Nodes.{values_of}
use Rattle.bdd_store.proofs.bits.BddBits.not.Goals as goal

pub returns-clause-truth : goal.returns-clause-truth
unfolding truth_of
returns-clause-truth c a = c.complement.ensures.truth (values_of c.args.self.now.nodes a)

pub returns-clause-only : goal.returns-clause-only
returns-clause-only c = only_edge c.args.self.now _ c.width_of-width.ensures.ordered c.width_of-width.ensures.distinct c.complement.result (search rules)
