use Rattle.aig_store.proofs.Nodes.{agree}
use Rattle.aig_store.proofs.store.Aig.width.Goals as goal

pub returns-clause-depends : goal.returns-clause-depends
returns-clause-depends c e a b live same = agree c.args.self.now.nodes _ c.width_of.ensures.ordered e live a b same
