use Rattle.bdd_store.proofs.Dependence.{agree}
use Rattle.bdd_store.proofs.bits.BddBits.width.Goals as goal

pub returns-clause-depends : goal.returns-clause-depends
returns-clause-depends c e a b live same = agree c.args.self.now.nodes _ c.width_of.ensures.ordered e live a b (λ k from to. same k to)
