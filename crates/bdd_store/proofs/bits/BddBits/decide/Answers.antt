use Rattle.bdd_store.proofs.Drawn.{false-says}
use Rattle.bdd_store.proofs.bits.BddBits.decide.Goals as goal

pub returns-then-e-eq1-clause-never : goal.returns-then-e-eq1-clause-never
returns-then-e-eq1-clause-never c never a = false-says c.args.self.now.nodes _ c.width_of-width.ensures.ordered c.args.e c.if-e-eq1.true a
