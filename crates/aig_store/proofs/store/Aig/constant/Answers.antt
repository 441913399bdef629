use Rattle.std.proofs.Common.{refl, sym, ◌∙◌}
use Rattle.aig_store.proofs.Nodes.{true-says, false-says}
use Rattle.aig_store.proofs.store.Aig.constant.Goals as goal

pub returns-then-b-clause-truth : goal.returns-then-b-clause-truth
returns-then-b-clause-truth c a = true-says c.args.self.now.nodes _ c.width_of-width.ensures.ordered (record { number = 0 }) refl a ∙ sym c.if-b.true

pub returns-else-b-clause-truth : goal.returns-else-b-clause-truth
returns-else-b-clause-truth c a = false-says c.args.self.now.nodes _ c.width_of-width.ensures.ordered (record { number = 1 }) refl a ∙ sym c.if-b.false
