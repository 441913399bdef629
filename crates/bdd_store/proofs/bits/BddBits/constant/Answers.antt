use Rattle.std.proofs.Common.{refl, sym, ◌∙◌}
use Rattle.bdd_store.proofs.Canonical.{only_edge}
use Rattle.bdd_store.proofs.Drawn.{true-says, false-says}
use Rattle.bdd_store.proofs.bits.BddBits.constant.Goals as goal

pub returns-then-b-clause-truth : goal.returns-then-b-clause-truth
returns-then-b-clause-truth c a = true-says c.args.self.now.nodes _ c.width_of-width.ensures.ordered (record { number = 0 }) refl a ∙ sym c.if-b.true

pub returns-else-b-clause-truth : goal.returns-else-b-clause-truth
returns-else-b-clause-truth c a = false-says c.args.self.now.nodes _ c.width_of-width.ensures.ordered (record { number = 1 }) refl a ∙ sym c.if-b.false

pub returns-then-b-clause-only : goal.returns-then-b-clause-only
returns-then-b-clause-only c = only_edge c.args.self.now _ c.width_of-width.ensures.ordered c.width_of-width.ensures.distinct (record { number = 0 }) c.width_of-width.ensures.ordered.some

pub returns-else-b-clause-only : goal.returns-else-b-clause-only
returns-else-b-clause-only c = only_edge c.args.self.now _ c.width_of-width.ensures.ordered c.width_of-width.ensures.distinct (record { number = 1 }) c.width_of-width.ensures.ordered.some
