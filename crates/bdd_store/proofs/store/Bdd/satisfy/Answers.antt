use Rattle.std.proofs.Common.{refl, ◌∙◌, arith}
use Rattle.gl_logic.specs.Assignments.{value_at}
use Rattle.bdd_store.proofs.Drawn.{true-says}
use Rattle.bdd_store.proofs.store.Bdd.satisfy.Goals as goal

pub returns-clause-truth : goal.returns-clause-truth
returns-clause-truth c =
    let a = value_at c.loop-at.out in
    c.loop-at.invariant.same a (λ k h. refl)
    ∙ true-says c.args.self.now.nodes _ c.width_of-width.ensures.ordered c.loop-at.at (omega (arith, c.loop-at.invariant.other)) a
