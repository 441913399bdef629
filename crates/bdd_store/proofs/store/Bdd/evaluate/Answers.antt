use Rattle.std.proofs.Common.{◌≡◌, Bool, true, false, not, refl, sym, ap, ◌∙◌, arith}
use Rattle.bfr_store.specs.Edges.{is_flipped, xor}
use Rattle.gl_logic.specs.Assignments.{value_at}
use Rattle.bdd_store.proofs.Nodes.{constant-says}
use Rattle.bdd_store.proofs.store.Bdd.evaluate.Goals as goal

not_flipped : (b : Bool) → not b ≡ xor b true
not_flipped true = refl
not_flipped false = refl

pub returns : goal.returns
returns c =
    let at = c.loop-variable.at in
    ap not c.is_complemented.ensures
    ∙ not_flipped (is_flipped at)
    ∙ sym (constant-says c.args.self.now.nodes _ c.width_of-width.ensures.ordered at (omega arith) (value_at c.args.a.now))
    ∙ c.loop-variable.invariant.same
