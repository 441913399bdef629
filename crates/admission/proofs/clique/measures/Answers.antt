use Rattle.std.proofs.Common.{◌∙◌, ◌++◌, ◌∷◌, [], sym}
use Rattle.gl_logic.specs.DefinitionOf.{definition_of}
use Rattle.admission.specs.Admitted.{settled_measure}
use Rattle.admission.proofs.Cliques.{map_more}
use Rattle.admission.proofs.clique.measures.Goals as goal

pub loop-i-preserved : goal.loop-i-preserved
loop-i-preserved c =
    c.in_ok-push.ensures.ok ∙ ((λ j. c.loop-i.invariant j ++ c.measure_of.ensures j ∷ []) ∙ sym (map_more settled_measure c.args.members.now c.loop-i.i (definition_of c.at.result.now) c.at.ensures))
