use Rattle.std.proofs.Common.{◌∙◌, sym, ◌++◌, ◌∷◌, []}
use Rattle.gl_logic.specs.DefinitionOf.{definition_of}
use Rattle.admission.proofs.Cliques.{map_more}
use Rattle.event_world.specs.CliqueMeant.{unmeasured}
use Rattle.event_world.proofs.clique.all_unmeasured.Goals as goal

pub loop-i-preserved : goal.loop-i-preserved
loop-i-preserved c =
    c.in_ok-push.ensures.ok
    ∙ ((λ j. c.loop-i.invariant j ++ c.in_ok-with_measure.ensures j ∷ [])
    ∙ sym (map_more unmeasured c.args.defs.now c.loop-i.i (definition_of c.at-def.result.now) c.at-def.ensures))
