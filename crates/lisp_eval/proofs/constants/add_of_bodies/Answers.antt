use Rattle.gl_logic.specs.CellCounts.{constants_of}
use Rattle.gl_logic.specs.Definition.{Definition}
use Rattle.gl_logic.specs.DefinitionOf.{definition_of}
use Rattle.gl_logic.proofs.CellCounts.{flat_next}
use Rattle.lisp_eval.proofs.PlacedConstants.{behind_more}
use Rattle.lisp_eval.proofs.constants.add_of_bodies.Goals as goal

pub loop-number-preserved : goal.loop-number-preserved
loop-number-preserved c =
    behind_more _ _ _ _ _ _ c.loop-number.invariant c.in_ok-add.ensures (flat_next (λ (d : Definition). constants_of d.body) c.args.world.now.definitions c.loop-number.number (definition_of c.def.result.now) c.def.ensures.found)
