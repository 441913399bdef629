use Rattle.std.proofs.Common.{◌∙◌, ◌++◌, ◌∷◌, [], ap, map, sym}
use Rattle.std.proofs.lemmas.List.{map-append}
use Rattle.gl_logic.specs.DefinitionOf.{definition_of}
use Rattle.admission.specs.Admitted.{settled}
use Rattle.admission.specs.Signatures.{signature_of, signature}
use Rattle.admission.proofs.Cliques.{map_more}
use Rattle.admission.proofs.clique.signatures.Goals as goal

pub loop-i-preserved : goal.loop-i-preserved
loop-i-preserved c =
    let d = definition_of c.at-def.result.now in
    ap (map signature_of) c.in_ok-push.ensures.items
    ∙ (map-append signature_of c.loop-i.all.items _
    ∙ ((λ j. c.loop-i.invariant j ++ (d.formals, c.measure_of.ensures j) ∷ [])
    ∙ sym (ap (map signature) (map_more settled c.args.members.now c.loop-i.i d c.at-def.ensures) ∙ map-append signature _ (settled d ∷ []))))
