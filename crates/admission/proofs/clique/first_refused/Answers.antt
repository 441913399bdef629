use Rattle.std.proofs.Common.{◌≡◌, ◌∙◌, ap, sym, subst, refl, ℕ, [], map, Result, Ok, Err}
use Rattle.gl_logic.specs.DefinitionOf.{definition_of}
use Rattle.admission.specs.Admitted.{settled, settled_measure}
use Rattle.admission.specs.Callers.{caller_of}
use Rattle.admission.specs.Numbers.{behind, Counts}
use Rattle.admission.specs.Signatures.{signature_at, signature, signature_of}
use Rattle.admission.proofs.Cliques.{member_passed, member_stops}
use Rattle.admission.proofs.clique.first_refused.Goals as goal

pub returns-in-Err : goal.returns-in-Err
returns-in-Err c =
    let d = definition_of c.at-def.result.now in
    let same : behind (signature_at c.args.first (map signature_of c.args.signatures.now)) d.body c.start.result c.loop-i.next ≡ behind (signature_at c.args.first (map signature (map settled c.args.members.now))) d.body (caller_of (settled_measure d) [] []) c.loop-i.next =
    λ j. behind (signature_at c.args.first (c.requires j)) d.body ((c.start.ensures ∙ ap (λ m. caller_of m [] []) c.measure_of.ensures) j) c.loop-i.next in
    member_stops c.args.first c.args.members.now c.loop-i.i d c.loop-i.next c.in-Err.fault _ c.at-def.ensures (subst (λ (v : Result ℕ ℕ). Counts v (Err c.in-Err.fault)) same c.in-Err.ensures) c.loop-i.invariant

pub loop-i-preserved : goal.loop-i-preserved
loop-i-preserved c =
    let d = definition_of c.at-def.result.now in
    let same : behind (signature_at c.args.first (map signature_of c.args.signatures.now)) d.body c.start.result c.loop-i.next ≡ behind (signature_at c.args.first (map signature (map settled c.args.members.now))) d.body (caller_of (settled_measure d) [] []) c.loop-i.next =
    λ j. behind (signature_at c.args.first (c.requires j)) d.body ((c.start.ensures ∙ ap (λ m. caller_of m [] []) c.measure_of.ensures) j) c.loop-i.next in
    member_passed c.args.first c.args.members.now c.loop-i.i d c.loop-i.next c.in-Ok.behind (Ok c.in-Ok.behind) _ c.at-def.ensures (sym c.in-Ok.ensures ∙ same) refl c.loop-i.invariant
