use Rattle.std.proofs.Common.{◌∙◌, sym, ◌≤◌, [], ◌∷◌, length, arith}
use Rattle.std.proofs.lemmas.List.{append-nil}
use Rattle.event_world.proofs.PreludeParts.{one_further, symbol_kind, other_kind}
use Rattle.event_world.proofs.ground_world.names_in.Goals as goal

pub loop-left-preserved-in-Continue-1 : goal.loop-left-preserved-in-Continue-1
loop-left-preserved-in-Continue-1 c =
    let i = c.loop-left.invariant in
    let some : 1 ≤ c.loop-left.left = omega arith in
    let within : c.loop-left.left ≤ length c.elements-elements.result.now = i.within in
    record {
      within = omega arith;
      names = c.in_ok-push.ensures.ok ∙ one_further c.elements-elements.result.now c.loop-left.left c.index-elements-left.result _ some within c.index-elements-left.is c.loop-left.names (c.in-Symbol.name.number ∷ []) i.names (symbol_kind c.index-elements-left.result c.in-Symbol.name (sym c.kind.ensures ∙ c.in-Symbol.is));
    }

pub loop-left-preserved : goal.loop-left-preserved
loop-left-preserved c =
    let i = c.loop-left.invariant in
    let some : 1 ≤ c.loop-left.left = omega arith in
    let within : c.loop-left.left ≤ length c.elements-elements.result.now = i.within in
    record {
      within = omega arith;
      names = sym (append-nil c.loop-left.names) ∙ one_further c.elements-elements.result.now c.loop-left.left c.index-elements-left.result _ some within c.index-elements-left.is c.loop-left.names [] i.names (other_kind c.index-elements-left.result (λ t q. c.in_default.not-Symbol t (c.kind.ensures ∙ q)));
    }
