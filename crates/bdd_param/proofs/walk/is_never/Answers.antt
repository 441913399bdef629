use Rattle.std.proofs.Common.{◌∙◌, ap, sym, true≢false, eq-eqb, eqb-true}
use Rattle.bfr_store.specs.declared.edge.Edge.{Edge}
use Rattle.bdd_store.specs.Nodes.{truth_of}
use Rattle.bdd_store.proofs.Canonical.{same_edge}
use Rattle.bdd_param.proofs.walk.is_never.Goals as goal

pub returns-clause-never : goal.returns-clause-never
returns-clause-never c h a =
    let zero = c.constant-zero.result in
    ap (λ (x : Edge). truth_of c.args.store.now.nodes x a) (same_edge c.args.e zero (eqb-true c.args.e.number zero.number h)) ∙ c.constant-zero.ensures.truth a

pub returns-clause-some : goal.returns-clause-some
returns-clause-some c h never =
    let zero = c.constant-zero in
    let is = zero.ensures.only.only c.args.e c.requires (λ a. never a ∙ sym (zero.ensures.truth a)) in
    true≢false (sym (eq-eqb c.args.e.number zero.result.number (ap (λ (x : Edge). x.number) is)) ∙ h)
