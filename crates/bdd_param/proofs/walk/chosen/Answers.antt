use Rattle.std.proofs.Common.{◌≡◌, ◌∙◌, ap, sym, subst, ℕ, List, [], length, get_or}
use Rattle.bfr_store.specs.declared.edge.Edge.{Edge}
use Rattle.bdd_param.specs.Merged.{IsMerged}
use Rattle.bdd_param.proofs.Walks.{both_made}
use Rattle.bdd_param.proofs.walk.chosen.Goals as goal

pub returns-clause-vector : goal.returns-clause-vector
returns-clause-vector c =
    let x = c.variable-variable.result in
    let m = c.args.kept.now in
    let made : IsMerged c.args.store.now c.merged.new.store x (get_or m.vectors c.args.high []) (get_or m.vectors c.args.low []) c.in_ok-both.both (length (get_or m.vectors c.args.high [])) = rw (← c.vector.ensures, ← c.vector-2.ensures) c.in_ok-both.ensures.merged in
    both_made c.args.store.now c.merged.new.store c.in_ok-both.ensures.keeps m c.requires.kept c.args.test c.requires.within c.args.high c.args.low c.requires.high c.requires.low
    x (c.variable-variable.ensures x) c.in_ok-both.both c.in_ok-vector.vector made (c.in_ok-vector.ensures ∙ ap (λ (es : List Edge). Rattle.std.proofs.Common.set es c.args.test.variable x) c.as_slice.ensures)
