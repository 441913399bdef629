use Rattle.std.proofs.Common.{not, ◌&&◌, ap, ◌∙◌}
use Rattle.aig_store.specs.Nodes.{truth_of}
use Rattle.aig_store.proofs.Nodes.{values_of, or-says}
use Rattle.aig_store.proofs.store.Aig.either.Goals as goal

pub returns-clause-truth : goal.returns-clause-truth
unfolding truth_of
returns-clause-truth c a =
    let before = values_of c.args.self.now.nodes a in
    c.complement-3.ensures.truth (values_of c.both.new.self.nodes a)
    ∙ ap not (c.in_ok-neither.ensures.truth a ∙ (λ j. c.complement.ensures.truth before j && c.complement-2.ensures.truth before j))
    ∙ or-says (truth_of c.args.self.now.nodes c.args.x a) (truth_of c.args.self.now.nodes c.args.y a)
