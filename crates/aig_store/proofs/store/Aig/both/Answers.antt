use Rattle.std.proofs.Common.{◌∙◌, ◌&&◌, inl, inr}
use Rattle.aig_store.specs.Nodes.{IsPair, truth_of}
use Rattle.aig_store.proofs.Nodes.{values_of, constant_true, pair-open, plain-says, pair-says}
use Rattle.aig_store.proofs.store.Aig.both.Goals as goal
use Rattle.aig_store.proofs.store.Aig.both.Goals.{then-x-y, else-x-y}

pub returns-in-Some-clause-truth : goal.returns-in-Some-clause-truth
unfolding truth_of
returns-in-Some-clause-truth c a = c.in-Some.ensures.truth (values_of c.args.self.now.nodes a) (constant_true c.args.self.now.nodes _ c.width_of-width.ensures.ordered a)

pub returns-in-Some-clause-held : goal.returns-in-Some-clause-held
returns-in-Some-clause-held c = λ i within pair.
    let edges = pair-open c.args.self.now.nodes _ c.width_of-width.ensures.ordered c.args.x c.args.y i within pair in
    absurd (edges.2 (c.in-Some.ensures.closed edges.0 edges.1))

pub returns-clause-truth : goal.returns-clause-truth
returns-clause-truth c a =
    let new = c.intern.new.self.nodes in
    let pair : IsPair c.args.x c.args.y c.if-x-y.node = elim c.if-x-y.branch [ then-x-y w ↦ inl w.node-is | else-x-y w ↦ inr w.node-is ] in
    plain-says new _ c.intern.ensures.extends.ordered c.in_ok-number.number c.regular.result c.if-x-y.node c.regular.ensures c.in_ok-number.ensures.live c.in_ok-number.ensures.node a
    ∙ pair-says new c.args.x c.args.y c.if-x-y.node a pair
    ∙ (λ j. c.intern.ensures.extends.same c.args.x a c.requires.x j && c.intern.ensures.extends.same c.args.y a c.requires.y j)
