use Rattle.std.proofs.Common.{◌≡◌, ◌<◌, ap, sym, ◌∙◌, arith}
use Rattle.bfr_store.specs.Edges.{node_of}
use Rattle.bdd_store.specs.declared.node.Node.{Node}
use Rattle.bdd_store.specs.Nodes.{top_of, node_at}
use Rattle.bdd_store.specs.Inside.{IsOrdered}
use Rattle.bdd_store.proofs.Nodes.{top-at, branches-say, positive_from_top, above_high, above_low}
use Rattle.bdd_store.proofs.store.Bdd.branches.Goals as goal
use Rattle.bdd_store.proofs.store.Bdd.branches.Goals.{After-node_of-node, After-flipped_if-2}

ordered : (c : After-node_of-node) → IsOrdered c.args.self.now.nodes c.args.self.now.width
ordered c = c.node_of-node.ensures.ordered

node_is : (c : After-node_of-node) → c.node_of-node.result ≡ node_at c.args.self.now.nodes (node_of c.args.e)
node_is c = c.node_of-node.ensures.node

top_is : (c : After-node_of-node) → top_of c.args.self.now.nodes c.args.e ≡ c.node_of-node.result.variable
top_is c = top-at c.args.self.now.nodes c.args.e ∙ ap (λ (n : Node). n.variable) (sym (node_is c))

positive : (c : After-node_of-node) → c.node_of-node.result.variable ≡ c.args.variable → 0 < node_of c.args.e
positive c h = positive_from_top c.args.self.now.nodes _ (ordered c) c.args.e (omega (arith, top_is c, c.requires.proper))

pub returns-then-node-variable-clause-above_high : goal.returns-then-node-variable-clause-above_high
returns-then-node-variable-clause-above_high c = omega (arith, top_is ((goal.at.returns-then-node-variable-clause-above_high c).After-node_of-node))

pub returns-then-node-variable-clause-above_low : goal.returns-then-node-variable-clause-above_low
returns-then-node-variable-clause-above_low c = omega (arith, top_is ((goal.at.returns-then-node-variable-clause-above_low c).After-node_of-node))

pub returns-clause-above_high : goal.returns-clause-above_high
returns-clause-above_high c =
    let d = (goal.at.returns-clause-above_high c).After-node_of-node in
    omega (arith, above_high c.args.self.now.nodes _ (ordered d) c.args.e c.flipped_if.result _ (node_is d) (positive d c.if-node-variable.false) c.requires.live c.flipped_if.ensures.node)

pub returns-clause-above_low : goal.returns-clause-above_low
returns-clause-above_low c =
    let d = (goal.at.returns-clause-above_low c).After-node_of-node in
    omega (arith, above_low c.args.self.now.nodes _ (ordered d) c.args.e c.flipped_if-2.result _ (node_is d) (positive d c.if-node-variable.false) c.requires.live c.flipped_if-2.ensures.node)

pub returns-clause-truth : goal.returns-clause-truth
returns-clause-truth c a =
    let d = (goal.at.returns-clause-truth c).After-node_of-node in
    rw (← c.if-node-variable.false) (branches-say c.args.self.now.nodes _ (ordered d) c.args.e c.flipped_if.result c.flipped_if-2.result _ c.is_complemented-flag.result (node_is d) (positive d c.if-node-variable.false) c.requires.live c.is_complemented-flag.ensures c.flipped_if.ensures.truth c.flipped_if-2.ensures.truth a)

pub returns-then-node-variable-clause-differ : goal.returns-then-node-variable-clause-differ
returns-then-node-variable-clause-differ c = λ is. absurd (c.if-node-variable.true (omega (arith, is, top_is ((goal.at.returns-then-node-variable-clause-differ c).After-node_of-node))))
