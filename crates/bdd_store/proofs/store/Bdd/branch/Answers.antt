use Rattle.std.proofs.Common.{arith, ap, subst, ◌∙◌, cond, length}
use Rattle.bdd_store.specs.Nodes.{Diagrams, IsHeld, truth_of}
use Rattle.bdd_store.specs.Inside.{IsBranch}
use Rattle.bdd_store.proofs.Held.{where_err, held_flag, flagged_choice, unheld_branch}
use Rattle.bdd_store.specs.declared.node.Node.{Node}
use Rattle.bdd_store.proofs.Nodes.{flagged_branch, flagged_truth, same_top}
use Rattle.bdd_store.proofs.store.Bdd.branch.Goals as goal
use Rattle.bdd_store.proofs.store.Bdd.branch.Goals.{After-flipped_if-2}

branch_is : (c : After-flipped_if-2) → IsBranch c.args.self.now.nodes c.args.self.now.width (length c.args.self.now.nodes) (record { variable = c.args.variable; high = c.flipped_if.result; low = c.flipped_if-2.result })
branch_is c =
    flagged_branch c.args.self.now.nodes c.args.self.now.width c.args.variable c.args.high c.args.low c.flipped_if.result c.flipped_if-2.result c.is_complemented-flag.result c.is_complemented-flag.ensures
    c.flipped_if.ensures.node c.flipped_if-2.ensures.node c.flipped_if.ensures.plain c.flipped_if-2.ensures.plain c.flipped_if.ensures.parity c.flipped_if-2.ensures.parity
    c.if-high-low.false c.requires.high c.requires.low c.requires.above_high c.requires.above_low c.requires.in_width

pub number_of-requires-clause-branch : goal.number_of-requires-clause-branch
number_of-requires-clause-branch c = branch_is ((goal.at.number_of-requires-clause-branch c).After-flipped_if-2)

pub returns-clause-above : goal.returns-clause-above
returns-clause-above c =
    omega (arith, same_top c.number_of.new.self.nodes c.flipped_if-3.result c.edge_of.result c.flipped_if-3.ensures.node, c.edge_of.ensures.top, ap (λ (n : Node). n.variable) c.in_ok-number.ensures.node)

pub returns-clause-truth : goal.returns-clause-truth
returns-clause-truth c a =
    let old = c.args.self.now in
    flagged_truth c.number_of.new.self.nodes c.args.variable c.args.high c.args.low c.flipped_if.result c.flipped_if-2.result c.edge_of.result c.flipped_if-3.result c.is_complemented-flag.result
    c.flipped_if.ensures.truth c.flipped_if-2.ensures.truth c.flipped_if-3.ensures.truth a (rw c.in_ok-number.ensures.node at (c.edge_of.ensures.truth a))
    ∙ (λ i. cond (a c.args.variable) (c.in_ok-number.ensures.extends.same c.args.high a c.requires.high i) (c.in_ok-number.ensures.extends.same c.args.low a c.requires.low i))

-- the node is not there, so no edge stands for what it says, nor for the complement
pub returns-in_err-number-clause-unheld : goal.returns-in_err-number-clause-unheld
returns-in_err-number-clause-unheld c = where_err c.from_residual.result _ (λ held.
    let nodes = c.args.self.now.nodes in
    let b = c.args.variable in let flag = c.is_complemented-flag.result in
    let n : Node = record { variable = b; high = c.flipped_if.result; low = c.flipped_if-2.result } in
    let w = c.width_of-width.ensures in
    let here : IsHeld c.args.self.now (λ a. cond (a b) (truth_of nodes c.args.high a) (truth_of nodes c.args.low a)) =
    subst (λ (s : Diagrams). IsHeld s (λ a. cond (a b) (truth_of nodes c.args.high a) (truth_of nodes c.args.low a))) c.in_err-number.ensures.unchanged held in
    unheld_branch nodes c.args.self.now.width w.ordered w.distinct c.args.self.now.width n (branch_is ((goal.at.returns-in_err-number-clause-unheld c).After-flipped_if-2))
    (omega (arith, c.requires.in_width, w.ordered.narrow)) c.in_err-number.ensures.absent
    (held_flag nodes c.args.self.now.width w.ordered w.distinct flag (λ a. cond (a b) (truth_of nodes c.args.high a) (truth_of nodes c.args.low a)) (λ a. cond (a b) (truth_of nodes n.high a) (truth_of nodes n.low a))
    (λ a. flagged_choice nodes (a b) flag c.args.high c.args.low n.high n.low c.flipped_if.ensures.truth c.flipped_if-2.ensures.truth a) here))
