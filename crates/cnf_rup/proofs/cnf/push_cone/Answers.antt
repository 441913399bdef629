use Rattle.std.proofs.Common.{arith}
use Rattle.cnf_rup.proofs.cnf.push_cone.Goals as goal

pub push_node-requires-clause-below : goal.push_node-requires-clause-below
push_node-requires-clause-below c x y is =
    let b = c.node_of-node.ensures.below x y is in
    (omega (arith, b.0, c.regular.ensures), omega (arith, b.1, c.regular.ensures))
