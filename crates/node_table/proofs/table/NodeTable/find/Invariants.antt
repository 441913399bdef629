use Rattle.std.proofs.Common.{length}
use Rattle.node_table.proofs.Linked.{IsPassed}
use Rattle.node_table.proofs.table.NodeTable.find.Given as goal

abbrev pub invariant-loop-at : goal.invariant-loop-at
invariant-loop-at g l = IsPassed g.N.Interned.hash_of (length l.self-inside.heads.items) l.self-inside.nodes.items l.node l.at

abbrev pub decreases-loop-at : goal.decreases-loop-at
decreases-loop-at g l = l.at
