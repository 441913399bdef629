use Rattle.std.proofs.Common.{length}
use Rattle.sym_objects.proofs.Linked.{IsPassed}
use Rattle.sym_objects.proofs.table.Table.find.Given as goal

abbrev pub invariant-loop-at : goal.invariant-loop-at
invariant-loop-at l = IsPassed (length l.self-inside.heads.items) l.self-inside.nodes.items l.node l.at

abbrev pub decreases-loop-at : goal.decreases-loop-at
decreases-loop-at l = l.at
