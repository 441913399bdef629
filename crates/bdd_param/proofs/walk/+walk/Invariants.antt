use Rattle.std.proofs.Common.{◌+◌, ◌*◌}
use Rattle.bfr_store.specs.Edges.{node_of}
use Rattle.bdd_param.proofs.walk.+walk.Given as goal

-- the number of the edge's node
abbrev pub decreases-walk : goal.decreases-walk
decreases-walk l = 3 * node_of l.e + 2

abbrev pub decreases-walk_test : goal.decreases-walk_test
decreases-walk_test l = 3 * node_of l.e + 1

abbrev pub decreases-walk_high : goal.decreases-walk_high
decreases-walk_high l = 3 * node_of l.e

abbrev pub decreases-walk_low : goal.decreases-walk_low
decreases-walk_low l = 3 * node_of l.e

abbrev pub decreases-walk_both : goal.decreases-walk_both
decreases-walk_both l = 3 * node_of l.e
