use Rattle.std.proofs.Common.{◌+◌, ◌-◌, ◌*◌, min}
use Rattle.bdd_store.specs.Nodes.{top_of}
use Rattle.bdd_store.proofs.store.Bdd.+both.Given as goal

-- how far the first variable of the edges is from the end
abbrev pub decreases-both : goal.decreases-both
decreases-both l = 2 * (4294967296 - min (top_of l.self.now.nodes l.x) (top_of l.self.now.nodes l.y)) + 1

abbrev pub decreases-both_open : goal.decreases-both_open
decreases-both_open l = 2 * (4294967296 - min (top_of l.self.now.nodes l.x) (top_of l.self.now.nodes l.y))
