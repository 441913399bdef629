use Rattle.std.proofs.Common.{◌+◌, ◌-◌, ◌*◌, min}
use Rattle.bdd_store.specs.Nodes.{top_of}
use Rattle.bdd_store.proofs.store.Bdd.+choose.Given as goal

-- how far the first variable of the edges is from the end
abbrev pub decreases-choose : goal.decreases-choose
decreases-choose l = 2 * (4294967296 - min (top_of l.self.now.nodes l.t) (min (top_of l.self.now.nodes l.x) (top_of l.self.now.nodes l.y))) + 1

abbrev pub decreases-choose_open : goal.decreases-choose_open
decreases-choose_open l = 2 * (4294967296 - min (top_of l.self.now.nodes l.t) (min (top_of l.self.now.nodes l.x) (top_of l.self.now.nodes l.y)))
