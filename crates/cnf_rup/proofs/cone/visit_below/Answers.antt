use Rattle.std.proofs.Common.{arith}
use Rattle.cnf_rup.proofs.cone.visit_below.Goals as goal

pub visit-requires : goal.visit-requires
visit-requires c = let b = c.node_of.ensures.below c.in-And.x c.in-And.y c.in-And.is in omega (arith, b.0, c.regular.ensures, c.node.ensures, c.requires.within)
