use Rattle.std.proofs.Common.{arith}
use Rattle.cnf_rup.proofs.cnf.push_node.Goals as goal

pub literal_of-first-requires : goal.literal_of-first-requires
literal_of-first-requires c = let b = c.requires.below c.in-And.x c.in-And.y c.in-And.is in omega (arith, b.0, c.requires.within)

pub literal_of-second-requires : goal.literal_of-second-requires
literal_of-second-requires c = let b = c.requires.below c.in-And.x c.in-And.y c.in-And.is in omega (arith, b.1, c.requires.within)
