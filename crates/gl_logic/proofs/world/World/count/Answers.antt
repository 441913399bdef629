use Rattle.std.proofs.Common.{subst}
use Rattle.gl_logic.specs.IsTotal.{IsTotal}
use Rattle.gl_logic.specs.WorldSeen.{WorldSeen, IsWorld}
use Rattle.gl_logic.proofs.TotalWorlds.{world_is_total}
use Rattle.gl_logic.proofs.world.World.count.Goals as goal

pub returns-clause-world : goal.returns-clause-world
returns-clause-world c = subst (λ (w : WorldSeen). IsWorld w.definitions w.cliques) c.self.view_is c.self.invariant.world

pub returns-clause-total : goal.returns-clause-total
returns-clause-total c = subst (λ (w : WorldSeen). IsTotal w.definitions) c.self.view_is (world_is_total _ _ c.self.invariant.world)
