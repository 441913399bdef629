use Rattle.gl_logic.proofs.TotalWorlds.{clique_keeps_total, world_is_total}
use Rattle.gl_logic.proofs.total_laws.worlds_are_total.Goals as goal

pub returns : goal.returns
returns c = record { clique = clique_keeps_total; world = world_is_total }
