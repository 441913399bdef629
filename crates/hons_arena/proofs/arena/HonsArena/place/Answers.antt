use Rattle.hons_arena.proofs.Trees.{full_exactly}
use Rattle.hons_arena.proofs.arena.HonsArena.place.Goals as goal

pub returns-clause-full : goal.returns-clause-full
returns-clause-full c = full_exactly c.args.self.now c.put-placed.new.self c.args.tree.now c.put-placed.result c.put-placed.ensures c.is_full-is_full.ensures.whole
