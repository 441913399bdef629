use Rattle.std.proofs.Common.{ap}
use Rattle.hons_arena.specs.Ids.{object_at}
use Rattle.hons_arena.proofs.arena.HonsArena.same.Goals as goal

pub returns-clause-objects : goal.returns-clause-objects
returns-clause-objects c = (
  λ t. ap (object_at c.args.self.now.objects) (c.same_id.ensures.0 t),
  λ e. c.same_id.ensures.1 (c.is_live.ensures.whole.ids c.args.a c.args.b c.requires.a c.requires.b e),
)
