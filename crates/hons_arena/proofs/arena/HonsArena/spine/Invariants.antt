use Rattle.std.proofs.Common.{◌≡◌, ◌+◌, length, map, All}
use Rattle.gl_logic.specs.Lists.{size_of}
use Rattle.hons_arena.specs.Ids.{object_at, IsLive}
use Rattle.hons_arena.specs.Spine.{onto}
use Rattle.hons_arena.proofs.arena.HonsArena.spine.Given as goal

abbrev pub invariant-loop-first : goal.invariant-loop-first
invariant-loop-first l = record {
  live : IsLive l.self.objects l.tail;
  cars : All (IsLive l.self.objects) l.cars.items;
  whole : onto (map (object_at l.self.objects) l.cars.items) (object_at l.self.objects l.tail) ≡ object_at l.self.objects l.fn.id;
  room : length l.cars.items + l.room ≡ l.fn.room;
}

abbrev pub decreases-loop-first : goal.decreases-loop-first
decreases-loop-first l = size_of (object_at l.self.objects l.tail)
