use Rattle.std.proofs.Common.{◌≡◌, ◌≤◌, ◌+◌, ◌*◌, length, map, All}
use Rattle.gl_logic.specs.Lists.{size_of}
use Rattle.gl_logic.specs.Parts.{car_steps}
use Rattle.hons_arena.specs.Ids.{object_at, IsLive}
use Rattle.hons_arena.specs.Spine.{onto}
use Rattle.hons_arena.proofs.arena.HonsArena.+built.Given as goal

abbrev pub decreases-built : goal.decreases-built
decreases-built l = 2 * l.steps + 1

abbrev pub decreases-built_onto : goal.decreases-built_onto
decreases-built_onto l = 2 * l.steps

abbrev pub invariant-built_onto-loop-car : goal.invariant-built_onto-loop-car
invariant-built_onto-loop-car l = record {
  live : All (IsLive l.self.objects) l.cars.items;
  whole : onto (map (object_at l.self.objects) l.cars.items) l.tree ≡ onto (map (object_at l.self.objects) l.fn.cars.items) l.fn.tail;
  size : size_of l.tree + l.room + length l.cars.items ≡ l.fn.room + length l.fn.cars.items;
  steps : car_steps l.tree ≤ l.steps;
}

abbrev pub decreases-built_onto-loop-car : goal.decreases-built_onto-loop-car
decreases-built_onto-loop-car l = length l.cars.items
