use Rattle.std.proofs.Common.{◌≡◌, ◌+◌, ◌*◌, take}
use Rattle.gl_logic.specs.Lists.{conses, size_of}
use Rattle.hons_arena.specs.Held.{AddsCellsOf}
use Rattle.hons_arena.specs.Ids.{object_at, IsIdOf}
use denote.Param.Weighed.{most}
use Rattle.hons_arena.proofs.arena.HonsArena.+put.Given as goal

abbrev pub decreases-put : goal.decreases-put
decreases-put l = 2 * size_of l.tree.now + 1

abbrev pub decreases-put_all : goal.decreases-put_all
decreases-put_all l = 2 * most (λ y. size_of y + 1) l.elements.now

abbrev pub invariant-put_all-loop-element : goal.invariant-put_all-loop-element
invariant-put_all-loop-element l = record {
  id : IsIdOf l.self.objects (conses (take l.element-index l.elements) (object_at l.fn.self.objects l.fn.tail)) l.rest;
  adds : AddsCellsOf (conses l.elements (object_at l.fn.self.objects l.fn.tail)) l.fn.self.objects l.self.objects;
  limit : l.self.limit ≡ l.fn.self.limit;
}
