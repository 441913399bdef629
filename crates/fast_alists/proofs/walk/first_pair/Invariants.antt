use Rattle.std.proofs.Common.{◌≡◌}
use Rattle.gl_logic.specs.Lists.{size_of}
use Rattle.hons_arena.specs.Ids.{object_at, IsLive}
use Rattle.fast_alists.specs.Alists.{first_pair}
use Rattle.fast_alists.proofs.walk.first_pair.Given as goal

abbrev pub invariant-loop-element : goal.invariant-loop-element
invariant-loop-element l = record {
  live : IsLive l.arena.objects l.list;
  first : first_pair (object_at l.arena.objects l.key) (object_at l.arena.objects l.list) ≡ first_pair (object_at l.arena.objects l.key) (object_at l.arena.objects l.fn.alist);
}

abbrev pub decreases-loop-element : goal.decreases-loop-element
decreases-loop-element l = size_of (object_at l.arena.objects l.list)
