use Rattle.gl_logic.specs.Lists.{size_of}
use Rattle.hons_arena.specs.Ids.{object_at, IsLive}
use Rattle.fast_alists.specs.Tables.{Covers}
use Rattle.fast_alists.proofs.walk.table_of.Given as goal

abbrev pub invariant-loop-element : goal.invariant-loop-element
invariant-loop-element l = record {
  live : IsLive l.arena.objects l.list;
  covers : Covers l.arena.objects (object_at l.arena.objects l.fn.alist) (object_at l.arena.objects l.list) l.table;
}

abbrev pub decreases-loop-element : goal.decreases-loop-element
decreases-loop-element l = size_of (object_at l.arena.objects l.list)
