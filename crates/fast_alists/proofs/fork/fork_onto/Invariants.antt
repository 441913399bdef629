use Rattle.std.proofs.Common.{◌≡◌}
use Rattle.gl_logic.specs.Lists.{size_of}
use Rattle.hons_arena.specs.Held.{AddsCellsOf}
use Rattle.hons_arena.specs.Ids.{object_at, IsLive}
use Rattle.fast_alists.specs.Alists.{forked}
use Rattle.fast_alists.specs.Tables.{IsTable}
use Rattle.fast_alists.proofs.fork.fork_onto.Given as goal

abbrev pub invariant-loop-element : goal.invariant-loop-element
invariant-loop-element l = record {
  live : IsLive l.arena.objects l.list;
  same : forked (object_at l.arena.objects l.list) (object_at l.arena.objects l.forked) ≡ forked (object_at l.fn.arena.objects l.fn.alist) (object_at l.fn.arena.objects l.fn.ans);
  adds : AddsCellsOf (forked (object_at l.fn.arena.objects l.fn.alist) (object_at l.fn.arena.objects l.fn.ans)) l.fn.arena.objects l.arena.objects;
  limit : l.arena.limit ≡ l.fn.arena.limit;
  table : IsTable l.arena.objects l.forked l.table;
}

abbrev pub decreases-loop-element : goal.decreases-loop-element
decreases-loop-element l = size_of (object_at l.arena.objects l.list)
