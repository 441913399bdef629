use Rattle.std.proofs.Common.{◌≡◌, ◌≤◌, length, take}
use Rattle.hons_arena.proofs.arena.HonsArena.release.Given as goal

abbrev pub invariant-loop-mark : goal.invariant-loop-mark
invariant-loop-mark l = record {
  left : l.self.objects ≡ take (length l.self.objects) l.fn.self.objects;
  marked : l.mark.count ≤ length l.self.objects;
  within : length l.self.objects ≤ length l.fn.self.objects;
  limit : l.self.limit ≡ l.fn.self.limit;
}

abbrev pub decreases-loop-mark : goal.decreases-loop-mark
decreases-loop-mark l = length l.self.objects
