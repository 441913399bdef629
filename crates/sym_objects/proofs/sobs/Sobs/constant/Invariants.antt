use Rattle.std.proofs.Common.{◌≡◌, ◌+◌}
use Rattle.hons_arena.specs.Ids.{IsLive as IsIdLive}
use Rattle.sym_objects.specs.Constants.{AreConsParts, IsConstantOf, id_of, size_at}
use Rattle.sym_objects.specs.Keeps.{Keeps}
use Rattle.sym_objects.specs.Memos.{AreRight}
use Rattle.sym_objects.specs.Walks.{Await, IsSound, focus_weight, frames_weight, key_in}
use Rattle.sym_objects.proofs.sobs.Sobs.constant.Given as goal

abbrev pub invariant-loop-focus : goal.invariant-loop-focus
invariant-loop-focus g l = record {
  keeps : Keeps g.B.Meaning l.fn.self l.self;
  store : l.self.store ≡ l.fn.self.store;
  awaits : Await (IsConstantOf g.B.Meaning l.self l.arena.objects) (AreConsParts l.arena.objects) l.fn.id l.frames (key_in l.focus);
  sound : IsSound (IsIdLive l.arena.objects) (IsConstantOf g.B.Meaning l.self l.arena.objects) l.focus;
  memo : AreRight id_of (IsConstantOf g.B.Meaning l.self l.arena.objects) l.memo;
}

abbrev pub decreases-loop-focus : goal.decreases-loop-focus
decreases-loop-focus g l = focus_weight (size_at l.arena.objects) l.focus + frames_weight (size_at l.arena.objects) l.frames
