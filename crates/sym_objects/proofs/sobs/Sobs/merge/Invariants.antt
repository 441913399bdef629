use Rattle.std.proofs.Common.{◌+◌}
use Rattle.sym_objects.specs.Keeps.{Keeps}
use Rattle.sym_objects.specs.Memos.{AreRight}
use Rattle.sym_objects.specs.Merging.{AreHalvesOf, AreLive, IsMergeOf, both_of, size_of_both}
use Rattle.sym_objects.specs.Walks.{Await, IsSound, focus_weight, frames_weight, key_in}
use Rattle.sym_objects.proofs.sobs.Sobs.merge.Given as goal

abbrev pub invariant-loop-focus : goal.invariant-loop-focus
invariant-loop-focus g l = record {
  keeps : Keeps g.B.Meaning l.fn.self l.self;
  awaits : Await (IsMergeOf g.B.Meaning l.test l.self) (AreHalvesOf l.self) (record { first = l.fn.a; second = l.fn.b }) l.frames (key_in l.focus);
  sound : IsSound (AreLive l.self) (IsMergeOf g.B.Meaning l.test l.self) l.focus;
  memo : AreRight both_of (IsMergeOf g.B.Meaning l.test l.self) l.memo;
}

abbrev pub decreases-loop-focus : goal.decreases-loop-focus
decreases-loop-focus g l = focus_weight size_of_both l.focus + frames_weight size_of_both l.frames
