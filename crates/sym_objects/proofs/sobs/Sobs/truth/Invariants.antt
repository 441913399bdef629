use Rattle.std.proofs.Common.{◌≡◌, ◌+◌}
use Rattle.sym_objects.specs.Keeps.{Keeps}
use Rattle.sym_objects.specs.Memos.{AreRight}
use Rattle.sym_objects.specs.Seen.{IsLive}
use Rattle.sym_objects.specs.Truths.{IsChoiceOf, IsTruthOf, number_of, sob_of}
use Rattle.sym_objects.specs.Walks.{Await, IsSound, focus_weight, frames_weight, key_in}
use Rattle.sym_objects.proofs.sobs.Sobs.truth.Given as goal

abbrev pub invariant-loop-focus : goal.invariant-loop-focus
invariant-loop-focus g l = record {
  keeps : Keeps g.B.Meaning l.fn.self l.self;
  nodes : l.self.nodes ≡ l.fn.self.nodes;
  awaits : Await (IsTruthOf g.B.Meaning l.self) (IsChoiceOf l.self.nodes) l.fn.s l.frames (key_in l.focus);
  sound : IsSound (IsLive l.self) (IsTruthOf g.B.Meaning l.self) l.focus;
  memo : AreRight sob_of (IsTruthOf g.B.Meaning l.self) l.memo;
}

abbrev pub decreases-loop-focus : goal.decreases-loop-focus
decreases-loop-focus g l = focus_weight number_of l.focus + frames_weight number_of l.frames
