use Rattle.std.proofs.Common.{◌≡◌, length}
use Rattle.event_world.specs.Keywords.{pairs_of}
use Rattle.event_world.proofs.Cursors.{behind}
use Rattle.event_world.proofs.keywords.pairs_of.Given as goal

abbrev pub invariant-loop-key : goal.invariant-loop-key
invariant-loop-key l = behind l.all (pairs_of l.texts l.left) ≡ pairs_of l.texts l.parts

abbrev pub decreases-loop-key : goal.decreases-loop-key
decreases-loop-key l = length l.left
