use Rattle.std.proofs.Common.{◌≡◌, length}
use Rattle.event_world.specs.Declares.{all_pairs, pairs_before}
use Rattle.event_world.proofs.Cursors.{behind}
use Rattle.event_world.proofs.declares.xargs.Given as goal

abbrev pub invariant-loop-form : goal.invariant-loop-form
invariant-loop-form l = behind l.all (all_pairs (pairs_before l.texts) l.left) ≡ all_pairs (pairs_before l.texts) l.before

abbrev pub decreases-loop-form : goal.decreases-loop-form
decreases-loop-form l = length l.left
