use Rattle.std.proofs.Common.{◌≡◌, length}
use Rattle.gl_logic.specs.Wording.{all_meant}
use Rattle.event_world.specs.RedundantMeant.{repeated_member}
use Rattle.event_world.proofs.Cursors.{behind}
use Rattle.event_world.proofs.redundant.repeated_members.Given as goal

abbrev pub invariant-loop-form : goal.invariant-loop-form
invariant-loop-form l = behind l.all (all_meant (repeated_member l.texts l.world) l.left) ≡ all_meant (repeated_member l.texts l.world) l.parts

abbrev pub decreases-loop-form : goal.decreases-loop-form
decreases-loop-form l = length l.left
