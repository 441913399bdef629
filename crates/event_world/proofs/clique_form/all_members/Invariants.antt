use Rattle.std.proofs.Common.{◌≡◌, map, length}
use Rattle.gl_logic.specs.Wording.{all_meant}
use Rattle.event_world.specs.CliqueMeant.{member_parts}
use Rattle.event_world.specs.FormsSeen.{defun_seen}
use Rattle.event_world.proofs.Cursors.{behind}
use Rattle.event_world.proofs.clique_form.all_members.Given as goal

abbrev pub invariant-loop-form : goal.invariant-loop-form
invariant-loop-form l = behind (map defun_seen l.all.items) (all_meant (member_parts l.texts) l.left) ≡ all_meant (member_parts l.texts) l.parts

abbrev pub decreases-loop-form : goal.decreases-loop-form
decreases-loop-form l = length l.left
