use Rattle.std.proofs.Common.{◌≡◌, length}
use Rattle.gl_logic.specs.Wording.{all_meant}
use Rattle.event_world.specs.NamesMeant.{plain_name}
use Rattle.event_world.proofs.Cursors.{behind}
use Rattle.event_world.proofs.defun_form.all_legal.Given as goal

abbrev pub invariant-loop-formal : goal.invariant-loop-formal
invariant-loop-formal l = behind l.all (all_meant (plain_name l.texts) l.left) ≡ all_meant (plain_name l.texts) l.formals

abbrev pub decreases-loop-formal : goal.decreases-loop-formal
decreases-loop-formal l = length l.left
