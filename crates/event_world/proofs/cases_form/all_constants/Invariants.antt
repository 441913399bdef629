use Rattle.std.proofs.Common.{◌≡◌, length}
use Rattle.gl_logic.specs.Wording.{all_meant}
use Rattle.event_world.specs.CasesMeant.{constant_meant}
use Rattle.event_world.proofs.Cursors.{behind}
use Rattle.event_world.proofs.cases_form.all_constants.Given as goal

abbrev pub invariant-loop-form : goal.invariant-loop-form
invariant-loop-form l = behind l.all (all_meant (constant_meant l.texts) l.left) ≡ all_meant (constant_meant l.texts) l.parts

abbrev pub decreases-loop-form : goal.decreases-loop-form
decreases-loop-form l = length l.left
