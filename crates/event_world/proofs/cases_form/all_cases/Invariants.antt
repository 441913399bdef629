use Rattle.std.proofs.Common.{◌≡◌, map, length}
use Rattle.gl_logic.specs.Wording.{all_meant}
use Rattle.event_world.specs.CasesMeant.{case_meant}
use Rattle.event_world.specs.FormsSeen.{case_form_seen}
use Rattle.event_world.proofs.Cursors.{behind}
use Rattle.event_world.proofs.cases_form.all_cases.Given as goal

abbrev pub invariant-loop-form : goal.invariant-loop-form
invariant-loop-form l = behind (map case_form_seen l.all.items) (all_meant (case_meant l.texts) l.left) ≡ all_meant (case_meant l.texts) l.parts

abbrev pub decreases-loop-form : goal.decreases-loop-form
decreases-loop-form l = length l.left
