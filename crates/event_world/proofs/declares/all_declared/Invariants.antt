use Rattle.std.proofs.Common.{◌≡◌, length}
use Rattle.gl_logic.specs.Wording.{elements}
use Rattle.event_world.specs.Declares.{declared_pairs, all_pairs}
use Rattle.event_world.proofs.Cursors.{behind}
use Rattle.event_world.proofs.declares.all_declared.Given as goal

abbrev pub invariant-loop-form : goal.invariant-loop-form
invariant-loop-form l = behind l.all (all_pairs (λ d. declared_pairs l.texts (elements d)) l.left) ≡ all_pairs (λ d. declared_pairs l.texts (elements d)) l.forms

abbrev pub decreases-loop-form : goal.decreases-loop-form
decreases-loop-form l = length l.left
