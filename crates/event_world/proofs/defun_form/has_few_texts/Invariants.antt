use Rattle.std.proofs.Common.{◌≡◌, ◌+◌, cond, leb, length}
use Rattle.event_world.specs.DefunMeant.{texts_in}
use Rattle.event_world.proofs.defun_form.has_few_texts.Given as goal

abbrev pub invariant-loop-form : goal.invariant-loop-form
invariant-loop-form l = leb (cond l.found 1 0 + texts_in l.left) 1 ≡ leb (texts_in l.before) 1

abbrev pub decreases-loop-form : goal.decreases-loop-form
decreases-loop-form l = length l.left
