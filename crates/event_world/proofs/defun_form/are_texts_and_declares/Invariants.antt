use Rattle.std.proofs.Common.{◌≡◌, ◌||◌, length}
use Rattle.std.specs.List.{list_all}
use Rattle.event_world.specs.Declares.{is_text, is_declare}
use Rattle.event_world.proofs.defun_form.are_texts_and_declares.Given as goal

abbrev pub invariant-loop-form : goal.invariant-loop-form
invariant-loop-form l = list_all (λ x. is_text x || is_declare l.texts x) l.left ≡ list_all (λ x. is_text x || is_declare l.texts x) l.before

abbrev pub decreases-loop-form : goal.decreases-loop-form
decreases-loop-form l = length l.left
