use Rattle.std.proofs.Common.{◌≡◌, ◌*◌, ◌+◌, drop}
use Rattle.std.specs.List.{list_any}
use Rattle.gl_logic.specs.Lists.{size_of}
use Rattle.gl_logic.specs.Wording.{has_mark}
use denote.Param.Weighed.{most}
use Rattle.gl_logic.proofs.wording.+marks.Given as goal

abbrev pub decreases-has_mark : goal.decreases-has_mark
decreases-has_mark l = 2 * size_of l.object.now + 1

abbrev pub decreases-have_marks : goal.decreases-have_marks
decreases-have_marks l = 2 * most (λ y. size_of y + 1) l.objects.now

abbrev pub invariant-have_marks-loop-object : goal.invariant-have_marks-loop-object
invariant-have_marks-loop-object l = list_any has_mark (drop l.object-index l.objects) ≡ list_any has_mark l.objects
