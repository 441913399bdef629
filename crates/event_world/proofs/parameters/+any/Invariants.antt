use Rattle.std.proofs.Common.{◌≡◌, ◌*◌, ◌+◌, drop}
use Rattle.std.specs.List.{list_any}
use Rattle.gl_logic.specs.Lists.{size_of}
use Rattle.event_world.specs.CasesMeant.{has_any}
use denote.Param.Weighed.{most}
use Rattle.event_world.proofs.parameters.+any.Given as goal

abbrev pub decreases-has_any : goal.decreases-has_any
decreases-has_any l = 2 * size_of l.object.now + 1

abbrev pub decreases-have_any : goal.decreases-have_any
decreases-have_any l = 2 * most (λ y. size_of y + 1) l.objects.now

abbrev pub invariant-have_any-loop-object : goal.invariant-have_any-loop-object
invariant-have_any-loop-object l = list_any (has_any l.names) (drop l.object-index l.objects) ≡ list_any (has_any l.names) l.objects
