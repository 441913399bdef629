use Rattle.std.proofs.Common.{◌≡◌}
use Rattle.gl_logic.specs.IsAdmissible.{recursive_calls}
use Rattle.event_world.specs.PartsOf.{is_empty}
use Rattle.event_world.proofs.EmptyCalls.{empty_from}
use Rattle.event_world.proofs.clique.have_no_calls.Given as goal

abbrev pub invariant-loop-i : goal.invariant-loop-i
invariant-loop-i l = empty_from l.first.number l.defs l.i ≡ is_empty (recursive_calls l.first.number l.defs)
