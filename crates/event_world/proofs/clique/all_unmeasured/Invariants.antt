use Rattle.std.proofs.Common.{◌≡◌, map, take}
use Rattle.event_world.specs.CliqueMeant.{unmeasured}
use Rattle.event_world.proofs.clique.all_unmeasured.Given as goal

abbrev pub invariant-loop-i : goal.invariant-loop-i
invariant-loop-i l = l.all ≡ map unmeasured (take l.i l.defs)
