use Rattle.std.proofs.Common.{◌≡◌, map, take}
use Rattle.event_world.proofs.parameters.variables.Given as goal

abbrev pub invariant-loop-i : goal.invariant-loop-i
invariant-loop-i l = l.all ≡ map (λ p. p.0) (take l.i l.constants)
