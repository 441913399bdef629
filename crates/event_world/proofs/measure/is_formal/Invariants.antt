use Rattle.std.proofs.Common.{◌≡◌, length}
use Rattle.gl_logic.specs.Object.{Symbol}
use Rattle.event_world.specs.MeasureMeant.{is_formal}
use Rattle.event_world.proofs.measure.is_formal.Given as goal

abbrev pub invariant-loop-formal : goal.invariant-loop-formal
invariant-loop-formal l = is_formal l.left (Symbol l.name.number) ≡ is_formal l.formals (Symbol l.name.number)

abbrev pub decreases-loop-formal : goal.decreases-loop-formal
decreases-loop-formal l = length l.left
