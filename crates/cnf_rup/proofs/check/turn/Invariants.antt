use Rattle.std.proofs.Common.{◌≡◌}
use Rattle.cnf_rup.specs.Shown.{turn_of}
use Rattle.cnf_rup.proofs.Turns.{IsOpen, rest_turn}
use Rattle.cnf_rup.proofs.check.turn.Given as goal

abbrev pub invariant-loop-literal : goal.invariant-loop-literal
invariant-loop-literal l = record {
  rest : rest_turn l.trail.literals l.clause l.free l.literal-index ≡ turn_of l.trail.literals l.clause;
  free : IsOpen l.trail.literals l.free;
}
