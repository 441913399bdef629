use Rattle.std.proofs.Common.{◌≡◌, length}
use Rattle.sat_core.proofs.candidate.constant_assignment.Given as goal

abbrev pub invariant-loop-k : goal.invariant-loop-k
invariant-loop-k l = length l.candidate ≡ l.width
