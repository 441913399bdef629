use Rattle.std.proofs.Common.{◌≡◌, length}
use Rattle.sat_core.proofs.candidate.fill.Given as goal

abbrev pub invariant-loop-variable : goal.invariant-loop-variable
invariant-loop-variable l = length l.candidate ≡ length l.fn.candidate
