use Rattle.std.proofs.Common.{◌≡◌, take, false}
use Rattle.std.specs.List.{list_any}
use Rattle.cnf_rup.specs.Shown.{is_among}
use Rattle.cnf_rup.proofs.check.is_one_true.Given as goal

abbrev pub invariant-loop-literal : goal.invariant-loop-literal
invariant-loop-literal l = list_any (is_among l.trail.literals) (take l.literal-index l.clause) ≡ false
