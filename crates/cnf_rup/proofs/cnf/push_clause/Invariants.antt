use Rattle.std.proofs.Common.{◌≡◌, take}
use Rattle.cnf_rup.proofs.cnf.push_clause.Given as goal

abbrev pub invariant-loop-literal : goal.invariant-loop-literal
invariant-loop-literal l = l.clause ≡ take l.literal-index l.literals
