use Rattle.cnf_rup.specs.Literals.{IsClause}
use Rattle.sat_core.proofs.propose.clause_of.Given as goal

abbrev pub invariant-loop-literal : goal.invariant-loop-literal
invariant-loop-literal l = IsClause l.clause
