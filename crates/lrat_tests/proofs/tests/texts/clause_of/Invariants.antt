use Rattle.cnf_rup.specs.Literals.{IsClause}
use Rattle.lrat_tests.proofs.tests.texts.clause_of.Given as goal

abbrev pub invariant-loop-literal : goal.invariant-loop-literal
invariant-loop-literal g l = IsClause l.clause
