use Rattle.std.proofs.Common.{take, All}
use Rattle.cnf_rup.specs.Books.{first_clauses}
use Rattle.cnf_rup.specs.Literals.{IsUpTo}
use Rattle.lrat_tests.proofs.tests.texts.are_small.Given as goal

abbrev pub invariant-loop-place : goal.invariant-loop-place
invariant-loop-place l = All (IsUpTo 10000000) (take l.place (first_clauses l.book))
