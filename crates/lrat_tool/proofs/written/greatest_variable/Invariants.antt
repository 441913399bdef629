use Rattle.std.proofs.Common.{◌≡◌, take}
use Rattle.cnf_rup.specs.Books.{first_clauses}
use Rattle.lrat_tool.specs.Written.{greatest_variable}
use Rattle.lrat_tool.proofs.written.greatest_variable.Given as goal

abbrev pub invariant-loop-place : goal.invariant-loop-place
invariant-loop-place l = l.most ≡ greatest_variable (take l.place (first_clauses l.book))
