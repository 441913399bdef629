use Rattle.std.proofs.Common.{◌≡◌, take, false}
use Rattle.std.specs.List.{list_any}
use Rattle.cnf_rup.specs.Books.{first_clauses, is_empty}
use Rattle.lrat_tool.proofs.written.empty_clause.Given as goal

abbrev pub invariant-loop-place : goal.invariant-loop-place
invariant-loop-place l = list_any is_empty (take l.place (first_clauses l.book)) ≡ false
