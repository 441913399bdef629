use Rattle.std.proofs.Common.{◌≡◌, ◌++◌, take}
use Rattle.std.specs.List.{flat_map}
use Rattle.cnf_rup.specs.Books.{first_clauses}
use Rattle.lrat_tool.specs.Written.{clause_words, line_of}
use Rattle.lrat_tool.proofs.written.append_clauses.Given as goal

abbrev pub invariant-loop-place : goal.invariant-loop-place
invariant-loop-place l = l.out.items ≡ l.fn.out.items ++ flat_map (λ c. line_of (clause_words c)) (take l.place (first_clauses l.book))
