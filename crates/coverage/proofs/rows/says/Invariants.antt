use Rattle.std.proofs.Common.{◌≡◌, drop, map}
use Rattle.std.specs.List.{list_any}
use Rattle.gl_logic.specs.TermOf.{term_of}
use Rattle.coverage.specs.Heads.{row_of, subject_of}
use Rattle.coverage.proofs.rows.says.Given as goal

abbrev pub invariant-loop-term : goal.invariant-loop-term
invariant-loop-term l = list_any (row_of l.row (subject_of l.subject)) (map (λ t. term_of t.now) (drop l.term-index l.said)) ≡ list_any (row_of l.row (subject_of l.subject)) (map (λ t. term_of t.now) l.said)
