-- A verdict has one line at least.
use Rattle.std.proofs.Common.{◌<◌, ℕ, List, length, arith}
use Rattle.gl_decide.specs.declared.verdict.Verdict.{Verdict}
use Rattle.gl_decide.specs.declared.verdict.Verdict.TheVariants as verdict
use Rattle.gl_book.specs.Lines.{verdict_lines}

pub some_of_verdict : (names : List (List ℕ)) (t : ℕ) (v : Verdict) → 0 < length (verdict_lines names t v)
some_of_verdict names t verdict.Proved = omega arith
some_of_verdict names t verdict.Vacuous = omega arith
some_of_verdict names t (verdict.Refuted env) = omega arith
some_of_verdict names t (verdict.Uncovered v) = omega arith
some_of_verdict names t (verdict.Clock part env) = omega arith
some_of_verdict names t (verdict.Width part env) = omega arith
some_of_verdict names t (verdict.Steps part env) = omega arith
some_of_verdict names t (verdict.Cells part env) = omega arith
some_of_verdict names t (verdict.Nodes s) = omega arith
some_of_verdict names t (verdict.Clauses s) = omega arith
some_of_verdict names t verdict.Memory = omega arith
