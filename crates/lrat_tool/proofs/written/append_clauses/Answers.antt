use Rattle.std.proofs.Common.{◌<◌, ◌≤◌, arith, length}
use Rattle.cnf_rup.specs.Books.{first_clauses}
use Rattle.sexp_print.proofs.Begins.{begins_behind}
use Rattle.lrat_tool.specs.Written.{clause_words, line_of}
use Rattle.lrat_tool.proofs.WrittenSteps.{clauses_end, err_told, first_at, first_short, put_more}
use Rattle.lrat_tool.proofs.written.append_clauses.Goals as goal

pub returns-in_err-append_clause_line-clause-err : goal.returns-in_err-append_clause_line-clause-err
returns-in_err-append_clause_line-clause-err c =
    err_told c.from_residual.result (begins_behind c.args.out.now.items c.loop-place.out.items c.append_clause_line.new.out.items _ c.loop-place.invariant c.in_err-append_clause_line.ensures.err)

pub loop-place-preserved : goal.loop-place-preserved
loop-place-preserved c =
    let lt : c.loop-place.place < c.args.book.now.first = omega arith in
    put_more (λ x. line_of (clause_words x)) (first_clauses c.args.book.now) c.loop-place.place c.clause.result.now c.args.out.now.items c.loop-place.out.items c.append_clause_line.new.out.items
    (first_at c.args.book.now c.loop-place.place c.clause.result.now lt c.clause.ensures) c.loop-place.invariant c.in_ok-append_clause_line.ensures.ok

pub returns-clause-ok : goal.returns-clause-ok
returns-clause-ok c =
    let le : length (first_clauses c.args.book.now) ≤ c.loop-place.place = omega (arith, first_short c.args.book.now) in
    clauses_end (first_clauses c.args.book.now) c.loop-place.place c.args.out.now.items c.loop-place.out.items le c.loop-place.invariant
