use Rattle.std.proofs.Common.{◌<◌, ◌∙◌, arith, sym}
use Rattle.cnf_rup.specs.Books.{first_clauses}
use Rattle.lrat_tool.proofs.WrittenSteps.{empty_at, first_at, none_more}
use Rattle.lrat_tool.proofs.written.empty_clause.Goals as goal

pub returns-then-len-eq0-clause-some : goal.returns-then-len-eq0-clause-some
returns-then-len-eq0-clause-some c =
    let lt : c.loop-place.place < c.args.book.now.first = omega arith in
    empty_at (first_clauses c.args.book.now) c.loop-place.place c.clause.result.now
    (first_at c.args.book.now c.loop-place.place c.clause.result.now lt c.clause.ensures) c.loop-place.invariant (sym c.len.ensures ∙ c.if-len-eq0.true)

pub loop-place-preserved : goal.loop-place-preserved
loop-place-preserved c =
    let lt : c.loop-place.place < c.args.book.now.first = omega arith in
    none_more (first_clauses c.args.book.now) c.loop-place.place c.clause.result.now
    (first_at c.args.book.now c.loop-place.place c.clause.result.now lt c.clause.ensures) c.loop-place.invariant (λ e. c.if-len-eq0.false (c.len.ensures ∙ e))
