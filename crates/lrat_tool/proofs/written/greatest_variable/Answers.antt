use Rattle.std.proofs.Common.{◌≡◌, ◌<◌, ◌∙◌, ap, sym, arith, take}
use Rattle.std.specs.Prelude.{max}
use Rattle.cnf_rup.specs.Books.{first_clauses}
use Rattle.lrat_tool.specs.Written.{greatest_variable}
use Rattle.lrat_tool.proofs.WrittenSteps.{first_at, max_is, variable_more}
use Rattle.lrat_tool.proofs.written.greatest_variable.Goals as goal

pub loop-place-preserved : goal.loop-place-preserved
loop-place-preserved c =
    let clauses = first_clauses c.args.book.now in
    let i = c.loop-place.place in
    let lt : c.loop-place.place < c.args.book.now.first = omega arith in
    let before : c.loop-place.most ≡ greatest_variable (take i clauses) = c.loop-place.invariant in
    c.max-most.ensures ∙ max_is c.loop-place.most c.greatest_of.result
    ∙ ap (λ n. max n c.greatest_of.result) before ∙ ap (λ n. max (greatest_variable (take i clauses)) n) c.greatest_of.ensures
    ∙ sym (variable_more clauses i c.clause.result.now (first_at c.args.book.now i c.clause.result.now lt c.clause.ensures))
