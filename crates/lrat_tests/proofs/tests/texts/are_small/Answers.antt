use Rattle.std.proofs.Common.{◌<◌, sym, subst, take, arith, All}
use Rattle.std.proofs.lemmas.List.Elements.{All-push}
use Rattle.cnf_rup.specs.Books.{first_clauses}
use Rattle.cnf_rup.specs.Literals.{IsUpTo}
use Rattle.lrat_tool.proofs.WrittenSteps.{first_at, take_one}
use Rattle.lrat_tests.proofs.tests.texts.are_small.Goals as goal

pub loop-place-preserved : goal.loop-place-preserved
loop-place-preserved c =
    let clauses = first_clauses c.args.book.now in
    let lt : c.loop-place.place < c.args.book.now.first = omega arith in
    subst (All (IsUpTo 10000000)) (sym (take_one clauses c.loop-place.place c.clause.result.now (first_at c.args.book.now c.loop-place.place c.clause.result.now lt c.clause.ensures)))
    (All-push (IsUpTo 10000000) (take c.loop-place.place clauses) c.clause.result.now c.loop-place.invariant (c.is_small.ensures c.if-not-is_small.false))
