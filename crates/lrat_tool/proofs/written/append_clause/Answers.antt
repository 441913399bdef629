use Rattle.std.proofs.Common.{◌≡◌, ◌++◌, ◌∷◌, [], get_or, pos, rules, to_z-of_z, FitsSigned, w32}
use Rattle.std.specs.Fmt.{signed_decimal}
use Rattle.std.proofs.lemmas.Option.{slice_get-get_or}
use Rattle.sexp_print.proofs.Begins.{begins_behind}
use Rattle.lrat_tool.proofs.WrittenSteps.{err_told, numbers_end, put_more}
use Rattle.lrat_tool.proofs.written.append_clause.Goals as goal

pub returns-in_err-append_number-clause-err : goal.returns-in_err-append_number-clause-err
returns-in_err-append_number-clause-err c =
    err_told c.from_residual.result (begins_behind c.args.out.now.items c.loop-literal.out.items c.append_number.new.out.items _ c.loop-literal.invariant c.in_err-append_number.ensures.err)

pub loop-literal-preserved : goal.loop-literal-preserved
loop-literal-preserved c =
    let literal = get_or c.as_slice-literal-items.result.now c.loop-literal.literal-index (pos 0) in
    let fits : FitsSigned w32 literal = search rules in
    let ok : c.append_number.new.out.items ≡ c.loop-literal.out.items ++ (signed_decimal literal ++ 32 ∷ []) = simp to_z-of_z at c.in_ok-append_number.ensures.ok in
    put_more (λ x. signed_decimal x ++ 32 ∷ []) c.as_slice-literal-items.result.now c.loop-literal.literal-index literal c.args.out.now.items c.loop-literal.out.items c.append_number.new.out.items
    (slice_get-get_or c.as_slice-literal-items.result.now c.loop-literal.literal-index (pos 0) c.loop-literal-test.true) c.loop-literal.invariant ok

pub returns-clause-ok : goal.returns-clause-ok
returns-clause-ok c =
    numbers_end signed_decimal c.as_slice-literal-items.result.now c.args.clause.now c.loop-literal.literal-index c.args.out.now.items c.loop-literal.out.items c.push.new.self.items
    c.loop-literal-test.false c.as_slice-literal-items.ensures c.loop-literal.invariant c.in_ok-push.ensures.items
