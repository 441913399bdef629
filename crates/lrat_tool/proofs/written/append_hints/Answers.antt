use Rattle.std.proofs.Common.{[], ◌∷◌, ◌++◌, get_or}
use Rattle.std.specs.Fmt.{decimal}
use Rattle.std.proofs.lemmas.Option.{slice_get-get_or}
use Rattle.sexp_print.proofs.Begins.{begins_behind}
use Rattle.lrat_tool.proofs.WrittenSteps.{err_told, numbers_end, put_more}
use Rattle.lrat_tool.proofs.written.append_hints.Goals as goal

pub returns-in_err-append_number-clause-err : goal.returns-in_err-append_number-clause-err
returns-in_err-append_number-clause-err c =
    err_told c.from_residual.result (begins_behind c.args.out.now.items c.loop-hint.out.items c.append_number.new.out.items _ c.loop-hint.invariant c.in_err-append_number.ensures.err)

pub loop-hint-preserved : goal.loop-hint-preserved
loop-hint-preserved c =
    let items = c.as_slice-hint-items.result.now in
    let i = c.loop-hint.hint-index in
    put_more (λ x. decimal x ++ 32 ∷ []) items i (get_or items i 0) c.args.out.now.items c.loop-hint.out.items c.append_number.new.out.items
    (slice_get-get_or items i 0 c.loop-hint-test.true) c.loop-hint.invariant c.in_ok-append_number.ensures.ok

pub returns-clause-ok : goal.returns-clause-ok
returns-clause-ok c =
    numbers_end decimal c.as_slice-hint-items.result.now c.args.hints.now c.loop-hint.hint-index c.args.out.now.items c.loop-hint.out.items c.push.new.self.items
    c.loop-hint-test.false c.as_slice-hint-items.ensures.same c.loop-hint.invariant c.in_ok-push.ensures.items
