use Rattle.std.proofs.Common.{◌≡◌, ◌∙◌, ◌+◌, ◌≤◌, ◌++◌, ap, length, arith}
use Rattle.sexp_print.proofs.Begins.{begins_behind}
use Rattle.lrat_tool.specs.Written.{entries_words, text_of}
use Rattle.lrat_tool.proofs.WrittenSteps.{all_log, entries_put, err_told}
use Rattle.lrat_tool.proofs.written.append_entries.Goals as goal

pub returns-in_err-append_entry_line-clause-err : goal.returns-in_err-append_entry_line-clause-err
returns-in_err-append_entry_line-clause-err c =
    err_told c.from_residual.result (begins_behind c.args.out.now.items c.loop-place.out.items c.append_entry_line.new.out.items _ c.loop-place.invariant c.in_err-append_entry_line.ensures.err)

pub loop-place-preserved : goal.loop-place-preserved
loop-place-preserved c =
    let le : c.args.book.now.first ≤ c.loop-place.place = omega arith in
    entries_put c.args.book.now c.loop-place.place c.entry.result.now c.args.out.now.items c.loop-place.out.items c.append_entry_line.new.out.items
    le c.entry.ensures c.loop-place.invariant c.in_ok-append_entry_line.ensures.ok

pub returns-clause-ok : goal.returns-clause-ok
returns-clause-ok c =
    let end : c.loop-place.place ≡ length c.args.book.now.entries = omega arith in
    c.loop-place.invariant ∙ ap (λ es. c.args.out.now.items ++ text_of (entries_words (c.args.book.now.first + 1) es)) (all_log c.args.book.now c.loop-place.place end)
