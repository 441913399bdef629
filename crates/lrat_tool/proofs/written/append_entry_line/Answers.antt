use Rattle.sexp_print.proofs.Begins.{begins_put, begins_puts, begins_trans}
use Rattle.lrat_tool.proofs.WrittenSteps.{entry_put, err_told}
use Rattle.lrat_tool.proofs.written.append_entry_line.Goals as goal

pub returns-in_err-append_hints-clause-err : goal.returns-in_err-append_hints-clause-err
returns-in_err-append_hints-clause-err c =
    let start = c.args.out.now.items in
    err_told c.from_residual-in_err-append_hints.result
    (begins_trans start c.push.new.self.items c.append_hints.new.out.items
    (begins_puts start c.append_clause.new.out.items c.push.new.self.items _
    (begins_puts start c.append_number.new.out.items c.append_clause.new.out.items _ (begins_put start c.append_number.new.out.items _ c.in_ok-append_number.ensures.ok) c.in_ok-append_clause.ensures.ok)
    c.in_ok-push.ensures.items)
    c.in_err-append_hints.ensures.err)

pub returns-clause-ok : goal.returns-clause-ok
returns-clause-ok c =
    entry_put c.args.id c.args.entry.now c.args.out.now.items c.append_number.new.out.items c.append_clause.new.out.items c.push.new.self.items c.append_hints.new.out.items c.push-2.new.self.items
    c.in_ok-append_number.ensures.ok c.in_ok-append_clause.ensures.ok c.in_ok-push.ensures.items c.in_ok-append_hints.ensures.ok c.in_ok-push-2.ensures.items
