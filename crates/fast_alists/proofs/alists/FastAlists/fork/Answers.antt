use Rattle.std.proofs.Common.{rules, sym, subst, IsErr, IsErrOf}
use Rattle.hons_arena.specs.Ids.{object_at}
use Rattle.fast_alists.specs.declared.fault.AlistFault.TheVariants as fault
use Rattle.fast_alists.specs.Alists.{forked}
use Rattle.fast_alists.specs.Tables.{Agree}
use Rattle.fast_alists.proofs.Agreeing.{tables_stay, has_table}
use Rattle.fast_alists.proofs.Making.{makes_gone_on}
use Rattle.fast_alists.proofs.alists.FastAlists.fork.Goals as goal

pub returns-in_err-forked-clause-makes : goal.returns-in_err-forked-clause-makes
returns-in_err-forked-clause-makes c =
    let x = forked (object_at c.args.arena.now.objects c.args.alist) (object_at c.args.arena.now.objects c.args.ans) in
    let err : IsErr c.from_residual-in_err-forked.result = search rules in
    let same : IsErrOf c.from_residual-in_err-forked.result fault.Full → IsErrOf c.fork_onto.result fault.Full = λ e. search rules in
    makes_gone_on c.args.arena.now c.fork_onto.new.arena x c.fork_onto.result c.from_residual-in_err-forked.result c.fork_onto.ensures.makes err same

pub returns-in_err-forked-clause-agree : goal.returns-in_err-forked-clause-agree
returns-in_err-forked-clause-agree c =
    let x = forked (object_at c.args.arena.now.objects c.args.alist) (object_at c.args.arena.now.objects c.args.ans) in
    tables_stay x c.args.arena.now.objects c.fork_onto.new.arena.objects c.fork_onto.ensures.makes.objects c.table_for.new.self c.table_for.ensures.agree

pub returns-in_err-keep-clause-agree : goal.returns-in_err-keep-clause-agree
returns-in_err-keep-clause-agree c =
    let x = forked (object_at c.args.arena.now.objects c.args.alist) (object_at c.args.arena.now.objects c.args.ans) in
    let agree = subst (Agree c.args.arena.now.objects) (sym c.self.view_is) c.table_for.ensures.agree in
    c.keep.ensures.agree c.fork_onto.new.arena.objects c.in_ok-forked.ensures.table (tables_stay x c.args.arena.now.objects c.fork_onto.new.arena.objects c.fork_onto.ensures.makes.objects c.self.inside.tables agree)

pub returns-clause-agree : goal.returns-clause-agree
returns-clause-agree c =
    let x = forked (object_at c.args.arena.now.objects c.args.alist) (object_at c.args.arena.now.objects c.args.ans) in
    let agree = subst (Agree c.args.arena.now.objects) (sym c.self.view_is) c.table_for.ensures.agree in
    c.keep.ensures.agree c.fork_onto.new.arena.objects c.in_ok-forked.ensures.table (tables_stay x c.args.arena.now.objects c.fork_onto.new.arena.objects c.fork_onto.ensures.makes.objects c.self.inside.tables agree)

pub returns-clause-table : goal.returns-clause-table
returns-clause-table c = has_table c.self.inside.tables c.keep.new.self c.in_ok-forked.forked c.fork_onto.new.table c.in_ok-keep.ensures.sets
