use Rattle.fast_alists.specs.Longer.{longer_object}
use Rattle.fast_alists.proofs.Agreeing.{tables_stay}
use Rattle.fast_alists.proofs.alists.FastAlists.acons.Goals as goal

pub returns-in_err-longer-clause-agree : goal.returns-in_err-longer-clause-agree
returns-in_err-longer-clause-agree c =
    let x = longer_object c.args.arena.now.objects c.args.key c.args.value c.args.alist in
    tables_stay x c.args.arena.now.objects c.extend.new.arena.objects c.extend.ensures.objects c.args.self.now c.requires.agree

pub go_over-requires-clause-agree : goal.go_over-requires-clause-agree
go_over-requires-clause-agree c =
    let x = longer_object c.args.arena.now.objects c.args.key c.args.value c.args.alist in
    tables_stay x c.args.arena.now.objects c.extend.new.arena.objects c.extend.ensures.objects c.args.self.now c.requires.agree
