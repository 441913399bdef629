use Rattle.std.proofs.Common.{arith, ◌∙◌, ap, ◌++◌}
use Rattle.lisp_eval.proofs.Environments.{bind_next, bind_all}
use Rattle.lisp_eval.proofs.bindings.bind.Goals as goal

pub loop-i-preserved : goal.loop-i-preserved
loop-i-preserved c =
    bind_next c.args.names.now c.args.values.now c.loop-i.i c.loop-i.all.items c.push.new.self.items c.at.result.now c.id_at.result (omega (arith, c.loop-i-test.true, c.len-i-end.ensures)) c.loop-i.invariant c.in_ok-push.ensures.items c.at.ensures c.id_at.ensures

pub returns : goal.returns
returns c =
    let all = bind_all c.args.names.now c.args.values.now c.loop-i.i c.loop-i.all.items (omega (arith, c.loop-i-test.false, c.loop-i.auto.i-end, c.len-i-end.ensures)) c.loop-i.invariant in
    c.in_ok-extend_from_slice.ensures.items ∙ ap (λ bs. bs ++ c.args.outer.now) all
