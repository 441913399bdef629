use Rattle.std.proofs.Common.{rules, ◌≡◌, Err}
use Rattle.lisp_eval.specs.declared.attempt.Stop.TheVariants as stop
use Rattle.lisp_eval.proofs.Advancing.{local_stops, local_unheld, local_entered}
use Rattle.lisp_eval.proofs.frameless.enter.Goals as goal

pub returns-in_err-value : goal.returns-in_err-value
returns-in_err-value c =
    let is : c.from_residual.result ≡ Err stop.Full = search rules in
    local_stops c.args.local.now c.args.arena.now c.enter.new.arena c.args.env.now.items c.enter.ensures.whole c.in_err-value.field-0.0 c.from_residual.result is c.in_err-value.ensures.places

pub returns-in_err-push : goal.returns-in_err-push
returns-in_err-push c =
    let answer = c.from_residual-in_err-push.result in
    let is : answer ≡ Err stop.Memory = search rules in
    local_unheld c.args.local.now c.args.arena.now c.enter.new.arena c.args.env.now.items c.enter.ensures.whole c.enter.result c.push.new.self.items answer is c.enter.ensures.places

pub returns : goal.returns
returns c =
    local_entered c.args.local.now c.args.arena.now c.enter.new.arena c.args.env.now.items c.enter.ensures.whole c.in_ok-value.value c.push.new.self.items c.in_ok-push.ensures.items c.in_ok-value.ensures.places
