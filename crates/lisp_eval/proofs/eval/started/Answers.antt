use Rattle.std.proofs.Common.{rules, ◌≡◌, ◌∙◌, ap, sym}
use Rattle.lisp_eval.specs.States.{env_of}
use Rattle.lisp_eval.proofs.Grown.{env_stable}
use Rattle.lisp_eval.proofs.eval.started.Goals as goal

pub run-requires-clause-env : goal.run-requires-clause-env
run-requires-clause-env c more =
    let items : c.in_ok-env.env.value.items ≡ c.args.env.now = search rules in
    ap (env_of _) items ∙ (env_stable c.args.arena.now.objects c.args.env.now c.requires.env more ∙ ap (env_of c.args.arena.now.objects) (sym items))
