use Rattle.std.proofs.Common.{sym, subst, ◌++◌}
use Rattle.std.specs.Prelude.{IfOk}
use Rattle.gl_logic.specs.TermOf.{terms_of}
use Rattle.hons_arena.specs.Ids.{object_at}
use Rattle.lisp_eval.specs.Moves.{handed}
use Rattle.lisp_eval.specs.States.{env_of, work_of, frame_of, IsNext}
use Rattle.lisp_eval.specs.declared.frame.Frame.{Frame}
use Rattle.lisp_eval.proofs.Environments.{argument_next, stays_at}
use Rattle.lisp_eval.proofs.steps.hand.Goals as goal

pub returns-in-Arguments-clause-next : goal.returns-in-Arguments-clause-next
returns-in-Arguments-clause-next c more =
    let objects = c.args.arena.now.objects ++ more in
    let v = object_at c.args.arena.now.objects c.args.value in
    let env = env_of objects c.in-Arguments.env.value.items in
    subst (λ (g : Frame). IfOk c.begin.result (λ f. IsNext objects (handed (frame_of objects g) v) c.args.frames.now.items f c.begin.new.frames.items)) (sym c.in-Arguments.is)
    (argument_next objects (work_of env c.in-Arguments.work) c.in-Arguments.done.items c.push.new.self.items c.args.value v (terms_of c.in-Arguments.terms.now) env c.args.frames.now.items c.begin.new.frames.items c.begin.result
    c.in_ok-push-in-Arguments.ensures.ok (stays_at c.args.arena.now.objects more c.args.value c.requires.live) (c.begin.ensures.next objects))
