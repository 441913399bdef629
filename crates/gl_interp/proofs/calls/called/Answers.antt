use Rattle.std.proofs.Common.{◌∙◌, ap, sym, subst, false, length}
use Rattle.std.proofs.lemmas.List.{length-map}
use Rattle.gl_logic.specs.Evaluate.{HasValue}
use Rattle.gl_logic.specs.Exp.{Exp}
use Rattle.gl_logic.specs.IsTermOf.{IsTermOf}
use Rattle.gl_logic.specs.TermOf.{term_of}
use Rattle.hons_arena.specs.Held.{Held}
use Rattle.hons_arena.specs.Ids.{object_at}
use Rattle.lisp_eval.specs.States.{env_of}
use Rattle.sym_objects.specs.Seen.{stands_for}
use Rattle.gl_interp.specs.Calls.{values_under}
use Rattle.gl_interp.specs.Placed.{variable_call}
use Rattle.gl_interp.proofs.Calling.{cause_of_eval, cause_of_placing, is_call, value_of_eval}
use Rattle.gl_interp.proofs.calls.called.Goals as goal

pub eval-requires-clause-fits : goal.eval-requires-clause-fits
eval-requires-clause-fits g c = c.in-Ok.ensures.fits c.args.world.now c.requires.fits

pub eval-requires-clause-term : goal.eval-requires-clause-term
eval-requires-clause-term g c = subst (λ (t : Exp). IsTermOf c.args.world.now.definitions t) (sym c.in-Ok-call_of_variables.ensures) (is_call c.args.world.now.definitions c.args.f.number (length c.args.args.now) c.requires.arity)

pub eval-requires-clause-env : goal.eval-requires-clause-env
eval-requires-clause-env g c = (c.in-Ok.ensures.placed (λ k. false)).live

pub returns-in-Err-clause-cause : goal.returns-in-Err-clause-cause
returns-in-Err-clause-cause g c a = cause_of_placing c.args.world.now c.args.machine.now c.args.f.number (values_under g.B.Meaning c.args.objs.now c.args.args.now a) c.in-Err.fault (c.in-Err.ensures.cause a)

pub returns-in-Err-eval-clause-cause : goal.returns-in-Err-eval-clause-cause
returns-in-Err-eval-clause-cause g c a =
    cause_of_eval c.args.world.now c.args.machine.now c.args.f.number (values_under g.B.Meaning c.args.objs.now c.args.args.now a) c.place.new.machine c.in-Ok.env (term_of c.in-Ok-call_of_variables.term) c.eval.result c.in-Err-eval.fault
    (c.in-Ok.ensures.placed a) c.in-Ok.ensures.grows.settings
    (c.in-Ok-call_of_variables.ensures ∙ ap (variable_call c.args.f.number) (sym (length-map c.args.args.now (λ x. stands_for g.B.Meaning c.args.objs.now x a)))) c.eval.ensures.fault c.in-Err-eval.is

pub returns-in-Ok-constant-clause-value : goal.returns-in-Ok-constant-clause-value
returns-in-Ok-constant-clause-value g c a =
    let ds = c.args.world.now.definitions in
    let env = env_of c.place.new.machine.arena.objects c.in-Ok.env in
    let t = term_of c.in-Ok-call_of_variables.term in
    value_of_eval ds c.args.f.number (values_under g.B.Meaning c.args.objs.now c.args.args.now a) env t _ (c.in-Ok.ensures.placed a).stands
    (c.in-Ok-call_of_variables.ensures ∙ ap (variable_call c.args.f.number) (sym (length-map c.args.args.now (λ x. stands_for g.B.Meaning c.args.objs.now x a))))
    (subst (λ y. HasValue ds env t y) (sym (c.in-Ok-constant.ensures.makes.means a ∙ ap (λ (h : Held). object_at h.objects c.in-Ok-eval.id) c.arena.ensures)) c.in-Ok-eval.ensures.value.value)
