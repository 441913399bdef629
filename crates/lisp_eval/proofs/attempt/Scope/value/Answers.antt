use Rattle.std.proofs.Common.{◌∙◌, ap, sym, subst}
use Rattle.gl_logic.specs.Environment.{look}
use Rattle.hons_arena.specs.Ids.{object_at, IsLive}
use Rattle.hons_arena.specs.declared.id.Id.{Id}
use Rattle.lisp_eval.specs.Directs.{scope_env, IsLiveScope}
use Rattle.lisp_eval.specs.Outside.{value_object, IsLiveValue}
use Rattle.lisp_eval.specs.declared.attempt.Scope.{Scope}
use Rattle.lisp_eval.specs.declared.value.Value.{Value}
use Rattle.lisp_eval.proofs.Environments.{look_is}
use Rattle.lisp_eval.proofs.Locals.{local_is, local_live, binding_live}
use Rattle.lisp_eval.proofs.attempt.Scope.value.Goals as goal

pub returns-in-Outer-clause-value : goal.returns-in-Outer-clause-value
returns-in-Outer-clause-value c objects =
    c.of.ensures.value objects ∙ (ap (object_at objects) c.look.ensures ∙ (look_is objects c.in-Outer.env.now c.args.name.number ∙ ap (λ (s : Scope). look (scope_env objects s) c.args.name.number) (sym c.in-Outer.is)))

pub returns-in-Outer-clause-live : goal.returns-in-Outer-clause-live
returns-in-Outer-clause-live c objects live =
    c.of.ensures.live objects (subst (λ (i : Id). IsLive objects i) (sym c.look.ensures) (binding_live objects c.in-Outer.env.now c.args.name.number (subst (IsLiveScope objects) c.in-Outer.is live)))

pub returns-in-Inner-clause-value : goal.returns-in-Inner-clause-value
returns-in-Inner-clause-value c objects =
    ap (value_object objects) c.local_value.ensures ∙ (local_is objects c.in-Inner.locals.now c.args.name.number ∙ ap (λ (s : Scope). look (scope_env objects s) c.args.name.number) (sym c.in-Inner.is))

pub returns-in-Inner-clause-live : goal.returns-in-Inner-clause-live
returns-in-Inner-clause-live c objects live =
    subst (λ (v : Value). IsLiveValue objects v) (sym c.local_value.ensures) (local_live objects c.in-Inner.locals.now c.args.name.number (subst (IsLiveScope objects) c.in-Inner.is live))
