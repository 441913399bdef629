use Rattle.std.proofs.Common.{rules, ◌≡◌, ◌∙◌, ap, sym, subst, refl}
use Rattle.std.specs.Prelude.{IfOk}
use Rattle.gl_logic.specs.Exp.{Exp}
use Rattle.gl_logic.specs.Exp as exp
use Rattle.gl_logic.specs.TermOf.{term_of, terms_of}
use Rattle.gl_logic.specs.declared.term.Term.{Term}
use Rattle.lisp_eval.specs.Frames as spec
use Rattle.lisp_eval.specs.Moves.{entered}
use Rattle.lisp_eval.specs.States.{env_of, IsNext}
use Rattle.lisp_eval.proofs.Environments.{next_at}
use Rattle.gl_logic.proofs.TermForms.{prim_term, call_term, let_term}
use Rattle.lisp_eval.proofs.steps.visit.Goals as goal

pub returns-in-Prim-clause-next : goal.returns-in-Prim-clause-next
returns-in-Prim-clause-next c =
    let env = c.args.env.value.items in
    let at : term_of c.args.term.now ≡ exp.Prim c.in-Prim.prim (terms_of c.in-Prim.terms.items) = ap term_of c.in-Prim.is ∙ prim_term c.in-Prim.prim c.in-Prim.terms in
    λ objects. subst (λ (t : Exp). IfOk c.begin.result (λ f. IsNext objects (entered t (env_of objects env)) c.args.frames.now.items f c.begin.new.frames.items)) (sym at)
    (next_at objects (spec.ToPrim c.in-Prim.prim) (spec.ToPrim c.in-Prim.prim) c.new.result.items c.as_slice.result.now c.in-Prim.terms.items (env_of objects env) c.args.frames.now.items c.begin.new.frames.items c.begin.result refl c.new.ensures.items c.as_slice.ensures.value (c.begin.ensures.next objects))

pub returns-in-Call-clause-next : goal.returns-in-Call-clause-next
returns-in-Call-clause-next c =
    let env = c.args.env.value.items in
    let at : term_of c.args.term.now ≡ exp.Call c.in-Call.f.number (terms_of c.in-Call.terms.items) = ap term_of c.in-Call.is ∙ call_term c.in-Call.f c.in-Call.terms in
    λ objects. subst (λ (t : Exp). IfOk c.begin-in-Call.result (λ f. IsNext objects (entered t (env_of objects env)) c.args.frames.now.items f c.begin-in-Call.new.frames.items)) (sym at)
    (next_at objects (spec.ToCall c.in-Call.f.number) (spec.ToCall c.in-Call.f.number) c.new-in-Call.result.items c.as_slice-in-Call.result.now c.in-Call.terms.items (env_of objects env) c.args.frames.now.items c.begin-in-Call.new.frames.items c.begin-in-Call.result refl c.new-in-Call.ensures.items c.as_slice-in-Call.ensures.value (c.begin-in-Call.ensures.next objects))

pub returns-in-Let-clause-next : goal.returns-in-Let-clause-next
returns-in-Let-clause-next c =
    let env = c.args.env.value.items in
    let at : term_of c.args.term.now ≡ exp.Let c.in-Let.names (terms_of c.in-Let.terms.items) (term_of c.in-Let.body.value) = ap term_of c.in-Let.is ∙ let_term c.in-Let.names c.in-Let.terms c.in-Let.body in
    let body : c.deref-in-Let.result.now ≡ c.in-Let.body.value = search rules in
    λ objects. subst (λ (t : Exp). IfOk c.begin-in-Let.result (λ f. IsNext objects (entered t (env_of objects env)) c.args.frames.now.items f c.begin-in-Let.new.frames.items)) (sym at)
    (next_at objects (spec.ToLet c.in-Let.names (term_of c.deref-in-Let.result.now) (env_of objects env)) (spec.ToLet c.in-Let.names (term_of c.in-Let.body.value) (env_of objects env)) c.new-in-Let.result.items c.as_slice-in-Let.result.now c.in-Let.terms.items (env_of objects env) c.args.frames.now.items c.begin-in-Let.new.frames.items c.begin-in-Let.result
    (ap (λ (t : Term). spec.ToLet c.in-Let.names (term_of t) (env_of objects env)) body) c.new-in-Let.ensures.items c.as_slice-in-Let.ensures.value (c.begin-in-Let.ensures.next objects))
