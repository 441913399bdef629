use Rattle.std.proofs.Common.{rules, arith, ◌≡◌, ◌∙◌, ap, sym, subst, refl, true, false, ◌-◌, Ok, Err, List}
use Rattle.gl_logic.specs.DefinitionOf.{definition_of}
use Rattle.gl_logic.specs.TermOf.{term_of, terms_of}
use Rattle.gl_logic.specs.declared.term.Term.{Term}
use Rattle.lisp_eval.specs.Frameless.{BindsFound}
use Rattle.lisp_eval.specs.Directs.{scope_env}
use Rattle.lisp_eval.proofs.Advancing.{Told, told, test_stops, test_goes, arguments_stop, arguments_go}
use Rattle.gl_logic.proofs.TermForms.{if_term, call_term}
use Rattle.lisp_eval.proofs.frameless.take_step.Goals as goal

pub returns-in_err-found-in-If-clause-tells : goal.returns-in_err-found-in-If-clause-tells
returns-in_err-found-in-If-clause-tells c =
    let ds = c.args.setting.now.world.now.definitions in
    let fs = c.args.setting.now.functions.now in
    let old = c.args.arena.now in
    let env = scope_env old.objects c.args.scope.now in
    let i = c.in-If in
    let e = c.in_err-found-in-If.field-0.0 in
    let here : c.deref.result.now ≡ i.test.value = search rules in
    let is : c.from_residual.result ≡ Err e = search rules in
    test_stops ds fs env (term_of c.args.term.now) (term_of i.test.value) (term_of i.then.value) (term_of i.otherwise.value) (ap term_of i.is ∙ if_term i.test i.then i.otherwise) c.args.left old c.test_value.new.arena c.args.next.now.items
    e c.from_residual.result is (subst (λ (u : Term). Told ds fs env (term_of u) (c.args.left - 1) old c.test_value.new.arena (Err e)) here (told c.in_err-found-in-If.ensures))

pub returns-then-is_nil-clause-tells : goal.returns-then-is_nil-clause-tells
returns-then-is_nil-clause-tells c =
    let ds = c.args.setting.now.world.now.definitions in
    let fs = c.args.setting.now.functions.now in
    let old = c.args.arena.now in
    let env = scope_env old.objects c.args.scope.now in
    let i = c.in-If in
    let f = c.in_ok-found-in-If.found in
    let here : c.deref.result.now ≡ i.test.value = search rules in
    let part : c.deref-then-is_nil.result.now ≡ i.otherwise.value = search rules in
    test_goes ds fs env (term_of c.args.term.now) (term_of i.test.value) (term_of i.then.value) (term_of i.otherwise.value) (ap term_of i.is ∙ if_term i.test i.then i.otherwise) c.args.left old c.test_value.new.arena c.args.next.now.items
    f true c.deref-then-is_nil.result (subst (λ (u : Term). Told ds fs env (term_of u) (c.args.left - 1) old c.test_value.new.arena (Ok f)) here (told c.in_ok-found-in-If.ensures)) (sym c.is_nil.ensures ∙ c.if-is_nil.true) (ap term_of part)

pub returns-else-is_nil-clause-tells : goal.returns-else-is_nil-clause-tells
returns-else-is_nil-clause-tells c =
    let ds = c.args.setting.now.world.now.definitions in
    let fs = c.args.setting.now.functions.now in
    let old = c.args.arena.now in
    let env = scope_env old.objects c.args.scope.now in
    let i = c.in-If in
    let f = c.in_ok-found-in-If.found in
    let here : c.deref.result.now ≡ i.test.value = search rules in
    let part : c.deref-else-is_nil.result.now ≡ i.then.value = search rules in
    test_goes ds fs env (term_of c.args.term.now) (term_of i.test.value) (term_of i.then.value) (term_of i.otherwise.value) (ap term_of i.is ∙ if_term i.test i.then i.otherwise) c.args.left old c.test_value.new.arena c.args.next.now.items
    f false c.deref-else-is_nil.result (subst (λ (u : Term). Told ds fs env (term_of u) (c.args.left - 1) old c.test_value.new.arena (Ok f)) here (told c.in_ok-found-in-If.ensures)) (sym c.is_nil.ensures ∙ c.if-is_nil.false) (ap term_of part)

pub bind_found-requires-clause-count : goal.bind_found-requires-clause-count
bind_found-requires-clause-count c =
    let opens = c.goes_into.ensures c.if-not-goes_into.false in
    omega (arith, opens.formals (definition_of c.def-def.result.now) c.def-def.ensures.found, c.as_slice.ensures.len, c.as_slice-in-Call.ensures.len)

pub returns-in_err-rest-in-Call-clause-tells : goal.returns-in_err-rest-in-Call-clause-tells
returns-in_err-rest-in-Call-clause-tells c =
    let ds = c.args.setting.now.world.now.definitions in
    let fs = c.args.setting.now.functions.now in
    let old = c.args.arena.now in
    let new = c.bind_found.new.arena in
    let env = scope_env old.objects c.args.scope.now in
    let names = c.def-def.result.now.formals in
    let i = c.in-Call in
    let e = c.in_err-rest-in-Call.field-0.0 in
    let is : c.from_residual-in_err-rest-in-Call.result ≡ Err e = search rules in
    arguments_stop ds fs env (term_of c.args.term.now) i.f.number (terms_of i.terms.items) (ap term_of i.is ∙ call_term i.f i.terms) c.args.left old new names c.clear.new.self.items c.bind_found.new.next.items
    e c.from_residual-in_err-rest-in-Call.result is (subst (λ (us : List Term). BindsFound ds fs env names (terms_of us) (c.args.left - 1) old new c.clear.new.self.items c.bind_found.new.next.items (Err e)) c.as_slice-in-Call.ensures.value c.in_err-rest-in-Call.ensures.tells)

pub returns-in_ok-rest-in-Call-clause-tells : goal.returns-in_ok-rest-in-Call-clause-tells
returns-in_ok-rest-in-Call-clause-tells c =
    let ds = c.args.setting.now.world.now.definitions in
    let fs = c.args.setting.now.functions.now in
    let old = c.args.arena.now in
    let new = c.bind_found.new.arena in
    let env = scope_env old.objects c.args.scope.now in
    let d = definition_of c.def-def.result.now in
    let names = d.formals in
    let i = c.in-Call in
    let opens = (c.goes_into.ensures c.if-not-goes_into.false).opens in
    let rest = c.in_ok-rest-in-Call.rest in
    arguments_go ds fs env (term_of c.args.term.now) i.f.number (terms_of i.terms.items) (ap term_of i.is ∙ call_term i.f i.terms) c.args.left old new names c.clear.new.self.items c.bind_found.new.next.items
    d opens c.def-def.ensures.found c.clear.ensures.items refl (omega (arith, c.if-left-eq0.false)) rest _ refl
    (subst (λ (us : List Term). BindsFound ds fs env names (terms_of us) (c.args.left - 1) old new c.clear.new.self.items c.bind_found.new.next.items (Ok rest)) c.as_slice-in-Call.ensures.value c.in_ok-rest-in-Call.ensures.tells)
