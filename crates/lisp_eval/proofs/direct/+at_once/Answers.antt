use Rattle.std.proofs.Common.{rules, arith, ◌≡◌, ◌∙◌, ap, sym, subst, refl, true, false, [], ◌∷◌, ◌+◌, ◌-◌, List, Some, get_or, slice_get, length, ℕ, IsErr, Ok}
use Rattle.std.specs.Prelude.{IsErrOf}
use Rattle.gl_logic.proofs.Worlds.{world_ground}
use Rattle.gl_logic.specs.Counts.{is_among}
use Rattle.gl_logic.specs.DefinitionOf.{definition_of}
use Rattle.gl_logic.specs.Environment.{extended}
use Rattle.gl_logic.specs.Exp.{Call}
use Rattle.gl_logic.specs.Object.{Object, boolean_object, nil}
use Rattle.gl_logic.specs.TermOf.{term_of, terms_of}
use Rattle.gl_logic.specs.declared.term.Term.{Term}
use Rattle.lisp_eval.specs.Attempts.{Tells, TellsAll}
use Rattle.lisp_eval.specs.Directs.{scope_env}
use Rattle.lisp_eval.specs.Outside.{value_object}
use Rattle.lisp_eval.specs.Sights.{Sees}
use Rattle.lisp_eval.specs.Tables.{answered_in}
use Rattle.lisp_eval.specs.declared.attempt.Stop.TheVariants as stop
use Rattle.lisp_eval.specs.declared.value.Value.{Value}
use Rattle.lisp_eval.specs.declared.value.Value.TheVariants as value
use Rattle.lisp_eval.proofs.Attempting.{beyond_tells, beyond_tell_all, const_tells, tells_found, test_refused, branch_tells, first_refused, second_refused, third_refused, one_tells, two_tell, three_tell, operand_refused, unary_refused, unary_tells, second_operand_refused, binary_refused, binary_tells, call_refused, call_tells, answered_tells, call_same}
use Rattle.lisp_eval.proofs.DirectFound.{found_var, first_term, second_term, one_term, two_terms, three_terms, one_bound, two_bound}
use Rattle.lisp_eval.proofs.Entering.{scope_grown, tables_on}
use Rattle.gl_logic.proofs.CellCounts.{at_index}
use Rattle.lisp_eval.proofs.Sights.{adds_none}
use Rattle.lisp_eval.proofs.ZeroTells.{argument_refused, zero_refused, zero_tells}
use Rattle.gl_logic.proofs.TermForms.{var_term, const_term, if_term, call_term}
use Rattle.lisp_eval.proofs.direct.+at_once.Goals as goal

-- NIL, where there is no argument
abbrev nothing : Value
nothing = value.Symbol (record { number = 0 })

pub branch-returns-in_err-found-in-If : goal.branch-returns-in_err-found-in-If
branch-returns-in_err-found-in-If t c =
    let env = scope_env c.args.arena.now.objects c.args.scope.now in
    let here : c.deref.result.now ≡ c.in-If.test.value = search rules in
    let refused : IsErr c.from_residual.result = search rules in
    let full : IsErrOf c.from_residual.result stop.Full → IsErrOf c.at_once.result stop.Full = λ e. search rules in
    let test = subst (λ (u : Term). Tells c.args.setting.now.world.now.definitions c.args.setting.now.functions.now env (term_of u) (c.args.left - 1) c.args.arena.now c.at_once.new.arena c.at_once.new.alists c.at_once.result) here c.at_once.ensures in
    test_refused c.args.setting.now.world.now.definitions c.args.setting.now.functions.now env (term_of c.args.term.now) (term_of c.in-If.test.value) (term_of c.in-If.then.value) (term_of c.in-If.otherwise.value) c.args.left c.args.arena.now c.at_once.new.arena c.at_once.new.alists c.from_residual.result
    (ap term_of c.in-If.is ∙ if_term c.in-If.test c.in-If.then c.in-If.otherwise) refused test.adds test.agree (λ e. test.lacks (full e))

pub branch-at_once-requires-then-is_nil : goal.branch-at_once-requires-then-is_nil
branch-at_once-requires-then-is_nil t c =
    let old = c.args.arena.now in
    let mid = c.at_once.new.arena in
    (search rules, (c.at_once.ensures.adds.whole, ((scope_grown old.objects mid.objects c.at_once.ensures.adds.grown c.args.scope.now c.requires.scope).0, c.at_once.ensures.agree)))

pub branch-at_once-requires-else-is_nil : goal.branch-at_once-requires-else-is_nil
branch-at_once-requires-else-is_nil t c =
    let old = c.args.arena.now in
    let mid = c.at_once.new.arena in
    (search rules, (c.at_once.ensures.adds.whole, ((scope_grown old.objects mid.objects c.at_once.ensures.adds.grown c.args.scope.now c.requires.scope).0, c.at_once.ensures.agree)))

pub branch-returns-then-is_nil : goal.branch-returns-then-is_nil
branch-returns-then-is_nil t c =
    let ds = c.args.setting.now.world.now.definitions in
    let fs = c.args.setting.now.functions.now in
    let old = c.args.arena.now in
    let mid = c.at_once.new.arena in
    let new = c.at_once-then-is_nil.new.arena in
    let env = scope_env old.objects c.args.scope.now in
    let found = c.in_ok-found-in-If.found in
    let here : c.deref.result.now ≡ c.in-If.test.value = search rules in
    let part : c.deref-then-is_nil.result.now ≡ c.in-If.otherwise.value = search rules in
    let test = subst (λ (u : Term). Tells ds fs env (term_of u) (c.args.left - 1) old mid c.at_once.new.alists (Ok found)) here c.in_ok-found-in-If.ensures in
    let same = (scope_grown old.objects mid.objects test.adds.grown c.args.scope.now c.requires.scope).1 in
    let branch = subst (λ (u : Term). Tells ds fs env (term_of u) found.left mid new c.at_once-then-is_nil.new.alists c.at_once-then-is_nil.result) part (subst (λ (e : List (ℕ × _)). Tells ds fs e (term_of c.deref-then-is_nil.result.now) found.left mid new c.at_once-then-is_nil.new.alists c.at_once-then-is_nil.result) same c.at_once-then-is_nil.ensures) in
    branch_tells ds fs env (term_of c.args.term.now) (term_of c.in-If.test.value) (term_of c.in-If.then.value) (term_of c.in-If.otherwise.value) c.args.left old mid new c.at_once-then-is_nil.new.alists found true c.at_once-then-is_nil.result (λ z. omega (arith, z, c.requires.left))
    (ap term_of c.in-If.is ∙ if_term c.in-If.test c.in-If.then c.in-If.otherwise) test.adds test.found (sym c.is_nil.ensures ∙ c.if-is_nil.true) branch

pub branch-returns-else-is_nil : goal.branch-returns-else-is_nil
branch-returns-else-is_nil t c =
    let ds = c.args.setting.now.world.now.definitions in
    let fs = c.args.setting.now.functions.now in
    let old = c.args.arena.now in
    let mid = c.at_once.new.arena in
    let new = c.at_once-else-is_nil.new.arena in
    let env = scope_env old.objects c.args.scope.now in
    let found = c.in_ok-found-in-If.found in
    let here : c.deref.result.now ≡ c.in-If.test.value = search rules in
    let part : c.deref-else-is_nil.result.now ≡ c.in-If.then.value = search rules in
    let test = subst (λ (u : Term). Tells ds fs env (term_of u) (c.args.left - 1) old mid c.at_once.new.alists (Ok found)) here c.in_ok-found-in-If.ensures in
    let same = (scope_grown old.objects mid.objects test.adds.grown c.args.scope.now c.requires.scope).1 in
    let branch = subst (λ (u : Term). Tells ds fs env (term_of u) found.left mid new c.at_once-else-is_nil.new.alists c.at_once-else-is_nil.result) part (subst (λ (e : List (ℕ × _)). Tells ds fs e (term_of c.deref-else-is_nil.result.now) found.left mid new c.at_once-else-is_nil.new.alists c.at_once-else-is_nil.result) same c.at_once-else-is_nil.ensures) in
    branch_tells ds fs env (term_of c.args.term.now) (term_of c.in-If.test.value) (term_of c.in-If.then.value) (term_of c.in-If.otherwise.value) c.args.left old mid new c.at_once-else-is_nil.new.alists found false c.at_once-else-is_nil.result (λ z. omega (arith, z, c.requires.left))
    (ap term_of c.in-If.is ∙ if_term c.in-If.test c.in-If.then c.in-If.otherwise) test.adds test.found (sym c.is_nil.ensures ∙ c.if-is_nil.false) branch

pub at_once-returns-in-Var : goal.at_once-returns-in-Var
at_once-returns-in-Var t c =
    let ds = c.args.setting.now.world.now.definitions in
    let fs = c.args.setting.now.functions.now in
    let old = c.args.arena.now in
    let env = scope_env old.objects c.args.scope.now in
    tells_found ds fs env (term_of c.args.term.now) c.args.left old old c.args.alists.now _ (adds_none (Sees ds fs env (term_of c.args.term.now)) old c.requires.whole) c.requires.agree
    (found_var ds fs old c.requires.whole env (term_of c.args.term.now) c.in-Var.name.number c.args.left c.value.result c.if-left-eq0.false
    (ap term_of c.in-Var.is ∙ var_term c.in-Var.name) (c.value.ensures.value old.objects) (c.value.ensures.live old.objects c.requires.scope))

pub at_once-returns-in-Const : goal.at_once-returns-in-Const
at_once-returns-in-Const t c =
    let old = c.args.arena.now in
    let new = c.constant_found.new.arena in
    let env = scope_env old.objects c.args.scope.now in
    let applies = c.constant_found.ensures.applies in
    let agree = tables_on old.objects new.objects (applies.objects.made, applies.objects.is) c.args.alists.now c.requires.agree in
    const_tells c.args.setting.now.world.now.definitions c.args.setting.now.functions.now env (term_of c.args.term.now) c.in-Const.tree c.args.left old new c.args.alists.now c.constant_found.result agree c.if-left-eq0.false
    (ap term_of c.in-Const.is ∙ const_term c.in-Const.tree) applies c.constant_found.ensures.found

pub unary-returns-in_err-x : goal.unary-returns-in_err-x
unary-returns-in_err-x t c =
    let env = scope_env c.args.arena.now.objects c.args.scope.now in
    let answer = c.from_residual.result in
    let refused : IsErr answer = search rules in
    let full : IsErrOf answer stop.Full → IsErrOf c.at_once.result stop.Full = λ e. search rules in
    operand_refused c.args.setting.now.world.now.definitions c.args.setting.now.functions.now env c.args.prim (term_of c.args.term.now) _ c.args.left c.args.arena.now c.at_once.new.arena c.at_once.new.alists answer refused c.at_once.ensures.adds c.at_once.ensures.agree (λ e. c.at_once.ensures.lacks (full e))

pub unary-returns-in_err-value : goal.unary-returns-in_err-value
unary-returns-in_err-value t c =
    let env = scope_env c.args.arena.now.objects c.args.scope.now in
    let answer = c.from_residual-in_err-value.result in
    let refused : IsErr answer = search rules in
    let full : IsErrOf answer stop.Full → IsErrOf c.apply.result stop.Full = λ e. search rules in
    let first = c.in_ok-x.ensures in
    let agree = tables_on c.at_once.new.arena.objects c.apply.new.arena.objects (c.apply.ensures.objects.made, c.apply.ensures.objects.is) c.at_once.new.alists first.agree in
    unary_refused c.args.setting.now.world.now.definitions c.args.setting.now.functions.now env c.args.prim (term_of c.args.term.now) c.args.left c.args.arena.now c.at_once.new.arena c.apply.new.arena c.at_once.new.alists agree c.in_ok-x.x nothing refl tt c.apply.result first.adds first.found c.apply.ensures answer refused full

pub unary-returns : goal.unary-returns
unary-returns t c =
    let env = scope_env c.args.arena.now.objects c.args.scope.now in
    let value : c.apply.result ≡ Ok c.in_ok-value.value = search rules in
    let first = c.in_ok-x.ensures in
    let agree = tables_on c.at_once.new.arena.objects c.apply.new.arena.objects (c.apply.ensures.objects.made, c.apply.ensures.objects.is) c.at_once.new.alists first.agree in
    unary_tells c.args.setting.now.world.now.definitions c.args.setting.now.functions.now env c.args.prim (term_of c.args.term.now) c.args.left c.args.arena.now c.at_once.new.arena c.apply.new.arena c.at_once.new.alists agree c.in_ok-x.x nothing refl tt c.apply.result first.adds first.found c.apply.ensures c.in_ok-value.value value (λ z. omega (arith, z, c.requires.left))

pub binary-returns-in_err-x : goal.binary-returns-in_err-x
binary-returns-in_err-x t c =
    let env = scope_env c.args.arena.now.objects c.args.scope.now in
    let answer = c.from_residual.result in
    let refused : IsErr answer = search rules in
    let full : IsErrOf answer stop.Full → IsErrOf c.at_once.result stop.Full = λ e. search rules in
    operand_refused c.args.setting.now.world.now.definitions c.args.setting.now.functions.now env c.args.prim (term_of c.args.first.now) _ c.args.left c.args.arena.now c.at_once.new.arena c.at_once.new.alists answer refused c.at_once.ensures.adds c.at_once.ensures.agree (λ e. c.at_once.ensures.lacks (full e))

pub binary-at_once-requires-2 : goal.binary-at_once-requires-2
binary-at_once-requires-2 t c =
    let old = c.args.arena.now in
    let mid = c.at_once.new.arena in
    (search rules, (c.at_once.ensures.adds.whole, ((scope_grown old.objects mid.objects c.at_once.ensures.adds.grown c.args.scope.now c.requires.scope).0, c.at_once.ensures.agree)))

pub binary-returns-in_err-y : goal.binary-returns-in_err-y
binary-returns-in_err-y t c =
    let ds = c.args.setting.now.world.now.definitions in
    let fs = c.args.setting.now.functions.now in
    let old = c.args.arena.now in
    let mid = c.at_once.new.arena in
    let late = c.at_once-2.new.arena in
    let env = scope_env old.objects c.args.scope.now in
    let answer = c.from_residual-in_err-y.result in
    let refused : IsErr answer = search rules in
    let full : IsErrOf answer stop.Full → IsErrOf c.at_once-2.result stop.Full = λ e. search rules in
    let first = c.in_ok-x.ensures in
    let same = (scope_grown old.objects mid.objects first.adds.grown c.args.scope.now c.requires.scope).1 in
    let second = subst (λ (e : List (ℕ × _)). Tells ds fs e (term_of c.args.second.now) c.in_ok-x.x.left mid late c.at_once-2.new.alists c.at_once-2.result) same c.at_once-2.ensures in
    second_operand_refused ds fs env c.args.prim (term_of c.args.first.now) (term_of c.args.second.now) c.args.left old mid late c.at_once-2.new.alists answer refused first.adds second.adds second.agree (λ e. second.lacks (full e))

pub binary-returns-in_err-value : goal.binary-returns-in_err-value
binary-returns-in_err-value t c =
    let ds = c.args.setting.now.world.now.definitions in
    let fs = c.args.setting.now.functions.now in
    let old = c.args.arena.now in
    let mid = c.at_once.new.arena in
    let late = c.at_once-2.new.arena in
    let new = c.apply.new.arena in
    let env = scope_env old.objects c.args.scope.now in
    let answer = c.from_residual-in_err-value.result in
    let refused : IsErr answer = search rules in
    let full : IsErrOf answer stop.Full → IsErrOf c.apply.result stop.Full = λ e. search rules in
    let first = c.in_ok-x.ensures in
    let same = (scope_grown old.objects mid.objects first.adds.grown c.args.scope.now c.requires.scope).1 in
    let second = subst (λ (e : List (ℕ × _)). Tells ds fs e (term_of c.args.second.now) c.in_ok-x.x.left mid late c.at_once-2.new.alists (Ok c.in_ok-y.y)) same c.in_ok-y.ensures in
    let agree = tables_on late.objects new.objects (c.apply.ensures.objects.made, c.apply.ensures.objects.is) c.at_once-2.new.alists second.agree in
    binary_refused ds fs env c.args.prim (term_of c.args.first.now) (term_of c.args.second.now) c.args.left old mid late new c.at_once-2.new.alists agree c.in_ok-x.x c.in_ok-y.y nothing refl tt c.apply.result first.adds first.found second.adds second.found c.apply.ensures answer refused full

pub binary-returns : goal.binary-returns
binary-returns t c =
    let ds = c.args.setting.now.world.now.definitions in
    let fs = c.args.setting.now.functions.now in
    let old = c.args.arena.now in
    let mid = c.at_once.new.arena in
    let late = c.at_once-2.new.arena in
    let new = c.apply.new.arena in
    let env = scope_env old.objects c.args.scope.now in
    let value : c.apply.result ≡ Ok c.in_ok-value.value = search rules in
    let first = c.in_ok-x.ensures in
    let same = (scope_grown old.objects mid.objects first.adds.grown c.args.scope.now c.requires.scope).1 in
    let second = subst (λ (e : List (ℕ × _)). Tells ds fs e (term_of c.args.second.now) c.in_ok-x.x.left mid late c.at_once-2.new.alists (Ok c.in_ok-y.y)) same c.in_ok-y.ensures in
    let agree = tables_on late.objects new.objects (c.apply.ensures.objects.made, c.apply.ensures.objects.is) c.at_once-2.new.alists second.agree in
    binary_tells ds fs env c.args.prim (term_of c.args.first.now) (term_of c.args.second.now) c.args.left old mid late new c.at_once-2.new.alists agree c.in_ok-x.x c.in_ok-y.y nothing refl tt c.apply.result first.adds first.found second.adds second.found c.apply.ensures c.in_ok-value.value value (λ z. omega (arith, z, c.requires.left))

pub opened-returns-in_err-given-in-Call : goal.opened-returns-in_err-given-in-Call
opened-returns-in_err-given-in-Call t c =
    let env = scope_env c.args.arena.now.objects c.args.scope.now in
    let refused : IsErr c.from_residual.result = search rules in
    let full : IsErrOf c.from_residual.result stop.Full → IsErrOf c.arguments.result stop.Full = λ e. search rules in
    let parts = subst (λ (us : List Term). TellsAll c.args.setting.now.world.now.definitions c.args.setting.now.functions.now env (terms_of us) (c.args.left - 1) c.args.arena.now c.arguments.new.arena c.arguments.new.alists c.arguments.result) c.as_slice-terms.ensures.value c.arguments.ensures in
    call_refused c.args.setting.now.world.now.definitions c.args.setting.now.functions.now env (term_of c.args.term.now) c.in-Call.f.number (terms_of c.in-Call.terms.items) c.args.left c.args.arena.now c.arguments.new.arena c.arguments.new.alists c.from_residual.result
    (ap term_of c.in-Call.is ∙ call_term c.in-Call.f c.in-Call.terms) refused parts.adds parts.agree (λ e. parts.lacks (full e))

pub opened-returns-in_err-given-in-Call-2 : goal.opened-returns-in_err-given-in-Call-2
opened-returns-in_err-given-in-Call-2 t c =
    let env = scope_env c.args.arena.now.objects c.args.scope.now in
    let answer = c.from_residual-in_err-given-in-Call-2.result in
    let refused : IsErr answer = search rules in
    let full : IsErrOf answer stop.Full → IsErrOf c.arguments-in-Call.result stop.Full = λ e. search rules in
    let parts = subst (λ (us : List Term). TellsAll c.args.setting.now.world.now.definitions c.args.setting.now.functions.now env (terms_of us) (c.args.left - 1) c.args.arena.now c.arguments-in-Call.new.arena c.arguments-in-Call.new.alists c.arguments-in-Call.result) c.as_slice-terms.ensures.value c.arguments-in-Call.ensures in
    call_refused c.args.setting.now.world.now.definitions c.args.setting.now.functions.now env (term_of c.args.term.now) c.in-Call.f.number (terms_of c.in-Call.terms.items) c.args.left c.args.arena.now c.arguments-in-Call.new.arena c.arguments-in-Call.new.alists answer
    (ap term_of c.in-Call.is ∙ call_term c.in-Call.f c.in-Call.terms) refused parts.adds parts.agree (λ e. parts.lacks (full e))

pub opened-returns-then-is_answered : goal.opened-returns-then-is_answered
opened-returns-then-is_answered t c =
    let ds = c.args.setting.now.world.now.definitions in
    let fs = c.args.setting.now.functions.now in
    let old = c.args.arena.now in
    let mid = c.arguments.new.arena in
    let new = c.answered.new.arena in
    let env = scope_env old.objects c.args.scope.now in
    let f = c.in-Call.f.number in
    let ts = terms_of c.in-Call.terms.items in
    let g = c.in_ok-given-in-Call.given in
    let table : is_among (answered_in ds) f ≡ true = sym c.is_answered.ensures ∙ c.if-is_answered.true in
    let parts = subst (λ (us : List Term). TellsAll ds fs env (terms_of us) (c.args.left - 1) old mid c.arguments.new.alists (Ok g)) c.as_slice-terms.ensures.value c.in_ok-given-in-Call.ensures in
    call_same ds fs env (term_of c.args.term.now) f ts c.args.left old new c.answered.new.alists c.answered.result (ap term_of c.in-Call.is ∙ call_term c.in-Call.f c.in-Call.terms) c.requires.left
    (answered_tells ds fs env (world_ground ds c.args.setting.now.world.now.cliques c.count-count.ensures.world) f ts (c.args.left - 1) old mid g table parts.adds parts.given new c.answered.new.alists c.answered.result c.answered.ensures)

pub opened-returns-in_ok-given-in-Call-2 : goal.opened-returns-in_ok-given-in-Call-2
opened-returns-in_ok-given-in-Call-2 t c =
    let ds = c.args.setting.now.world.now.definitions in
    let fs = c.args.setting.now.functions.now in
    let old = c.args.arena.now in
    let mid = c.arguments-in-Call.new.arena in
    let env = scope_env old.objects c.args.scope.now in
    let g = c.in_ok-given-in-Call-2.given in
    let d = definition_of c.def.result.now in
    let parts = subst (λ (us : List Term). TellsAll ds fs env (terms_of us) (c.args.left - 1) old mid c.arguments-in-Call.new.alists (Ok g)) c.as_slice-terms.ensures.value c.in_ok-given-in-Call-2.ensures in
    let values = parts.given.values in
    call_tells ds fs env (term_of c.args.term.now) c.in-Call.f.number (terms_of c.in-Call.terms.items) d c.args.left old mid c.body.new.arena c.body.new.alists g (extended d.formals values []) c.body.result (λ z. omega (arith, z, c.requires.left))
    (ap term_of c.in-Call.is ∙ call_term c.in-Call.f c.in-Call.terms) (c.opens_at_once.ensures c.if-not-opens_at_once.false) c.def.ensures.found parts.adds parts.given refl (c.body.ensures values parts.given.first parts.given.second)

pub body-returns-then-len-eq1 : goal.body-returns-then-len-eq1
body-returns-then-len-eq1 t c values first second =
    let objects = c.args.arena.now.objects in
    let d = definition_of c.args.def.now in
    let n = c.local.result.name.number in
    let same : (n, value_object objects c.local.result.value) ∷ [] ≡ (n, get_or values 0 nil) ∷ [] = ap (λ (x : Object). (n, x) ∷ []) (ap (value_object objects) c.local.ensures.value ∙ sym first) in
    let bound = one_bound d.formals values n (sym c.len.ensures ∙ c.if-len-eq1.true) c.local.ensures.name in
    subst (λ (e : List (ℕ × Object)). Tells c.args.setting.now.world.now.definitions c.args.setting.now.functions.now e d.body c.args.given.left c.args.arena.now c.at_once.new.arena c.at_once.new.alists c.at_once.result) (same ∙ sym bound) c.at_once.ensures

pub body-returns-then-len-eq2 : goal.body-returns-then-len-eq2
body-returns-then-len-eq2 t c values first second =
    let objects = c.args.arena.now.objects in
    let d = definition_of c.args.def.now in
    let a = c.local-then-len-eq2 in
    let b = c.local-then-len-eq2-2 in
    let n = a.result.name.number in
    let k = b.result.name.number in
    let x : value_object objects a.result.value ≡ get_or values 0 nil = ap (value_object objects) a.ensures.value ∙ sym first in
    let y : value_object objects b.result.value ≡ get_or values 1 nil = ap (value_object objects) b.ensures.value ∙ sym second in
    let same : (n, value_object objects a.result.value) ∷ (k, value_object objects b.result.value) ∷ [] ≡ (n, get_or values 0 nil) ∷ (k, get_or values 1 nil) ∷ [] = λ i. (n, x i) ∷ (k, y i) ∷ [] in
    let bound = two_bound d.formals values n k (sym c.len-else-len-eq1.ensures ∙ c.if-len-eq2.true) a.ensures.name b.ensures.name in
    subst (λ (e : List (ℕ × Object)). Tells c.args.setting.now.world.now.definitions c.args.setting.now.functions.now e d.body c.args.given.left c.args.arena.now c.at_once-then-len-eq2.new.arena c.at_once-then-len-eq2.new.alists c.at_once-then-len-eq2.result) (same ∙ sym bound) c.at_once-then-len-eq2.ensures

pub arguments-returns-in_err-first : goal.arguments-returns-in_err-first
arguments-returns-in_err-first t c =
    let env = scope_env c.args.arena.now.objects c.args.scope.now in
    let x = c.index-terms-0.result in
    let first : slice_get c.args.terms.now 0 ≡ Some x = at_index c.args.terms.now 0 x (omega (arith, c.if-count-eq0.false)) c.index-terms-0.is in
    let more = first_term c.args.terms.now x first in
    let refused : IsErr c.from_residual.result = search rules in
    let full : IsErrOf c.from_residual.result stop.Full → IsErrOf c.at_once.result stop.Full = λ e. search rules in
    first_refused c.args.setting.now.world.now.definitions c.args.setting.now.functions.now env (terms_of c.args.terms.now) (term_of x) more.0 c.args.left c.args.arena.now c.at_once.new.arena c.at_once.new.alists c.from_residual.result
    more.1 refused c.at_once.ensures.adds c.at_once.ensures.agree (λ e. c.at_once.ensures.lacks (full e))

pub arguments-returns-then-count-eq1 : goal.arguments-returns-then-count-eq1
arguments-returns-then-count-eq1 t c =
    let env = scope_env c.args.arena.now.objects c.args.scope.now in
    let x = c.index-terms-0.result in
    let first : slice_get c.args.terms.now 0 ≡ Some x = at_index c.args.terms.now 0 x (omega (arith, c.if-count-eq0.false)) c.index-terms-0.is in
    one_tells c.args.setting.now.world.now.definitions c.args.setting.now.functions.now env (terms_of c.args.terms.now) (term_of x) c.args.left c.args.arena.now c.at_once.new.arena c.at_once.new.alists c.in_ok-first.first nothing
    (one_term c.args.terms.now x c.if-count-eq1.true first) refl tt c.in_ok-first.ensures.adds c.in_ok-first.ensures.agree c.in_ok-first.ensures.found

pub arguments-at_once-requires-2 : goal.arguments-at_once-requires-2
arguments-at_once-requires-2 t c =
    let old = c.args.arena.now in
    let mid = c.at_once.new.arena in
    (search rules, (c.at_once.ensures.adds.whole, ((scope_grown old.objects mid.objects c.at_once.ensures.adds.grown c.args.scope.now c.requires.scope).0, c.at_once.ensures.agree)))

pub arguments-returns-in_err-second : goal.arguments-returns-in_err-second
arguments-returns-in_err-second t c =
    let ds = c.args.setting.now.world.now.definitions in
    let fs = c.args.setting.now.functions.now in
    let old = c.args.arena.now in
    let mid = c.at_once.new.arena in
    let new = c.at_once-2.new.arena in
    let env = scope_env old.objects c.args.scope.now in
    let x = c.index-terms-0.result in
    let y = c.index-terms-1.result in
    let first : slice_get c.args.terms.now 0 ≡ Some x = at_index c.args.terms.now 0 x (omega (arith, c.if-count-eq0.false)) c.index-terms-0.is in
    let second : slice_get c.args.terms.now 1 ≡ Some y = at_index c.args.terms.now 1 y (omega (arith, c.if-count-eq0.false, c.if-count-eq1.false)) c.index-terms-1.is in
    let more = second_term c.args.terms.now x y first second in
    let answer = c.from_residual-in_err-second.result in
    let refused : IsErr answer = search rules in
    let full : IsErrOf answer stop.Full → IsErrOf c.at_once-2.result stop.Full = λ e. search rules in
    let same = (scope_grown old.objects mid.objects c.at_once.ensures.adds.grown c.args.scope.now c.requires.scope).1 in
    let rest = subst (λ (e : List (ℕ × _)). Tells ds fs e (term_of y) c.in_ok-first.first.left mid new c.at_once-2.new.alists c.at_once-2.result) same c.at_once-2.ensures in
    second_refused ds fs env (terms_of c.args.terms.now) (term_of x) (term_of y) more.0 c.args.left old mid new c.at_once-2.new.alists answer
    more.1 refused c.at_once.ensures.adds rest.adds rest.agree (λ e. rest.lacks (full e))

pub arguments-returns-then-count-eq2 : goal.arguments-returns-then-count-eq2
arguments-returns-then-count-eq2 t c =
    let ds = c.args.setting.now.world.now.definitions in
    let fs = c.args.setting.now.functions.now in
    let old = c.args.arena.now in
    let mid = c.at_once.new.arena in
    let new = c.at_once-2.new.arena in
    let env = scope_env old.objects c.args.scope.now in
    let x = c.index-terms-0.result in
    let y = c.index-terms-1.result in
    let found = c.in_ok-first.first in
    let first : slice_get c.args.terms.now 0 ≡ Some x = at_index c.args.terms.now 0 x (omega (arith, c.if-count-eq0.false)) c.index-terms-0.is in
    let second : slice_get c.args.terms.now 1 ≡ Some y = at_index c.args.terms.now 1 y (omega (arith, c.if-count-eq2.true)) c.index-terms-1.is in
    let same = (scope_grown old.objects mid.objects c.in_ok-first.ensures.adds.grown c.args.scope.now c.requires.scope).1 in
    let rest = subst (λ (e : List (ℕ × _)). Tells ds fs e (term_of y) found.left mid new c.at_once-2.new.alists (Ok c.in_ok-second.second)) same c.in_ok-second.ensures in
    two_tell ds fs env (terms_of c.args.terms.now) (term_of x) (term_of y) c.args.left old mid new c.at_once-2.new.alists found c.in_ok-second.second nothing
    (two_terms c.args.terms.now x y c.if-count-eq2.true first second) refl tt c.in_ok-first.ensures.adds c.in_ok-first.ensures.found rest.adds rest.agree rest.found

pub arguments-at_once-requires-3 : goal.arguments-at_once-requires-3
arguments-at_once-requires-3 t c =
    let old = c.args.arena.now in
    let mid = c.at_once.new.arena in
    let late = c.at_once-2.new.arena in
    let first = scope_grown old.objects mid.objects c.at_once.ensures.adds.grown c.args.scope.now c.requires.scope in
    let second = scope_grown mid.objects late.objects c.at_once-2.ensures.adds.grown c.args.scope.now first.0 in
    (search rules, (c.at_once-2.ensures.adds.whole, (second.0, c.at_once-2.ensures.agree)))

pub arguments-returns-in_err-third : goal.arguments-returns-in_err-third
arguments-returns-in_err-third t c =
    let ds = c.args.setting.now.world.now.definitions in
    let fs = c.args.setting.now.functions.now in
    let old = c.args.arena.now in
    let mid = c.at_once.new.arena in
    let late = c.at_once-2.new.arena in
    let new = c.at_once-3.new.arena in
    let env = scope_env old.objects c.args.scope.now in
    let x = c.index-terms-0.result in
    let y = c.index-terms-1.result in
    let z = c.index-terms-2.result in
    let three : length c.args.terms.now ≡ 3 = omega (arith, c.if-count-eq0.false, c.if-count-gt3.false, c.if-count-eq1.false, c.if-count-eq2.false) in
    let first : slice_get c.args.terms.now 0 ≡ Some x = at_index c.args.terms.now 0 x (omega (arith, three)) c.index-terms-0.is in
    let second : slice_get c.args.terms.now 1 ≡ Some y = at_index c.args.terms.now 1 y (omega (arith, three)) c.index-terms-1.is in
    let third : slice_get c.args.terms.now 2 ≡ Some z = at_index c.args.terms.now 2 z (omega (arith, three)) c.index-terms-2.is in
    let answer = c.from_residual-in_err-third.result in
    let refused : IsErr answer = search rules in
    let full : IsErrOf answer stop.Full → IsErrOf c.at_once-3.result stop.Full = λ e. search rules in
    let g = scope_grown old.objects mid.objects c.at_once.ensures.adds.grown c.args.scope.now c.requires.scope in
    let h = scope_grown mid.objects late.objects c.at_once-2.ensures.adds.grown c.args.scope.now g.0 in
    let next = subst (λ (e : List (ℕ × _)). Tells ds fs e (term_of y) c.in_ok-first.first.left mid late c.at_once-2.new.alists c.at_once-2.result) g.1 c.at_once-2.ensures in
    let last = subst (λ (e : List (ℕ × _)). Tells ds fs e (term_of z) c.in_ok-second.second.left late new c.at_once-3.new.alists c.at_once-3.result) (h.1 ∙ g.1) c.at_once-3.ensures in
    third_refused ds fs env (terms_of c.args.terms.now) (term_of x) (term_of y) (term_of z) _ c.args.left old mid late new c.at_once-3.new.alists answer
    (three_terms c.args.terms.now x y z three first second third) refused c.at_once.ensures.adds next.adds last.adds last.agree (λ e. last.lacks (full e))

pub arguments-returns : goal.arguments-returns
arguments-returns t c =
    let ds = c.args.setting.now.world.now.definitions in
    let fs = c.args.setting.now.functions.now in
    let old = c.args.arena.now in
    let mid = c.at_once.new.arena in
    let late = c.at_once-2.new.arena in
    let new = c.at_once-3.new.arena in
    let env = scope_env old.objects c.args.scope.now in
    let x = c.index-terms-0.result in
    let y = c.index-terms-1.result in
    let z = c.index-terms-2.result in
    let a = c.in_ok-first.first in
    let b = c.in_ok-second.second in
    let three : length c.args.terms.now ≡ 3 = omega (arith, c.if-count-eq0.false, c.if-count-gt3.false, c.if-count-eq1.false, c.if-count-eq2.false) in
    let first : slice_get c.args.terms.now 0 ≡ Some x = at_index c.args.terms.now 0 x (omega (arith, three)) c.index-terms-0.is in
    let second : slice_get c.args.terms.now 1 ≡ Some y = at_index c.args.terms.now 1 y (omega (arith, three)) c.index-terms-1.is in
    let third : slice_get c.args.terms.now 2 ≡ Some z = at_index c.args.terms.now 2 z (omega (arith, three)) c.index-terms-2.is in
    let g = scope_grown old.objects mid.objects c.at_once.ensures.adds.grown c.args.scope.now c.requires.scope in
    let h = scope_grown mid.objects late.objects c.at_once-2.ensures.adds.grown c.args.scope.now g.0 in
    let next = subst (λ (e : List (ℕ × _)). Tells ds fs e (term_of y) a.left mid late c.at_once-2.new.alists (Ok b)) g.1 c.in_ok-second.ensures in
    let last = subst (λ (e : List (ℕ × _)). Tells ds fs e (term_of z) b.left late new c.at_once-3.new.alists (Ok c.in_ok-third.third)) (h.1 ∙ g.1) c.in_ok-third.ensures in
    three_tell ds fs env (terms_of c.args.terms.now) (term_of x) (term_of y) (term_of z) c.args.left old mid late new c.at_once-3.new.alists a b c.in_ok-third.third
    (three_terms c.args.terms.now x y z three first second third) c.in_ok-first.ensures.adds c.in_ok-first.ensures.found next.adds next.found last.adds last.agree last.found

pub zero-returns-in_err-x : goal.zero-returns-in_err-x
zero-returns-in_err-x t c f zp =
    let env = scope_env c.args.arena.now.objects c.args.scope.now in
    let x = c.index-terms-0.result in
    let one : length c.args.terms.now ≡ 1 = search rules in
    let first : slice_get c.args.terms.now 0 ≡ Some x = at_index c.args.terms.now 0 x (omega (arith, one)) c.index-terms-0.is in
    let parts = one_term c.args.terms.now x one first in
    let refused : IsErr c.from_residual.result = search rules in
    let full : IsErrOf c.from_residual.result stop.Full → IsErrOf c.at_once.result stop.Full = λ e. search rules in
    argument_refused c.args.setting.now.world.now.definitions c.args.setting.now.functions.now env f (terms_of c.args.terms.now) (term_of x) parts (c.args.left + 1) c.args.arena.now c.at_once.new.arena c.at_once.new.alists c.from_residual.result refused c.at_once.ensures.adds c.at_once.ensures.agree (λ e. c.at_once.ensures.lacks (full e))

pub zero-returns-then-x-test : goal.zero-returns-then-x-test
zero-returns-then-x-test t c f zp =
    let env = scope_env c.args.arena.now.objects c.args.scope.now in
    let x = c.index-terms-0.result in
    let one : length c.args.terms.now ≡ 1 = search rules in
    let first : slice_get c.args.terms.now 0 ≡ Some x = at_index c.args.terms.now 0 x (omega (arith, one)) c.index-terms-0.is in
    zero_refused c.args.setting.now.world.now.definitions c.args.setting.now.functions.now f zp env (terms_of c.args.terms.now) (term_of x) (one_term c.args.terms.now x one first) c.args.left c.args.arena.now c.at_once.new.arena c.at_once.new.alists c.in_ok-x.x c.in_ok-x.ensures

pub zero-returns : goal.zero-returns
zero-returns t c f zp =
    let env = scope_env c.args.arena.now.objects c.args.scope.now in
    let new = c.at_once.new.arena in
    let x = c.index-terms-0.result in
    let one : length c.args.terms.now ≡ 1 = search rules in
    let first : slice_get c.args.terms.now 0 ≡ Some x = at_index c.args.terms.now 0 x (omega (arith, one)) c.index-terms-0.is in
    let test = c.zero_test-test in
    let told = zero_tells c.args.setting.now.world.now.definitions c.args.setting.now.functions.now f zp env (terms_of c.args.terms.now) (term_of x) (one_term c.args.terms.now x one first) c.args.left c.args.arena.now new c.at_once.new.alists c.in_ok-x.x c.in_ok-x.ensures
    c.truth.result (c.truth.ensures.value new.objects ∙ ap boolean_object test.ensures.holds) (c.truth.ensures.live new.objects) (omega (arith, c.if-x-test.false, test.ensures.visits)) in
    subst (λ (n : ℕ). Tells c.args.setting.now.world.now.definitions c.args.setting.now.functions.now env (Call f (terms_of c.args.terms.now)) (c.args.left + 1) c.args.arena.now new c.at_once.new.alists (Ok (record { value = c.truth.result; left = c.in_ok-x.x.left - n }))) (sym test.ensures.visits) told

pub at_once-returns-then-levels-eq0 : goal.at_once-returns-then-levels-eq0
at_once-returns-then-levels-eq0 t c = beyond_tells c.args.setting.now.world.now.definitions c.args.setting.now.functions.now (scope_env c.args.arena.now.objects c.args.scope.now) (term_of c.args.term.now) c.args.left c.args.arena.now c.args.alists.now c.requires.whole c.requires.agree

pub at_once-returns-in-Let : goal.at_once-returns-in-Let
at_once-returns-in-Let t c = beyond_tells c.args.setting.now.world.now.definitions c.args.setting.now.functions.now (scope_env c.args.arena.now.objects c.args.scope.now) (term_of c.args.term.now) c.args.left c.args.arena.now c.args.alists.now c.requires.whole c.requires.agree

pub branch-returns-in_default : goal.branch-returns-in_default
branch-returns-in_default t c = beyond_tells c.args.setting.now.world.now.definitions c.args.setting.now.functions.now (scope_env c.args.arena.now.objects c.args.scope.now) (term_of c.args.term.now) c.args.left c.args.arena.now c.args.alists.now c.requires.whole c.requires.agree

pub operation-returns-in_default : goal.operation-returns-in_default
operation-returns-in_default t c = beyond_tells c.args.setting.now.world.now.definitions c.args.setting.now.functions.now (scope_env c.args.arena.now.objects c.args.scope.now) (term_of c.args.term.now) c.args.left c.args.arena.now c.args.alists.now c.requires.whole c.requires.agree

pub operation-returns-else-terms-eq2 : goal.operation-returns-else-terms-eq2
operation-returns-else-terms-eq2 t c = beyond_tells c.args.setting.now.world.now.definitions c.args.setting.now.functions.now (scope_env c.args.arena.now.objects c.args.scope.now) (term_of c.args.term.now) c.args.left c.args.arena.now c.args.alists.now c.requires.whole c.requires.agree

pub opened-returns-in_default : goal.opened-returns-in_default
opened-returns-in_default t c = beyond_tells c.args.setting.now.world.now.definitions c.args.setting.now.functions.now (scope_env c.args.arena.now.objects c.args.scope.now) (term_of c.args.term.now) c.args.left c.args.arena.now c.args.alists.now c.requires.whole c.requires.agree

pub opened-returns-then-not-opens_at_once : goal.opened-returns-then-not-opens_at_once
opened-returns-then-not-opens_at_once t c = beyond_tells c.args.setting.now.world.now.definitions c.args.setting.now.functions.now (scope_env c.args.arena.now.objects c.args.scope.now) (term_of c.args.term.now) c.args.left c.args.arena.now c.args.alists.now c.requires.whole c.requires.agree

pub arguments-returns-then-count-eq0 : goal.arguments-returns-then-count-eq0
arguments-returns-then-count-eq0 t c = beyond_tell_all c.args.setting.now.world.now.definitions c.args.setting.now.functions.now (scope_env c.args.arena.now.objects c.args.scope.now) (terms_of c.args.terms.now) c.args.left c.args.arena.now c.args.alists.now c.requires.whole c.requires.agree

pub body-returns-else-len-eq2 : goal.body-returns-else-len-eq2
body-returns-else-len-eq2 t c values first second = beyond_tells c.args.setting.now.world.now.definitions c.args.setting.now.functions.now (extended (definition_of c.args.def.now).formals values []) (definition_of c.args.def.now).body c.args.given.left c.args.arena.now c.args.alists.now c.requires.whole c.requires.agree

pub zero-returns-then-terms-ne1 : goal.zero-returns-then-terms-ne1
zero-returns-then-terms-ne1 t c f zp = beyond_tells c.args.setting.now.world.now.definitions c.args.setting.now.functions.now (scope_env c.args.arena.now.objects c.args.scope.now) (Call f (terms_of c.args.terms.now)) (c.args.left + 1) c.args.arena.now c.args.alists.now c.requires.whole c.requires.agree

pub opened-returns-then-is_zp : goal.opened-returns-then-is_zp
opened-returns-then-is_zp t c =
    let ds = c.args.setting.now.world.now.definitions in
    let fs = c.args.setting.now.functions.now in
    let old = c.args.arena.now in
    let new = c.zero.new in
    let env = scope_env old.objects c.args.scope.now in
    let f = c.in-Call.f.number in
    let told = subst (λ (us : List Term). Tells ds fs env (Call f (terms_of us)) (c.args.left - 1 + 1) old new.arena new.alists c.zero.result) c.as_slice-terms.ensures.value (c.zero.ensures f (c.is_zp.ensures c.if-is_zp.true)) in
    call_same ds fs env (term_of c.args.term.now) f (terms_of c.in-Call.terms.items) c.args.left old new.arena new.alists c.zero.result (ap term_of c.in-Call.is ∙ call_term c.in-Call.f c.in-Call.terms) c.requires.left told
