use Rattle.std.proofs.Common.{◌≡◌, ◌∙◌, ap, sym, subst, rules, map, drop, ℕ, ◌+◌, ◌∷◌, Result, Err}
use Rattle.std.proofs.lemmas.List.{at_drop_more}
use Rattle.gl_logic.specs.Exp.{Exp, Exps, If, Call, Let, More}
use Rattle.gl_logic.specs.TermOf.{term_of, terms_of}
use Rattle.gl_logic.specs.declared.term.Term.{Term}
use Rattle.gl_logic.proofs.TermForms.{if_term, call_term, let_term}
use Rattle.admission.specs.declared.fault.AdmitFault.{AdmitFault}
use Rattle.admission.specs.Signatures.{signature_of, signature_at}
use Rattle.admission.specs.Numbers.{behind, behind_all, Counts}
use Rattle.admission.proofs.Counted.{stop_test, stop_then, stop_call, stop_let, stop_first}
use Rattle.admission.proofs.calls.+calls.Goals as goal

pub calls-returns-in_err-next-in-If : goal.calls-returns-in_err-next-in-If
calls-returns-in_err-next-in-If t c =
    let at = signature_at c.args.first (map signature_of c.args.members.now) in
    let whole : term_of c.args.term.now ≡ If (term_of c.in-If.test.value) (term_of c.in-If.then.value) (term_of c.in-If.otherwise.value) = ap term_of c.in-If.is ∙ if_term c.in-If.test c.in-If.then c.in-If.otherwise in
    let told : c.from_residual.result ≡ Err c.in_err-next-in-If.field-0.0 = search rules in
    let h = stop_test at (term_of c.in-If.test.value) (term_of c.in-If.then.value) (term_of c.in-If.otherwise.value) c.args.caller c.args.next c.in_err-next-in-If.field-0.0 (search (rules, c.in_err-next-in-If.ensures)) in
    subst (λ (x : Exp). Counts (behind at x c.args.caller c.args.next) c.from_residual.result) (sym whole) (subst (λ (r : Result ℕ AdmitFault). Counts (behind at (If (term_of c.in-If.test.value) (term_of c.in-If.then.value) (term_of c.in-If.otherwise.value)) c.args.caller c.args.next) r) (sym told) h)

pub calls-returns-in_err-next-in-If-2 : goal.calls-returns-in_err-next-in-If-2
calls-returns-in_err-next-in-If-2 t c =
    let at = signature_at c.args.first (map signature_of c.args.members.now) in
    let whole : term_of c.args.term.now ≡ If (term_of c.in-If.test.value) (term_of c.in-If.then.value) (term_of c.in-If.otherwise.value) = ap term_of c.in-If.is ∙ if_term c.in-If.test c.in-If.then c.in-If.otherwise in
    let told : c.from_residual-in_err-next-in-If-2.result ≡ Err c.in_err-next-in-If-2.field-0.0 = search rules in
    let h = stop_then at (term_of c.in-If.test.value) (term_of c.in-If.then.value) (term_of c.in-If.otherwise.value) c.args.caller c.args.next c.in_ok-next-in-If.next c.in_err-next-in-If-2.field-0.0 (search (rules, c.in_ok-next-in-If.ensures)) (search (rules, c.in_err-next-in-If-2.ensures)) in
    subst (λ (x : Exp). Counts (behind at x c.args.caller c.args.next) c.from_residual-in_err-next-in-If-2.result) (sym whole) (subst (λ (r : Result ℕ AdmitFault). Counts (behind at (If (term_of c.in-If.test.value) (term_of c.in-If.then.value) (term_of c.in-If.otherwise.value)) c.args.caller c.args.next) r) (sym told) h)

pub calls-returns-in_err-next-in-Call : goal.calls-returns-in_err-next-in-Call
calls-returns-in_err-next-in-Call t c =
    let at = signature_at c.args.first (map signature_of c.args.members.now) in
    let whole : term_of c.args.term.now ≡ Call c.in-Call.f.number (terms_of c.in-Call.terms.items) = ap term_of c.in-Call.is ∙ call_term c.in-Call.f c.in-Call.terms in
    let told : c.from_residual-in_err-next-in-Call.result ≡ Err c.in_err-next-in-Call.field-0.0 = search rules in
    let h = stop_call at c.in-Call.f.number (terms_of c.in-Call.terms.items) c.args.caller c.args.next c.in_err-next-in-Call.field-0.0 (search (rules, c.in_err-next-in-Call.ensures)) in
    subst (λ (x : Exp). Counts (behind at x c.args.caller c.args.next) c.from_residual-in_err-next-in-Call.result) (sym whole) (subst (λ (r : Result ℕ AdmitFault). Counts (behind at (Call c.in-Call.f.number (terms_of c.in-Call.terms.items)) c.args.caller c.args.next) r) (sym told) h)

pub calls-returns-in_err-next-in-Let : goal.calls-returns-in_err-next-in-Let
calls-returns-in_err-next-in-Let t c =
    let at = signature_at c.args.first (map signature_of c.args.members.now) in
    let whole : term_of c.args.term.now ≡ Let c.in-Let.names (terms_of c.in-Let.terms.items) (term_of c.in-Let.body.value) = ap term_of c.in-Let.is ∙ let_term c.in-Let.names c.in-Let.terms c.in-Let.body in
    let told : c.from_residual-in_err-next-in-Let.result ≡ Err c.in_err-next-in-Let.field-0.0 = search rules in
    let h = stop_let at c.in-Let.names (terms_of c.in-Let.terms.items) (term_of c.in-Let.body.value) c.args.caller c.args.next c.in_err-next-in-Let.field-0.0 (search (rules, c.in_err-next-in-Let.ensures)) in
    subst (λ (x : Exp). Counts (behind at x c.args.caller c.args.next) c.from_residual-in_err-next-in-Let.result) (sym whole) (subst (λ (r : Result ℕ AdmitFault). Counts (behind at (Let c.in-Let.names (terms_of c.in-Let.terms.items) (term_of c.in-Let.body.value)) c.args.caller c.args.next) r) (sym told) h)

pub calls_in_all-returns-in_err-reached : goal.calls_in_all-returns-in_err-reached
calls_in_all-returns-in_err-reached t c =
    let at = signature_at c.args.first (map signature_of c.args.members.now) in
    let xs = c.args.terms.now in
    let i = c.loop-term.term-index in
    let x = c.term-item.result in
    let told : c.from_residual.result ≡ Err c.in_err-reached.field-0.0 = search rules in
    let h = stop_first at (term_of x) (terms_of (drop (i + 1) xs)) c.args.caller c.loop-term.reached c.in_err-reached.field-0.0 (search (rules, c.in_err-reached.ensures)) in
    let next : terms_of (drop i xs) ≡ More (term_of x) (terms_of (drop (i + 1) xs)) = at_drop_more terms_of xs i x c.loop-term-test.true ∙ ap (λ (y : Term). terms_of (y ∷ drop (i + 1) xs)) (sym c.term-item.is) in
    subst (λ (v : Result ℕ ℕ). Counts v c.from_residual.result) (ap (λ (ts : Exps). behind_all at ts c.args.caller c.loop-term.reached) (sym next) ∙ c.loop-term.invariant)
    (subst (λ (r : Result ℕ AdmitFault). Counts (behind_all at (More (term_of x) (terms_of (drop (i + 1) xs))) c.args.caller c.loop-term.reached) r) (sym told) h)
