use Rattle.std.proofs.Common.{◌≡◌, ◌∙◌, ap, sym, refl, subst, rules, arith, ◌+◌, ◌++◌, ◌∷◌, [], List, map, drop, length}
use Rattle.std.specs.Prelude.{Ok}
use Rattle.std.proofs.lemmas.List.{map-append}
use Rattle.gl_logic.specs.Exp.{Exp, If, Let}
use Rattle.gl_logic.specs.TermOf.{term_of, terms_of, exps_of}
use Rattle.gl_translate.specs.Meaning.{every_part}
use Rattle.gl_translate.specs.Translation.{are_in}
use Rattle.gl_translate.specs.Steps.{form_means, step_inside}
use Rattle.gl_translate.specs.Contexts.{setting_in}
use Rattle.gl_translate.proofs.Deep.{form_deep}
use Rattle.gl_translate.proofs.Outcomes.{gives_at, at_step, to_come, part_done, all_done, if_third, let_second, also_in}
use Rattle.gl_translate.proofs.context.Context.+translate.Goals as goal

pub conditional-returns-clause-meant : goal.conditional-returns-clause-meant
conditional-returns-clause-meant t c =
    let s = setting_in c.args.self.now in
    if_third (form_means s c.args.a) (form_means s c.args.b) (form_means s c.args.c) c.args.bound.now _ _ c.args.around
    (term_of c.in_ok-test.test) (term_of c.in_ok-then.then) (Ok (term_of c.in_ok-otherwise.otherwise))
    c.in_ok-test.ensures.meant c.in_ok-test.ensures.bound c.in_ok-then.ensures.meant c.in_ok-then.ensures.bound c.in_ok-otherwise.ensures.meant
    ∙ ap Ok (sym c.in_ok-if_term.ensures)

pub either-returns-clause-meant : goal.either-returns-clause-meant
either-returns-clause-meant t c =
    let s = setting_in c.args.self.now in
    let x = term_of c.in_ok-test.test in
    let z = term_of c.in_ok-otherwise.otherwise in
    if_third (form_means s c.args.a) (form_means s c.args.a) (form_means s c.args.b) c.args.bound.now c.args.bound.now _ c.args.around
    x x (Ok z) c.in_ok-test.ensures.meant refl c.in_ok-test.ensures.meant c.in_ok-test.ensures.bound c.in_ok-otherwise.ensures.meant
    ∙ ap Ok (ap (λ (y : Exp). If x y z) (sym c.in_ok-then.ensures) ∙ sym c.in_ok-if_term.ensures)

pub binding-returns-clause-meant : goal.binding-returns-clause-meant
binding-returns-clause-meant t c =
    let s = setting_in c.args.self.now in
    let_second c.args.names (map (form_means s) c.args.values.items) (form_means s c.args.body) c.args.bound.now c.terms.new.bound c.insert_all.new.self c.args.around
    (map term_of c.in_ok-terms.terms.items) (Ok (term_of c.in_ok-body.body)) c.in_ok-terms.ensures.meant c.in_ok-terms.ensures.bound
    (also_in c.args.names c.terms.new.bound c.insert_all.new.self c.in_ok-insert_all.ensures.all) c.in_ok-body.ensures.meant
    ∙ ap Ok (sym c.in_ok-let_term.ensures)

pub term-returns-then-around-ge-DEPTH-clause-meant : goal.term-returns-then-around-ge-DEPTH-clause-meant
term-returns-then-around-ge-DEPTH-clause-meant t c ne = form_deep (setting_in c.args.self.now) c.args.form (are_in c.args.bound.now) c.args.around (omega (arith, c.if-around-ge-DEPTH.true))

pub term-returns-clause-meant : goal.term-returns-clause-meant
term-returns-clause-meant t c =
    let s = setting_in c.args.self.now in
    gives_at term_of (step_inside s c.in_ok-step.step (are_in c.args.bound.now) (c.args.around + 1)) (form_means s c.args.form (are_in c.args.bound.now) c.args.around) c.taken.result
    (at_step s (form_means s c.args.form) c.in_ok-step.step c.args.bound.now c.args.bound.now c.args.around (omega (arith, c.if-around-ge-DEPTH.false)) c.in_ok-step.ensures.takes c.in_ok-step.ensures.other refl)
    c.taken.ensures.meant

pub terms-loop-form-preserved : goal.terms-loop-form-preserved
terms-loop-form-preserved t c =
    let s = setting_in c.args.self.now in
    let fs = c.deref-form-items.result.now in
    let v = c.args.bound.now in
    let i = c.loop-form.form-index in
    let done = map term_of c.loop-form.terms.items in
    let x = c.in_ok-term.field-0 in
    let more : map term_of c.push.new.self.items ≡ done ++ term_of x ∷ [] = ap (map term_of) c.in_ok-push.ensures.items ∙ map-append term_of c.loop-form.terms.items (x ∷ []) in
    let others = every_part (map (form_means s) (drop (i + 1) fs)) (are_in v) c.args.around in
    record {
      bound = c.in_ok-term.ensures.bound ∙ c.loop-form.invariant.bound;
      comes = ap (λ (ts : List Exp). to_come ts others) more
          ∙ (sym (part_done s fs i c.form-item.result (are_in v) c.args.around done c.loop-form-test.true c.form-item.is (term_of x) (ap (λ (w : List _). form_means s c.form-item.result (are_in w) c.args.around) (sym c.loop-form.invariant.bound) ∙ c.in_ok-term.ensures.meant))
          ∙ c.loop-form.invariant.comes);
    }

pub terms-returns-clause-meant : goal.terms-returns-clause-meant
terms-returns-clause-meant t c =
    let s = setting_in c.args.self.now in
    let v = c.args.bound.now in
    let same : c.args.forms.items ≡ c.deref-form-items.result.now = search (rules, c.deref-form-items.ensures.value) in
    ap (λ (fs : List _). every_part (map (form_means s) fs) (are_in v) c.args.around) same
    ∙ (sym c.loop-form.invariant.comes
    ∙ all_done s c.deref-form-items.result.now c.loop-form.form-index (are_in v) c.args.around (map term_of c.loop-form.terms.items) (omega (arith, c.loop-form-test.false)))
