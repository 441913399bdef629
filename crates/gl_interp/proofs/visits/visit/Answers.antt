use Rattle.std.proofs.Common.{◌≡◌, ◌∙◌, ap, sym, subst, refl, get_or, [], Ok, Some, length, ◌+◌, arith}
use Rattle.gl_logic.specs.Environment.{look}
use Rattle.gl_logic.specs.Exp as exp
use Rattle.gl_logic.specs.TermOf.{term_of, terms_of}
use Rattle.sym_objects.specs.Seen.{stands_for}
use Rattle.sym_prims.proofs.Leaving.{leaves_none, leaves_then}
use Rattle.gl_interp.specs.declared.frame.Work.TheVariants as work
use Rattle.gl_interp.specs.declared.frame.Focus.TheVariants as focus
use Rattle.gl_interp.specs.Environments.{objects_of}
use Rattle.gl_interp.specs.Running.{Turn}
use Rattle.gl_interp.specs.TurnsLeft.{call_turns, turns}
use Rattle.gl_interp.proofs.Onward.{ok_some, turn_dropped}
use Rattle.gl_interp.proofs.Terms.{term_var, term_const, term_if, term_prim, term_call, term_let}
use Rattle.gl_interp.proofs.VisitTurns.{look_some, look_none, look_below, turn_visited, turn_if, turn_next}
use Rattle.gl_logic.specs.IsTermOf.{IsTermOf}
use Rattle.gl_interp.proofs.TermsLeft.{count_terms, terms_if, terms_next}
use Rattle.gl_interp.proofs.Falling.{falls_if, falls_next, falls_visited}
use Rattle.gl_interp.proofs.visits.visit.Goals as goal

pub returns-in-Some-clause-turn : goal.returns-in-Some-clause-turn
returns-in-Some-clause-turn g c ds =
    let old = c.args.objs.now in
    let es = c.args.envs.now in
    let found = sym c.in-Some.ensures in
    turn_visited g.B.Meaning ds c.args.start c.args.path.now old es c.args.frames.now old c.args.term c.args.env c.args.clock (exp.Var c.in-Var.name.number) c.in-Some.x
    (λ a. look (objects_of (λ z. stands_for g.B.Meaning old z a) (get_or es c.args.env.number [])) c.in-Var.name.number)
    c.requires.ready (leaves_none g.B.Meaning old c.requires.ready.whole) (look_below _ _ _ _ (c.requires.ready.envs c.args.env.number) found)
    (ap term_of c.in-Var.is ∙ term_var _) (λ k a. refl) (λ a. sym (look_some (λ z. stands_for g.B.Meaning old z a) (get_or es c.args.env.number []) c.in-Var.name.number c.in-Some.x found))

pub returns-in_ok-nil-in-None-clause-turn : goal.returns-in_ok-nil-in-None-clause-turn
returns-in_ok-nil-in-None-clause-turn g c ds =
    let old = c.args.objs.now in
    let es = c.args.envs.now in
    let made = c.in_ok-nil-in-None.ensures in
    turn_visited g.B.Meaning ds c.args.start c.args.path.now old es c.args.frames.now _ c.args.term c.args.env c.args.clock (exp.Var c.in-Var.name.number) _
    (λ a. look (objects_of (λ z. stands_for g.B.Meaning old z a) (get_or es c.args.env.number [])) c.in-Var.name.number)
    c.requires.ready made.leaves made.live
    (ap term_of c.in-Var.is ∙ term_var _) (λ k a. refl) (λ a. made.means a ∙ sym (look_none (λ z. stands_for g.B.Meaning old z a) (get_or es c.args.env.number []) c.in-Var.name.number (sym c.in-None.ensures)))

pub returns-in-Ok-Some-clause-turn : goal.returns-in-Ok-Some-clause-turn
returns-in-Ok-Some-clause-turn g c ds =
    let made = c.constant_of.ensures in
    let is = c.in-Ok-Some.is ∙ ap Ok c.in-Ok-Some.field-0-is in
    turn_visited g.B.Meaning ds c.args.start c.args.path.now c.args.objs.now c.args.envs.now c.args.frames.now _ c.args.term c.args.env c.args.clock (exp.Const c.in-Const.tree) c.in-Ok-Some.x
    (λ a. c.in-Const.tree) c.requires.ready made.leaves (ok_some _ _ _ is made.live) (ap term_of c.in-Const.is ∙ term_const _) (λ k a. refl) (ok_some _ _ _ is made.means)

pub returns-in_ok-nil-in-Ok-None-clause-turn : goal.returns-in_ok-nil-in-Ok-None-clause-turn
returns-in_ok-nil-in-Ok-None-clause-turn g c ds =
    let made = c.in_ok-nil-in-Ok-None.ensures in
    turn_dropped g.B.Meaning ds c.args.start c.args.path.now c.args.objs.now _ c.args.envs.now (leaves_then g.B.Meaning c.args.objs.now c.constant_of.new.objs _ c.constant_of.ensures.leaves made.leaves) c.args.frames.now (focus.Visit c.args.term c.args.env c.args.clock) _
    c.requires.ready (c.constant_of.ensures.never (c.in-Ok-None.is ∙ ap Ok c.in-Ok-None.field-0-is)) made.live

pub returns-in_ok-push-in-If-clause-turn : goal.returns-in_ok-push-in-If-clause-turn
returns-in_ok-push-in-If-clause-turn g c ds =
    let test = c.deref-in-If-2.result in
    let a = c.deref.result in
    let b = c.deref-in-If.result in
    subst (λ hs. Turn g.B.Meaning ds c.args.start c.args.objs.now c.args.envs.now c.args.frames.now (focus.Visit c.args.term c.args.env c.args.clock) c.args.objs.now c.args.envs.now c.args.path.now hs (focus.Visit test c.args.env c.args.clock))
    (sym c.in_ok-push-in-If.ensures.ok)
    (turn_if g.B.Meaning ds c.args.start c.args.path.now c.args.objs.now c.args.envs.now c.args.frames.now c.args.term test a b c.args.env c.args.clock c.requires.ready
    (ap term_of c.in-If.is ∙ (term_if _ _ _ ∙ (λ i. exp.If (term_of (sym c.deref-in-If-2.ensures i)) (term_of (sym c.deref.ensures i)) (term_of (sym c.deref-in-If.ensures i))))))

pub returns-in-Prim-clause-turn : goal.returns-in-Prim-clause-turn
returns-in-Prim-clause-turn g c ds =
    turn_next g.B.Meaning ds c.args.start c.args.path.now c.args.objs.now c.args.envs.now c.args.frames.now c.args.term (work.Prim c.in-Prim.prim) _ _ c.in-Prim.terms.items c.args.env c.args.clock
    (exp.Prim c.in-Prim.prim (terms_of c.in-Prim.terms.items)) c.requires.ready (ap term_of c.in-Prim.is ∙ term_prim _ _) c.new.ensures.items c.as_slice.ensures.value (λ m v. refl)

pub returns-in-Call-clause-turn : goal.returns-in-Call-clause-turn
returns-in-Call-clause-turn g c ds =
    turn_next g.B.Meaning ds c.args.start c.args.path.now c.args.objs.now c.args.envs.now c.args.frames.now c.args.term (work.Call c.in-Call.f) _ _ c.in-Call.terms.items c.args.env c.args.clock
    (exp.Call c.in-Call.f.number (terms_of c.in-Call.terms.items)) c.requires.ready (ap term_of c.in-Call.is ∙ term_call _ _) c.new-in-Call.ensures.items c.as_slice-in-Call.ensures.value (λ m v. refl)

pub returns-in-Let-clause-turn : goal.returns-in-Let-clause-turn
returns-in-Let-clause-turn g c ds =
    turn_next g.B.Meaning ds c.args.start c.args.path.now c.args.objs.now c.args.envs.now c.args.frames.now c.args.term _ _ _ c.in-Let.terms.items c.args.env c.args.clock
    (exp.Let c.in-Let.names (terms_of c.in-Let.terms.items) (term_of c.deref-in-Let.result.now)) c.requires.ready
    (ap term_of c.in-Let.is ∙ (term_let _ _ _ ∙ ap (λ t. exp.Let c.in-Let.names (terms_of c.in-Let.terms.items) (term_of t)) (sym c.deref-in-Let.ensures))) c.new-in-Let.ensures.items c.as_slice-in-Let.ensures.value (λ m v. refl)

pub returns-in_ok-push-in-If-clause-terms : goal.returns-in_ok-push-in-If-clause-terms
returns-in_ok-push-in-If-clause-terms g c ds =
    terms_if ds c.args.frames.now _ c.args.term c.deref-in-If-2.result c.deref.result c.deref-in-If.result c.args.env c.args.clock c.in_ok-push-in-If.ensures.ok
    (ap term_of c.in-If.is ∙ (term_if _ _ _ ∙ (λ i. exp.If (term_of (sym c.deref-in-If-2.ensures i)) (term_of (sym c.deref.ensures i)) (term_of (sym c.deref-in-If.ensures i)))))

pub returns-in-Prim-clause-terms : goal.returns-in-Prim-clause-terms
returns-in-Prim-clause-terms g c ds =
    terms_next ds c.args.frames.now c.args.term (work.Prim c.in-Prim.prim) _ _ c.in-Prim.terms.items c.args.env c.args.clock c.as_slice.ensures.value
    (λ h. let p = subst (λ x. IsTermOf ds x) (ap term_of c.in-Prim.is ∙ term_prim _ _) h in (p.0 ∙ count_terms c.in-Prim.terms.items, p.1))

pub returns-in-Call-clause-terms : goal.returns-in-Call-clause-terms
returns-in-Call-clause-terms g c ds =
    terms_next ds c.args.frames.now c.args.term (work.Call c.in-Call.f) _ _ c.in-Call.terms.items c.args.env c.args.clock c.as_slice-in-Call.ensures.value
    (λ h. let p = subst (λ x. IsTermOf ds x) (ap term_of c.in-Call.is ∙ term_call _ _) h in (p.0 ∙ ap Some (count_terms c.in-Call.terms.items), p.1))

pub returns-in-Let-clause-terms : goal.returns-in-Let-clause-terms
returns-in-Let-clause-terms g c ds =
    terms_next ds c.args.frames.now c.args.term _ _ _ c.in-Let.terms.items c.args.env c.args.clock c.as_slice-in-Let.ensures.value
    (λ h. let p = subst (λ x. IsTermOf ds x) (ap term_of c.in-Let.is ∙ (term_let _ _ _ ∙ ap (λ t. exp.Let c.in-Let.names (terms_of c.in-Let.terms.items) (term_of t)) (sym c.deref-in-Let.ensures))) h in
    let counted : length c.in-Let.names ≡ length c.in-Let.terms.items = p.0 ∙ count_terms c.in-Let.terms.items in
    ((counted, p.2), p.1))

pub returns-in-Some-clause-falls : goal.returns-in-Some-clause-falls
returns-in-Some-clause-falls g c ds = falls_visited ds c.args.frames.now c.args.term c.args.env c.args.clock

pub returns-in_ok-nil-in-None-clause-falls : goal.returns-in_ok-nil-in-None-clause-falls
returns-in_ok-nil-in-None-clause-falls g c ds = falls_visited ds c.args.frames.now c.args.term c.args.env c.args.clock

pub returns-in-Ok-Some-clause-falls : goal.returns-in-Ok-Some-clause-falls
returns-in-Ok-Some-clause-falls g c ds = falls_visited ds c.args.frames.now c.args.term c.args.env c.args.clock

pub returns-in_ok-nil-in-Ok-None-clause-falls : goal.returns-in_ok-nil-in-Ok-None-clause-falls
returns-in_ok-nil-in-Ok-None-clause-falls g c ds = falls_visited ds c.args.frames.now c.args.term c.args.env c.args.clock

pub returns-in_ok-push-in-If-clause-falls : goal.returns-in_ok-push-in-If-clause-falls
returns-in_ok-push-in-If-clause-falls g c ds =
    falls_if ds c.args.frames.now _ c.args.term c.deref-in-If-2.result c.deref.result c.deref-in-If.result c.args.env c.args.clock c.in_ok-push-in-If.ensures.ok
    (ap term_of c.in-If.is ∙ (term_if _ _ _ ∙ (λ i. exp.If (term_of (sym c.deref-in-If-2.ensures i)) (term_of (sym c.deref.ensures i)) (term_of (sym c.deref-in-If.ensures i)))))

pub returns-in-Prim-clause-falls : goal.returns-in-Prim-clause-falls
returns-in-Prim-clause-falls g c ds =
    falls_next ds c.args.frames.now c.args.term 1 _ _ c.in-Prim.terms.items c.args.env c.args.clock (exp.Prim c.in-Prim.prim (terms_of c.in-Prim.terms.items))
    (ap term_of c.in-Prim.is ∙ term_prim _ _) c.new.ensures.items c.as_slice.ensures.value (omega arith)

pub returns-in-Call-clause-falls : goal.returns-in-Call-clause-falls
returns-in-Call-clause-falls g c ds =
    falls_next ds c.args.frames.now c.args.term (call_turns ds c.args.clock c.in-Call.f.number) _ _ c.in-Call.terms.items c.args.env c.args.clock (exp.Call c.in-Call.f.number (terms_of c.in-Call.terms.items))
    (ap term_of c.in-Call.is ∙ term_call _ _) c.new-in-Call.ensures.items c.as_slice-in-Call.ensures.value (omega arith)

pub returns-in-Let-clause-falls : goal.returns-in-Let-clause-falls
returns-in-Let-clause-falls g c ds =
    falls_next ds c.args.frames.now c.args.term (turns ds c.args.clock (term_of c.deref-in-Let.result.now) + 1) _ _ c.in-Let.terms.items c.args.env c.args.clock (exp.Let c.in-Let.names (terms_of c.in-Let.terms.items) (term_of c.deref-in-Let.result.now))
    (ap term_of c.in-Let.is ∙ (term_let _ _ _ ∙ ap (λ t. exp.Let c.in-Let.names (terms_of c.in-Let.terms.items) (term_of t)) (sym c.deref-in-Let.ensures))) c.new-in-Let.ensures.items c.as_slice-in-Let.ensures.value (omega arith)
