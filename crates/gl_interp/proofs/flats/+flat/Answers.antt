use Rattle.std.proofs.Common.{◌≡◌, ℕ, Bool, sym, ap, ◌∙◌, get_or, [], subst}
use Rattle.gl_logic.specs.Exp as exp
use Rattle.gl_logic.specs.TermOf.{term_of}
use Rattle.sym_objects.specs.Seen.{stands_for}
use Rattle.sym_prims.proofs.Leaving.{leaves_of}
use Rattle.gl_interp.specs.Environments.{env_under}
use Rattle.gl_interp.specs.FlatValues.{IsPlainValue, StandsForTerm}
use Rattle.gl_interp.proofs.Terms.{term_const, term_if, term_var}
use Rattle.gl_interp.proofs.FlatTurns.{got, look_after, plain_const, some_then, stands_if}
use Rattle.gl_interp.proofs.flats.+flat.Goals as goal

pub returns-in_ok-variable-in-Var-clause-value : goal.returns-in_ok-variable-in-Var-clause-value
returns-in_ok-variable-in-Var-clause-value g t c a =
    subst (λ e. IsPlainValue (env_under g.B.Meaning c.args.objs.now (get_or c.args.envs.now c.args.env.number []) a) e (stands_for g.B.Meaning c.variable.new.objs c.in_ok-variable-in-Var.field-0 a)) (sym (ap term_of c.in-Var.is ∙ term_var _)) (c.in_ok-variable-in-Var.ensures.value a)

pub returns-in_ok-chosen-in-If-clause-value : goal.returns-in_ok-chosen-in-If-clause-value
returns-in_ok-chosen-in-If-clause-value g t c =
    let first = c.in_ok-t-in-If.ensures in
    let second = c.in_ok-x-in-If.ensures in
    let third = c.in_ok-y-in-If.ensures in
    let tested = c.in_ok-edge-in-If.ensures.makes in
    stands_if g.B.Meaning (get_or c.args.envs.now c.args.env.number []) c.args.objs.now c.flat.new.objs c.flat-in-If.new.objs c.flat-in-If-2.new.objs c.truth.new.self c.chosen.new.objs
    (term_of c.args.term.now) (term_of c.deref.result.now) (term_of c.deref-in-If.result.now) (term_of c.deref-in-If-2.result.now) c.in-Some.t c.in-Some-2.x c.in-Some-3.y _ _
    first.leaves second.leaves third.leaves (leaves_of g.B.Meaning c.flat-in-If-2.new.objs c.truth.new.self tested.keeps) (c.requires.look.below c.args.env.number)
    (ap term_of c.in-If.is ∙ (term_if _ _ _ ∙ (λ i. exp.If (term_of (sym c.deref.ensures i)) (term_of (sym c.deref-in-If.ensures i)) (term_of (sym c.deref-in-If-2.ensures i)))))
    (got _ _ _ c.in-Some.is first.live) (got _ _ _ c.in-Some-2.is second.live) (got _ _ _ c.in-Some-3.is third.live)
    (got _ _ _ c.in-Some.is first.value) (got _ _ _ c.in-Some-2.is second.value) (got _ _ _ c.in-Some-3.is third.value) tested.truth c.in_ok-chosen-in-If.ensures.means

pub returns-in_ok-variable-in-Var-clause-look : goal.returns-in_ok-variable-in-Var-clause-look
returns-in_ok-variable-in-Var-clause-look g t c = look_after g.B.Meaning c.args.objs.now c.variable.new.objs c.args.envs.now c.args.env.number c.in_ok-variable-in-Var.ensures.leaves c.requires.look

pub returns-in_ok-made-in-Const-clause-look : goal.returns-in_ok-made-in-Const-clause-look
returns-in_ok-made-in-Const-clause-look g t c = look_after g.B.Meaning c.args.objs.now c.placed.new.objs c.args.envs.now c.args.env.number c.in_ok-made-in-Const.ensures.leaves c.requires.look

pub returns-in_ok-made-in-Const-clause-value : goal.returns-in_ok-made-in-Const-clause-value
returns-in_ok-made-in-Const-clause-value g t c =
    some_then (λ r. (a : ℕ → Bool) → stands_for g.B.Meaning c.placed.new.objs r a ≡ c.in-Const.tree) (StandsForTerm g.B.Meaning c.args.objs.now c.placed.new.objs (get_or c.args.envs.now c.args.env.number []) (term_of c.args.term.now)) c.in_ok-made-in-Const.made
    (λ r means a.
    subst (λ e. IsPlainValue (env_under g.B.Meaning c.args.objs.now (get_or c.args.envs.now c.args.env.number []) a) e (stands_for g.B.Meaning c.placed.new.objs r a)) (sym (ap term_of c.in-Const.is ∙ term_const _))
    (plain_const (env_under g.B.Meaning c.args.objs.now (get_or c.args.envs.now c.args.env.number []) a) c.in-Const.tree (stands_for g.B.Meaning c.placed.new.objs r a) (means a))) c.in_ok-made-in-Const.ensures.means

pub returns-in_ok-chosen-in-If-clause-look : goal.returns-in_ok-chosen-in-If-clause-look
returns-in_ok-chosen-in-If-clause-look g t c =
    look_after g.B.Meaning c.truth.new.self c.chosen.new.objs c.args.envs.now c.args.env.number c.in_ok-chosen-in-If.ensures.leaves
    (look_after g.B.Meaning c.flat-in-If-2.new.objs c.truth.new.self c.args.envs.now c.args.env.number (leaves_of g.B.Meaning c.flat-in-If-2.new.objs c.truth.new.self c.in_ok-edge-in-If.ensures.makes.keeps) c.in_ok-y-in-If.ensures.look)
