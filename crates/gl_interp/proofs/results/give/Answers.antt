use Rattle.std.proofs.Common.{refl, sym, subst, ◌∷◌, List, IfOk}
use Rattle.gl_interp.specs.declared.frame.Frame.{Frame}
use Rattle.gl_interp.specs.declared.frame.Focus.TheVariants as focus
use Rattle.gl_logic.specs.Definition.{Definition}
use Rattle.gl_interp.specs.Running.{AreTerms, Turn}
use Rattle.gl_interp.specs.TurnsLeft.{Falls}
use Rattle.gl_interp.proofs.GiveTurns.{turn_other_at, turn_done_at, turn_join_at}
use Rattle.sym_prims.proofs.Leaving.{leaves_of}
use Rattle.gl_interp.proofs.TermsLeft.{terms_done, terms_join, terms_other}
use Rattle.gl_interp.proofs.Falling.{falls_done, falls_join, falls_other}
use Rattle.gl_interp.proofs.results.give.Goals as goal

pub returns-in-Test-clause-turn : goal.returns-in-Test-clause-turn
returns-in-Test-clause-turn g c =
    subst (λ (f : Frame). IfOk c.branch-alloc.result (λ h. (ds : List Definition) → Turn g.B.Meaning ds c.args.start c.args.objs.now c.args.envs.now (f ∷ c.args.frames.now) (focus.Give c.args.object) c.branch-alloc.new.objs c.args.envs.now c.branch-alloc.new.path c.branch-alloc.new.frames h))
    (sym c.in-Test.is) c.branch-alloc.ensures.turn

pub returns-in_ok-push-in-Other-clause-turn : goal.returns-in_ok-push-in-Other-clause-turn
returns-in_ok-push-in-Other-clause-turn g c ds =
    turn_other_at g.B.Meaning ds c.args.start c.args.path.now c.args.objs.now c.args.envs.now c.args.frames.now c.push.new.self c.args.frame c.in-Other.test c.in-Other.saved c.in-Other.rest _ c.in-Other.b c.in-Other.env c.in-Other.clock c.args.object
    c.in-Other.is c.in_ok-push-in-Other.ensures.ok refl c.take-found.ensures.value c.requires.ready

pub returns-in_ok-merge-in-Join-clause-turn : goal.returns-in_ok-merge-in-Join-clause-turn
returns-in_ok-merge-in-Join-clause-turn g c ds =
    turn_join_at g.B.Meaning ds c.args.start c.args.path.now c.args.objs.now c.merge.new.self c.args.envs.now (leaves_of g.B.Meaning c.args.objs.now c.merge.new.self c.in_ok-merge-in-Join.ensures.makes.keeps) c.args.frames.now c.args.frame c.in-Join.test c.in-Join.saved c.go_back.new.path c.in-Join.first c.args.object _
    c.in-Join.is c.go_back.ensures.edge c.go_back.ensures.found c.requires.ready c.in_ok-merge-in-Join.ensures.makes.live c.in_ok-merge-in-Join.ensures.makes.means

pub returns-in_ok-push-in-Arguments-clause-turn : goal.returns-in_ok-push-in-Arguments-clause-turn
returns-in_ok-push-in-Arguments-clause-turn g c ds =
    turn_done_at g.B.Meaning ds c.args.start c.args.path.now c.args.objs.now c.args.envs.now c.args.frames.now c.args.frame c.in-Arguments.work c.in-Arguments.done _ c.in-Arguments.terms c.in-Arguments.env c.in-Arguments.clock c.args.object
    c.in-Arguments.is c.in_ok-push-in-Arguments.ensures.items c.requires.ready

pub returns-in-Test-clause-terms : goal.returns-in-Test-clause-terms
returns-in-Test-clause-terms g c =
    subst (λ (f : Frame). IfOk c.branch-alloc.result (λ h. (ds : List Definition) → AreTerms ds (f ∷ c.args.frames.now) (focus.Give c.args.object) → AreTerms ds c.branch-alloc.new.frames h)) (sym c.in-Test.is) c.branch-alloc.ensures.terms

pub returns-in_ok-push-in-Other-clause-terms : goal.returns-in_ok-push-in-Other-clause-terms
returns-in_ok-push-in-Other-clause-terms g c ds =
    terms_other ds c.args.frames.now c.push.new.self c.args.frame c.in-Other.test c.in-Other.saved c.in-Other.rest _ c.in-Other.b c.in-Other.env c.in-Other.clock c.args.object c.in-Other.is c.in_ok-push-in-Other.ensures.ok

pub returns-in_ok-merge-in-Join-clause-terms : goal.returns-in_ok-merge-in-Join-clause-terms
returns-in_ok-merge-in-Join-clause-terms g c ds = terms_join ds c.args.frames.now c.args.frame c.args.object _

pub returns-in_ok-push-in-Arguments-clause-terms : goal.returns-in_ok-push-in-Arguments-clause-terms
returns-in_ok-push-in-Arguments-clause-terms g c ds =
    terms_done ds c.args.frames.now c.args.frame c.in-Arguments.work c.in-Arguments.done _ c.in-Arguments.terms c.in-Arguments.env c.in-Arguments.clock c.args.object c.in-Arguments.is

pub returns-in-Test-clause-falls : goal.returns-in-Test-clause-falls
returns-in-Test-clause-falls g c =
    subst (λ (f : Frame). IfOk c.branch-alloc.result (λ h. (ds : List Definition) → Falls ds (f ∷ c.args.frames.now) (focus.Give c.args.object) c.branch-alloc.new.frames h)) (sym c.in-Test.is) c.branch-alloc.ensures.falls

pub returns-in_ok-push-in-Other-clause-falls : goal.returns-in_ok-push-in-Other-clause-falls
returns-in_ok-push-in-Other-clause-falls g c ds =
    falls_other ds c.args.frames.now c.push.new.self c.args.frame c.in-Other.test c.in-Other.saved c.in-Other.rest _ c.in-Other.b c.in-Other.env c.in-Other.clock c.args.object c.in-Other.is c.in_ok-push-in-Other.ensures.ok

pub returns-in_ok-merge-in-Join-clause-falls : goal.returns-in_ok-merge-in-Join-clause-falls
returns-in_ok-merge-in-Join-clause-falls g c ds = falls_join ds c.args.frames.now c.args.frame c.in-Join.test c.in-Join.saved c.in-Join.first c.args.object c.in-Join.is

pub returns-in_ok-push-in-Arguments-clause-falls : goal.returns-in_ok-push-in-Arguments-clause-falls
returns-in_ok-push-in-Arguments-clause-falls g c ds =
    falls_done ds c.args.frames.now c.args.frame c.in-Arguments.work c.in-Arguments.done _ c.in-Arguments.terms c.in-Arguments.env c.in-Arguments.clock c.args.object c.in-Arguments.is c.in_ok-push-in-Arguments.ensures.items
