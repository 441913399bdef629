use Rattle.std.proofs.Common.{◌∙◌}
use Rattle.sym_prims.proofs.Leaving.{leaves_of, leaves_then}
use Rattle.gl_interp.specs.declared.frame.Frame.TheVariants as frame
use Rattle.gl_interp.proofs.BranchTurns.{turn_first, turn_parts, turn_second}
use Rattle.gl_interp.proofs.FlatTurns.{got, turn_merged}
use Rattle.gl_interp.proofs.TermsLeft.{terms_both, terms_first, terms_join, terms_second}
use Rattle.gl_interp.proofs.Falling.{falls_both, falls_first, falls_merged, falls_second}
use Rattle.gl_interp.proofs.results.branch.Goals as goal

pub returns-in-First-clause-turn : goal.returns-in-First-clause-turn
returns-in-First-clause-turn g c ds =
    let made = c.in_ok-test.ensures.makes in
    let kept = c.in_ok-x.ensures.leaves in
    turn_first g.B.Meaning ds c.args.start c.args.path.now c.args.objs.now c.merged.new.objs c.split.new.objs c.args.envs.now c.args.frames.now c.args.a c.args.b c.args.env c.args.clock c.args.object c.in_ok-test.test
    (leaves_then g.B.Meaning c.args.objs.now c.truth.new.self c.merged.new.objs (leaves_of g.B.Meaning c.args.objs.now c.truth.new.self made.keeps) kept) c.in_ok-split.ensures.leaves c.requires.ready (kept.grows.store.stays _ made.live) (λ z. kept.grows.store.same _ z made.live ∙ made.truth z) c.in_ok-split.field-0 c.in-First.is c.in_ok-split.ensures.split

pub returns-in-Second-clause-turn : goal.returns-in-Second-clause-turn
returns-in-Second-clause-turn g c ds =
    let made = c.in_ok-test.ensures.makes in
    let kept = c.in_ok-x.ensures.leaves in
    turn_second g.B.Meaning ds c.args.start c.args.path.now c.args.objs.now c.merged.new.objs c.split.new.objs c.args.envs.now c.args.frames.now c.args.a c.args.b c.args.env c.args.clock c.args.object c.in_ok-test.test
    (leaves_then g.B.Meaning c.args.objs.now c.truth.new.self c.merged.new.objs (leaves_of g.B.Meaning c.args.objs.now c.truth.new.self made.keeps) kept) c.in_ok-split.ensures.leaves c.requires.ready (kept.grows.store.stays _ made.live) (λ z. kept.grows.store.same _ z made.live ∙ made.truth z) c.in_ok-split.field-0 c.in-Second.is c.in_ok-split.ensures.split

pub returns-in_ok-push-in-Both-clause-turn : goal.returns-in_ok-push-in-Both-clause-turn
returns-in_ok-push-in-Both-clause-turn g c ds =
    let made = c.in_ok-test.ensures.makes in
    let kept = c.in_ok-x.ensures.leaves in
    turn_parts g.B.Meaning ds c.args.start c.args.path.now c.args.objs.now c.merged.new.objs c.split.new.objs c.args.envs.now c.args.frames.now c.args.a c.args.b c.args.env c.args.clock c.args.object c.in_ok-test.test
    (leaves_then g.B.Meaning c.args.objs.now c.truth.new.self c.merged.new.objs (leaves_of g.B.Meaning c.args.objs.now c.truth.new.self made.keeps) kept) c.in_ok-split.ensures.leaves c.requires.ready (kept.grows.store.stays _ made.live) (λ z. kept.grows.store.same _ z made.live ∙ made.truth z) c.push.new.self c.in_ok-split.field-0 c.in-Both.first c.in-Both.second c.in-Both.is
    c.in_ok-push-in-Both.ensures.ok c.in_ok-split.ensures.split

pub returns-in-First-clause-terms : goal.returns-in-First-clause-terms
returns-in-First-clause-terms g c ds = terms_first ds c.args.frames.now c.args.a c.args.b c.args.env c.args.clock c.args.object

pub returns-in-Second-clause-terms : goal.returns-in-Second-clause-terms
returns-in-Second-clause-terms g c ds = terms_second ds c.args.frames.now c.args.a c.args.b c.args.env c.args.clock c.args.object

pub returns-in_ok-push-in-Both-clause-terms : goal.returns-in_ok-push-in-Both-clause-terms
returns-in_ok-push-in-Both-clause-terms g c ds =
    terms_both ds c.args.frames.now c.push.new.self c.args.a c.args.b c.args.env c.args.clock c.args.object c.in_ok-test.test c.args.path.now.edge c.in-Both.second c.in_ok-push-in-Both.ensures.ok

pub returns-in-First-clause-falls : goal.returns-in-First-clause-falls
returns-in-First-clause-falls g c ds = falls_first ds c.args.frames.now c.args.a c.args.b c.args.env c.args.clock c.args.object

pub returns-in-Second-clause-falls : goal.returns-in-Second-clause-falls
returns-in-Second-clause-falls g c ds = falls_second ds c.args.frames.now c.args.a c.args.b c.args.env c.args.clock c.args.object

pub returns-in_ok-push-in-Both-clause-falls : goal.returns-in_ok-push-in-Both-clause-falls
returns-in_ok-push-in-Both-clause-falls g c ds =
    falls_both ds c.args.frames.now c.push.new.self c.args.a c.args.b c.args.env c.args.clock c.args.object c.in_ok-test.test c.args.path.now.edge c.in-Both.second c.in_ok-push-in-Both.ensures.ok

pub returns-in-Some-clause-turn : goal.returns-in-Some-clause-turn
returns-in-Some-clause-turn g c ds =
    let made = c.in_ok-test.ensures.makes in
    let done = c.in_ok-x.ensures in
    let kept = leaves_of g.B.Meaning c.args.objs.now c.truth.new.self made.keeps in
    turn_merged g.B.Meaning ds c.args.start c.args.path.now c.args.objs.now c.truth.new.self c.merged.new.objs c.args.envs.now c.args.frames.now kept (leaves_then g.B.Meaning c.args.objs.now c.truth.new.self c.merged.new.objs kept done.leaves)
    c.args.a c.args.b c.args.env c.args.clock c.args.object _ c.in-Some.x c.requires.ready made.truth (got _ _ _ c.in-Some.is done.live) (got _ _ _ c.in-Some.is done.value)

pub returns-in-Some-clause-terms : goal.returns-in-Some-clause-terms
returns-in-Some-clause-terms g c ds = terms_join ds c.args.frames.now (frame.Test c.args.a c.args.b c.args.env c.args.clock) c.args.object c.in-Some.x

pub returns-in-Some-clause-falls : goal.returns-in-Some-clause-falls
returns-in-Some-clause-falls g c ds = falls_merged ds c.args.frames.now c.args.a c.args.b c.args.env c.args.clock c.args.object c.in-Some.x
