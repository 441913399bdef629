use Rattle.std.proofs.Common.{ap, cond, ◌∙◌, get_or, []}
use Rattle.gl_logic.specs.TermOf.{term_of}
use Rattle.sym_objects.specs.Seen.{stands_for}
use Rattle.sym_prims.proofs.Leaving.{leaves_then}
use Rattle.gl_interp.proofs.FlatTurns.{got, stands_branches}
use Rattle.gl_interp.proofs.flats.both.Goals as goal

pub returns-clause-value : goal.returns-clause-value
returns-clause-value g c =
    let first = c.in_ok-x.ensures in
    let second = c.in_ok-y.ensures in
    let kept = leaves_then g.B.Meaning c.args.objs.now c.flat.new.objs c.flat-2.new.objs first.leaves second.leaves in
    let s = c.flat-2.new.objs in
    stands_branches g.B.Meaning (get_or c.args.envs.now c.args.env.number []) c.args.objs.now c.flat.new.objs s c.merge.new.self (term_of c.args.a.now) (term_of c.args.b.now) c.in-Some.x c.in-Some-2.y c.in_ok-merge.field-0
    (g.B.Meaning.truth_of c.args.objs.now.store c.args.test) first.leaves second.leaves (c.requires.look.below c.args.env.number) (got _ _ _ c.in-Some.is first.live) (got _ _ _ c.in-Some.is first.value) (got _ _ _ c.in-Some-2.is second.value)
    (λ v. c.in_ok-merge.ensures.makes.means v ∙ ap (λ t. cond t (stands_for g.B.Meaning s c.in-Some.x v) (stands_for g.B.Meaning s c.in-Some-2.y v)) (kept.grows.store.same c.args.test v c.requires.test))
