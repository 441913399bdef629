use Rattle.std.proofs.Common.{◌∙◌, sym, subst, List}
use Rattle.bfr_store.specs.declared.edge.Edge.{Edge}
use Rattle.gl_interp.specs.Causes.{StandsOver}
use Rattle.gl_symbolic.specs.Decisions.{IsProper}
use Rattle.gl_symbolic.proofs.Narrowing.{stands_narrowed}
use Rattle.gl_symbolic.proofs.Stopped.{input_stop, ready_later, rests_then}
use Rattle.gl_symbolic.proofs.decide.conclude_narrowed.Goals as goal

pub returns-in-Err-symbolic_over-clause-proper : goal.returns-in-Err-symbolic_over-clause-proper
returns-in-Err-symbolic_over-clause-proper g c =
    let w = c.args.world.now in
    let thm = c.args.thm.now in
    let m = c.args.machine.now in
    subst (λ d. IsProper w m.steps m.arena.limit thm d) (sym c.stopped.ensures.by)
    (input_stop g.B.Meaning c.symbolic_over.new.objs w thm m c.in-Err-symbolic_over.fault c.count-count.ensures.total c.requires.hyp_term c.requires.ready c.in-Err-symbolic_over.ensures.cause)

pub conclude-requires-clause-ready : goal.conclude-requires-clause-ready
conclude-requires-clause-ready g c = ready_later c.args.world.now c.args.thm.now c.args.machine.now c.symbolic_over.new.machine c.symbolic_over.ensures.rests c.requires.ready

pub conclude-requires-clause-input : goal.conclude-requires-clause-input
conclude-requires-clause-input g c =
    let thm = c.args.thm.now in
    let old = c.index_edges.new.objs in
    let new = c.symbolic_over.new.objs in
    let edges = c.in-Ok.edges.items in
    let env = c.in-Ok-symbolic_over.env in
    let stands : StandsOver g.B.Meaning old new thm.bindings edges env = subst (λ (es : List Edge). StandsOver g.B.Meaning old new thm.bindings es env) c.deref.ensures.value c.in-Ok-symbolic_over.ensures.stands in
    stands_narrowed g.B.Meaning c.args.hyp old new thm edges env c.symbolic_over.ensures.keeps (c.index_edges.ensures.leaves.grows.store.stays c.args.hyp c.requires.hyp.live) c.in-Ok.ensures.edges (c.in-Ok.ensures.count ∙ c.bit_count.ensures.count) stands

pub returns-clause-rests : goal.returns-clause-rests
returns-clause-rests g c = rests_then c.args.machine.now c.symbolic_over.new.machine c.conclude.new.machine c.symbolic_over.ensures.rests c.conclude.ensures.rests
