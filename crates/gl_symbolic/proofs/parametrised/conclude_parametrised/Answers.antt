use Rattle.std.proofs.Common.{◌∙◌, sym, subst}
use Rattle.sym_objects.proofs.Keeping.{grows_of}
use Rattle.gl_symbolic.specs.Decisions.{IsProper}
use Rattle.gl_symbolic.proofs.Parameters.{parametrises_later, stands_at}
use Rattle.gl_symbolic.proofs.Stopped.{input_stop, ready_later, rests_then}
use Rattle.gl_symbolic.proofs.parametrised.conclude_parametrised.Goals as goal

pub returns-in-Err-clause-proper : goal.returns-in-Err-clause-proper
returns-in-Err-clause-proper g c =
    let w = c.args.world.now in
    let thm = c.args.thm.now in
    let m = c.args.machine.now in
    subst (λ d. IsProper w m.steps m.arena.limit thm d) (sym c.stopped.ensures.by)
    (input_stop g.B.Meaning c.symbolic_over.new.objs w thm m c.in-Err.fault c.count-count.ensures.total c.requires.hyp_term c.requires.ready c.in-Err.ensures.cause)

pub conclude_at-requires-clause-ready : goal.conclude_at-requires-clause-ready
conclude_at-requires-clause-ready g c = ready_later c.args.world.now c.args.thm.now c.args.machine.now c.symbolic_over.new.machine c.symbolic_over.ensures.rests c.requires.ready

pub returns-in-Ok-clause-rests : goal.returns-in-Ok-clause-rests
returns-in-Ok-clause-rests g c = rests_then c.args.machine.now c.symbolic_over.new.machine c.conclude_at.new.machine c.symbolic_over.ensures.rests c.conclude_at.ensures.rests

pub conclude_at-requires-clause-vector : goal.conclude_at-requires-clause-vector
conclude_at-requires-clause-vector g c = parametrises_later g.B.Meaning c.args.objs.now c.symbolic_over.new.objs (grows_of g.B.Meaning c.args.objs.now c.symbolic_over.new.objs c.in-Ok.ensures.keeps) c.args.hyp _ c.args.edges.now c.requires.hyp.live c.requires.vector

pub conclude_at-requires-clause-input : goal.conclude_at-requires-clause-input
conclude_at-requires-clause-input g c = stands_at g.B.Meaning c.args.objs.now c.symbolic_over.new.objs c.args.thm.now c.args.edges.now c.in-Ok.env (grows_of g.B.Meaning c.args.objs.now c.symbolic_over.new.objs c.in-Ok.ensures.keeps) c.requires.vector.live c.in-Ok.ensures.stands
