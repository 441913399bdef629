use Rattle.std.proofs.Common.{sym, ◌∙◌}
use Rattle.gl_logic.specs.Assignments.{value_at}
use Rattle.sym_prims.proofs.Leaving.{leaves_lent, truth_lent}
use Rattle.gl_symbolic.proofs.certifying_store.settled.Goals as goal

pub returns-clause-leaves : goal.returns-clause-leaves
returns-clause-leaves g c = leaves_lent g.B.Meaning c.args.objs.now c.store.result.now c.settle.new.self c.store.ensures.now c.requires.whole c.settle.ensures.grows c.settle.ensures.width

pub returns-clause-never : goal.returns-clause-never
returns-clause-never g c is a =
    sym (truth_lent g.B.Meaning c.args.objs.now c.store.result.now c.settle.new.self c.args.edge a c.store.ensures.now c.settle.ensures.grows c.requires.edge) ∙ c.settle.ensures.never is a

pub returns-clause-sometimes : goal.returns-clause-sometimes
returns-clause-sometimes g c is =
    sym (truth_lent g.B.Meaning c.args.objs.now c.store.result.now c.settle.new.self c.args.edge (value_at c.settle.new.out) c.store.ensures.now c.settle.ensures.grows c.requires.edge) ∙ c.settle.ensures.sometimes is
