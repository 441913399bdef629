use Rattle.sym_prims.proofs.Leaving.{leaves_lent}
use Rattle.gl_symbolic.proofs.Parameters.{grows_of}
use Rattle.gl_symbolic.proofs.parametrised.truth.Goals as goal

pub returns-clause-leaves : goal.returns-clause-leaves
returns-clause-leaves g c = leaves_lent g.B.Meaning c.args.objs.now c.store.result.now c.value.new.self c.store.ensures.now c.requires.whole (grows_of g.B.Meaning c.store.result.now c.value.new.self c.value.ensures.keeps) c.value.ensures.keeps.same_width
