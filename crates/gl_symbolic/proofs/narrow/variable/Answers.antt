use Rattle.gl_symbolic.proofs.Narrowing.{variable_told}
use Rattle.gl_symbolic.proofs.narrow.variable.Goals as goal

pub returns : goal.returns
returns g c = record { tells = variable_told g.B.Meaning c.args.objs.now c.store.result.now c.var.new.self c.var.result c.args.k c.store.ensures.now c.requires.whole c.requires.there c.var.ensures.makes }
