use Rattle.std.proofs.Common.{arith}
use Rattle.gl_interp.proofs.Cells.{count_at, empty_at}
use Rattle.gl_interp.proofs.envs.Envs.empty.Goals as goal

pub returns-clause-live : goal.returns-clause-live
returns-clause-live c = omega (arith, count_at c.self.inside.cells.items c.args.self.now c.self.view_is)

pub returns-clause-empty : goal.returns-clause-empty
returns-clause-empty c = empty_at c.self.inside.cells.items c.args.self.now c.self.view_is
