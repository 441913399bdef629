use Rattle.std.proofs.Common.{arith}
use Rattle.gl_logic.specs.Assignments.{value_at}
use Rattle.gl_symbolic.proofs.Parameters.{read_all}
use Rattle.gl_symbolic.proofs.parametrised.through.Goals as goal

pub returns-clause-through : goal.returns-clause-through
returns-clause-through g c = read_all (λ e. g.B.Meaning.truth_of c.args.objs.now.store e (value_at c.args.a.now)) c.args.edges.now c.loop-k.found c.loop-k.k (omega (arith, c.loop-k-test.false, c.loop-k.auto.k-end)) c.loop-k.invariant.read
