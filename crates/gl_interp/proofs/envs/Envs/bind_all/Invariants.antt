use Rattle.gl_interp.proofs.Cells.{IsBound}
use Rattle.gl_interp.proofs.envs.Envs.bind_all.Given as goal

abbrev pub invariant-loop-k : goal.invariant-loop-k
invariant-loop-k l = IsBound l.fn.self l.self l.names l.values l.fn.env.number l.at.number l.k

abbrev pub decreases-loop-k : goal.decreases-loop-k
decreases-loop-k l = l.k
