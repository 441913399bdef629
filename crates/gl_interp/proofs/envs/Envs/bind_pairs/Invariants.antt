use Rattle.gl_interp.proofs.Cells.{IsPaired}
use Rattle.gl_interp.proofs.envs.Envs.bind_pairs.Given as goal

abbrev pub invariant-loop-k : goal.invariant-loop-k
invariant-loop-k l = IsPaired l.fn.self l.self l.pairs l.at.number l.k

abbrev pub decreases-loop-k : goal.decreases-loop-k
decreases-loop-k l = l.k
