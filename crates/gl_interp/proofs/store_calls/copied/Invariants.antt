use Rattle.gl_interp.proofs.Copies.{IsCopied}
use Rattle.gl_interp.proofs.store_calls.copied.Given as goal

abbrev pub invariant-loop-k : goal.invariant-loop-k
invariant-loop-k l = IsCopied l.a l.copy l.width l.k
