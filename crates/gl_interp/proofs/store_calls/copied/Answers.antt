use Rattle.std.proofs.Common.{arith}
use Rattle.gl_interp.proofs.Copies.{copied_all}
use Rattle.gl_interp.proofs.store_calls.copied.Goals as goal

pub returns : goal.returns
returns c = copied_all c.args.a.now c.loop-k.copy c.args.width c.loop-k.k c.requires (omega (arith, c.loop-k-test.false, c.loop-k.auto.k-end)) c.loop-k.invariant
