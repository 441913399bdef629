use Rattle.std.proofs.Common.{refl, arith}
use Rattle.gl_interp.proofs.VariableTerms.{terms_push}
use Rattle.gl_interp.proofs.calls.call_of_variables.Goals as goal

pub loop-number-preserved : goal.loop-number-preserved
loop-number-preserved c = terms_push c.loop-number.terms.items c.push.new.self.items (record { number = c.loop-number.number }) c.loop-number.number _ c.in_ok-push.ensures.items refl (omega arith) c.loop-number.invariant
