use Rattle.std.proofs.Common.{◌≡◌}
use Rattle.gl_logic.specs.TermOf.{terms_of}
use Rattle.gl_interp.specs.Placed.{variables_from}
use Rattle.gl_interp.proofs.calls.call_of_variables.Given as goal

abbrev pub invariant-loop-number : goal.invariant-loop-number
invariant-loop-number l = terms_of l.terms.items ≡ variables_from 0 l.number
