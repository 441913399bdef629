use Rattle.std.proofs.Common.{◌≡◌, drop}
use Rattle.gl_logic.specs.TermOf.{terms_of}
use Rattle.event_world.specs.CallsOf.{have_call, is_between}
use Rattle.event_world.proofs.calls.+calls.Given as goal

abbrev pub invariant-have_call-loop-term : goal.invariant-have_call-loop-term
invariant-have_call-loop-term l = have_call (is_between l.first l.count) (terms_of (drop l.term-index l.terms)) ≡ have_call (is_between l.first l.count) (terms_of l.terms)
