use Rattle.std.proofs.Common.{ℕ, Bool}
use Rattle.gl_logic.specs.WorldSeen.{WorldSeen}
use Rattle.lisp_eval.specs.Machines.{Fits}
use Rattle.gl_interp.specs.Calls.{values_under}
use Rattle.gl_interp.specs.Placed.{Grows}
use Rattle.gl_interp.proofs.Calling.{IsPlacing}
use Rattle.gl_interp.proofs.calls.place.Given as goal

abbrev pub invariant-loop-i : goal.invariant-loop-i
invariant-loop-i g l = record {
  placing : (a : ℕ → Bool) → IsPlacing (values_under g.B.Meaning l.objs l.args a) l.fn.machine l.machine l.env l.i;
  grows : Grows l.fn.machine l.machine;
  fits : (w : WorldSeen) → Fits w l.fn.machine → Fits w l.machine;
}
