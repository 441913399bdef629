use Rattle.std.proofs.Common.{◌≡◌, drop}
use Rattle.gl_logic.specs.Counts.{is_among}
use Rattle.lisp_eval.proofs.calls.is_memoized.Given as goal

abbrev pub invariant-loop-g : goal.invariant-loop-g
invariant-loop-g l = is_among (drop l.g-index l.functions) l.f.number ≡ is_among l.functions l.f.number
