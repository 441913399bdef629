use Rattle.std.proofs.Common.{◌≡◌, take}
use Rattle.explain_findings.specs.Founds.{input_seen}
use Rattle.explain_findings.proofs.found.inputs_in.Given as goal

abbrev pub invariant-loop-i : goal.invariant-loop-i
invariant-loop-i l = input_seen l.inputs.items ≡ take l.i l.input
