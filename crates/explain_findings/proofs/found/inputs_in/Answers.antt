use Rattle.explain_findings.proofs.Founds.{seen_next}
use Rattle.explain_findings.proofs.found.inputs_in.Goals as goal

pub loop-i-preserved : goal.loop-i-preserved
loop-i-preserved c = seen_next c.args.input.now c.loop-i.i c.loop-i.inputs.items _ c.in_ok-input_at.field-0 c.in_ok-push.ensures.items c.loop-i.invariant (rw (c.in_ok-input_at.ensures.variable, c.in_ok-input_at.ensures.object) c.at.ensures)
