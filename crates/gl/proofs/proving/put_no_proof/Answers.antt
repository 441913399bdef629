use Rattle.gl_base.specs.declared.status.Status.TheVariants as status
use Rattle.gl.specs.Proving.{no_proof_line, none_due}
use Rattle.gl.proofs.ProofTold.{text_written, text_front_written}
use Rattle.gl.proofs.proving.put_no_proof.Goals as goal

pub returns-in-Ok-clause-written : goal.returns-in-Ok-clause-written
returns-in-Ok-clause-written g c bounds part text stalls due = text_written bounds part text _ _ stalls no_proof_line status.Undecided (none_due due) c.in-Ok.ensures.ok

pub returns-in-Err-clause-written : goal.returns-in-Err-clause-written
returns-in-Err-clause-written g c bounds part text stalls due = text_front_written bounds part text _ _ stalls no_proof_line status.Undecided (none_due due) c.in-Err.ensures.front
