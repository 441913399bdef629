use Rattle.std.proofs.Common.{refl, inl, subst}
use Rattle.gl_decide.specs.Bounds.{bounds_of}
use Rattle.gl_book.specs.LastFound.{IsLast}
use Rattle.gl.proofs.ProofTold.{nothing_written}
use Rattle.gl.proofs.proving.prove_text.Goals as goal

pub returns-in-Ok-None-clause-written : goal.returns-in-Ok-None-clause-written
returns-in-Ok-None-clause-written g c =
    let bounds = bounds_of c.args.proof.now.limits in
    c.put_no_proof.ensures.written bounds c.args.proof.now.part c.args.text.now c.args.out.now.stalls (inl (subst (IsLast bounds c.args.text.now) c.in-Ok-None.field-0-is c.in-Ok-None.ensures.last))

pub returns-in-Ok-Found-clause-written : goal.returns-in-Ok-Found-clause-written
returns-in-Ok-Found-clause-written g c =
    c.prove_last.ensures.written c.args.text.now (subst (IsLast (bounds_of c.args.proof.now.limits) c.args.text.now) c.in-Ok-Found.field-0-is c.in-Ok-Found.ensures.last)

pub returns-in-Err-clause-written : goal.returns-in-Err-clause-written
returns-in-Err-clause-written g c = nothing_written (bounds_of c.args.proof.now.limits) c.args.proof.now.part c.args.text.now _ _ c.args.out.now.stalls _ refl refl
