use Rattle.std.proofs.Common.{refl, rules}
use Rattle.gl_book.specs.Entry.{verdict_stalls}
use Rattle.gl_book.specs.Lines.{verdict_lines}
use Rattle.gl.specs.Proving.{open_status}
use Rattle.gl.proofs.ProofTold.{all_told, front_told, nothing_written}
use Rattle.gl.proofs.proving.put_verdict.Goals as goal

pub returns-in-Ok-put_told-clause-written : goal.returns-in-Ok-put_told-clause-written
returns-in-Ok-put_told-clause-written g c bounds part text tells =
    all_told bounds part text _ _ c.args.out.now.stalls _ (verdict_lines c.args.texts.now c.args.thm.now.name.number c.args.verdict) (verdict_stalls c.args.verdict) (open_status c.args.verdict) tells
    c.in-Ok.ensures.lines c.in-Ok-put_told.ensures.ok (search rules) c.status_of-status.ensures.status

pub returns-clause-written : goal.returns-clause-written
returns-clause-written g c bounds part text tells =
    front_told bounds part text _ _ c.args.out.now.stalls _ (verdict_lines c.args.texts.now c.args.thm.now.name.number c.args.verdict) (verdict_stalls c.args.verdict) (open_status c.args.verdict) tells
    c.in-Ok.ensures.lines c.in-Err.ensures.front (search rules)

pub returns-in_default-clause-written : goal.returns-in_default-clause-written
returns-in_default-clause-written g c bounds part text tells = nothing_written bounds part text _ _ c.args.out.now.stalls c.args.out.now.stalls refl refl

pub returns-in_default-keep_stall-clause-written : goal.returns-in_default-keep_stall-clause-written
returns-in_default-keep_stall-clause-written g c bounds part text tells = nothing_written bounds part text _ _ c.args.out.now.stalls _ refl (search rules)
