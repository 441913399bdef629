use Rattle.std.proofs.Common.{◌≡◌, refl, rules}
use Rattle.gl_base.specs.declared.status.Status.TheVariants as status
use Rattle.gl.specs.Proving.{part_text}
use Rattle.gl.proofs.ProofTold.{nothing_written, text_written, text_front_written}
use Rattle.gl.proofs.proving.put_part.Goals as goal

pub returns-in-Ok-put_text-clause-written : goal.returns-in-Ok-put_text-clause-written
returns-in-Ok-put_text-clause-written g c bounds text stalls tells =
    let whole : c.deref.result.now ≡ part_text c.args.part c.args.book.now = search rules in
    text_written bounds c.args.part text _ _ stalls (part_text c.args.part c.args.book.now) status.Good tells (rw whole at c.in-Ok-put_text.ensures.ok)

pub returns-clause-written : goal.returns-clause-written
returns-clause-written g c bounds text stalls tells =
    let whole : c.deref.result.now ≡ part_text c.args.part c.args.book.now = search rules in
    text_front_written bounds c.args.part text _ _ stalls (part_text c.args.part c.args.book.now) status.Good tells (rw whole at c.in-Err.ensures.front)

pub returns-in_default-clause-written : goal.returns-in_default-clause-written
returns-in_default-clause-written g c bounds text stalls tells = nothing_written bounds c.args.part text _ _ stalls stalls refl refl
