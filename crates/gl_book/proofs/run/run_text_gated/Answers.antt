use Rattle.std.proofs.Common.{sym, subst}
use Rattle.gl_decide.specs.Bounds.{bounds_of}
use Rattle.gl_book.specs.Transcript.{EndsWith}
use Rattle.gl_book.proofs.Ends.{ends_with}
use Rattle.gl_book.proofs.run.run_text_gated.Goals as goal

pub status_of_run-requires : goal.status_of_run-requires
status_of_run-requires g c = c.write_text.ensures.written.reported

pub returns-clause-written : goal.returns-clause-written
returns-clause-written g c =
    subst (EndsWith (bounds_of c.args.run.now.limits.now) c.args.text.now c.args.run.now.last_only _ _ _ _) (sym c.status_of_run.ensures.status)
    (ends_with (bounds_of c.args.run.now.limits.now) c.args.text.now c.args.run.now.last_only _ _ _ _ c.write_text.result c.write_text.ensures.written)

pub returns-in-Some-clause-written : goal.returns-in-Some-clause-written
returns-in-Some-clause-written g c = c.refuse_long.ensures.written (bounds_of c.args.run.now.limits.now) c.args.text.now (rw c.in-Some.is at c.too_long.ensures)
