use Rattle.std.proofs.Common.{refl}
use Rattle.gl_book.specs.Transcript.{told}
use Rattle.gl_book.proofs.Joined.{on_err, on_ok}
use Rattle.gl_book.proofs.Told.{grows_stays, whole_front}
use Rattle.gl_book.proofs.put_lines.put_told.Goals as goal

pub returns-clause-ok : goal.returns-clause-ok
returns-clause-ok g c = on_ok c.flush.result (grows_stays _ _ _ (told c.args.last_only c.args.lines.now) c.in_ok-put_some.ensures.ok c.flush.ensures.same)

pub returns-clause-front : goal.returns-clause-front
returns-clause-front g c =
    on_err c.flush.result (whole_front _ _ _ (told c.args.last_only c.args.lines.now) (grows_stays _ _ _ (told c.args.last_only c.args.lines.now) c.in_ok-put_some.ensures.ok c.flush.ensures.same) refl)
