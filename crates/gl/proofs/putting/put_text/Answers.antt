use Rattle.std.proofs.Common.{refl}
use Rattle.gl_book.proofs.Joined.{on_err, on_ok}
use Rattle.gl_book.proofs.Told.{grows_stays, whole_front}
use Rattle.gl.proofs.putting.put_text.Goals as goal

pub returns-clause-ok : goal.returns-clause-ok
returns-clause-ok g c = on_ok c.flush.result (grows_stays _ _ _ c.args.text.now c.in_ok-put_all.ensures.ok c.flush.ensures.same)

pub returns-clause-front : goal.returns-clause-front
returns-clause-front g c = on_err c.flush.result (whole_front _ _ _ c.args.text.now (grows_stays _ _ _ c.args.text.now c.in_ok-put_all.ensures.ok c.flush.ensures.same) refl)
