use Rattle.std.proofs.Common.{sym, subst, List}
use Rattle.gl_decide.specs.Stalls.{StallSeen}
use Rattle.gl_book.specs.Transcript.{EndsWith}
use Rattle.gl_book.proofs.Ends.{too_long, ends_with, refused_reported}
use Rattle.gl_book.proofs.run.refuse_long.Goals as goal

pub status_of_run-requires : goal.status_of_run-requires
status_of_run-requires g c = refused_reported c.close.result c.close.ensures.status

pub returns-clause-written : goal.returns-clause-written
returns-clause-written g c most text beyond =
    let old = g.O.Observer.written c.args.out.now in
    let new = g.O.Observer.written c.close.new.out in
    let stalls = g.O.Observer.stalls c.args.out.now in
    subst (λ (ss : List StallSeen). EndsWith most text c.args.last_only old new stalls ss c.status_of_run.result) (sym c.close.ensures.unstalled)
    (subst (EndsWith most text c.args.last_only old new stalls stalls) (sym c.status_of_run.ensures.status)
    (ends_with most text c.args.last_only old new stalls stalls c.close.result (record {
      ends = too_long most text c.args.last_only old new stalls c.args.line c.args.column beyond c.close.result c.none.result c.none.ensures c.close.ensures.ok c.close.ensures.status c.close.ensures.front;
      reported = refused_reported c.close.result c.close.ensures.status;
    })))
