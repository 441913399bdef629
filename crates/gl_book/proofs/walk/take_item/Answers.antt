use Rattle.std.proofs.Common.{sym, subst}
use Rattle.book_shelf.specs.declared.item.Item.{Item}
use Rattle.gl_decide.specs.Bounds.{bounds_of}
use Rattle.gl_book.specs.Courses.{LeadsPastToFront, place_at}
use Rattle.gl_book.proofs.walk.take_item.Goals as goal

pub returns-in-Err-clause-front : goal.returns-in-Err-clause-front
returns-in-Err-clause-front g c =
    let bounds = bounds_of c.args.run.now.limits.now in
    let stalls = (g.O.Observer.stalls c.args.out.now) in
    let here = place_at c.args.progress.now (g.O.Observer.written c.args.out.now) stalls in
    subst (λ (x : Item). LeadsPastToFront c.args.texts.now bounds c.args.run.now.last_only x here (g.O.Observer.written c.take_mark.new.out) (g.O.Observer.stalls c.take_mark.new.out)) (sym c.in-Mark.is) c.in-Err.ensures.front
