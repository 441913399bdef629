use Rattle.std.proofs.Common.{◌∙◌, sym, subst, ℕ, List, [], Option}
use Rattle.gl_decide.specs.Bounds.{bounds_of}
use Rattle.gl_decide.specs.Stalls.{StallSeen}
use Rattle.gl_book.specs.Courses.{ComesToEnd, course_from, place_at}
use Rattle.gl_book.specs.Stops.{WritesWalk}
use Rattle.gl_book.proofs.Crosses.{closes, front_closing}
use Rattle.gl_book.proofs.Onward.{when_err, when_ok}
use Rattle.gl_book.proofs.walk.walk.Goals as goal

pub returns-in-Ok-clause-ok : goal.returns-in-Ok-clause-ok
returns-in-Ok-clause-ok g c =
    let names = c.args.texts.now in
    let bounds = bounds_of c.args.run.now.limits.now in
    let last = c.args.run.now.last_only in
    let p = c.take_items-ended.new.progress in
    let r = c.in-Ok.refusal in
    let course = course_from c.args.book.now (record { state = c.args.state; counts = c.none.result; waiting = []; written = g.O.Observer.written c.args.out.now; stalls = g.O.Observer.stalls c.args.out.now }) in
    let told = subst (λ (w : Option (List ℕ)). ComesToEnd names bounds last course (place_at p w (g.O.Observer.stalls c.take_items-ended.new.out)) r) (sym c.tell_refusal.ensures.unwritten) c.in-Ok.ensures.ok in
    let end = subst (λ (ss : List StallSeen). ComesToEnd names bounds last course (place_at p (g.O.Observer.written c.tell_refusal.new.out) ss) r) (sym (c.close.ensures.unstalled ∙ c.tell_refusal.ensures.unstalled)) told in
    let e = end.1 in
    when_ok c.close.result _ (WritesWalk names bounds c.args.state c.args.book.now last (g.O.Observer.written c.args.out.now) _ (g.O.Observer.stalls c.args.out.now) _) c.close.ensures.ok c.close.ensures.status
    (λ t k is. closes _ _ _ _ _ _ e.stands e.none r e.ends _ t k is)

pub returns-in-Ok-clause-front : goal.returns-in-Ok-clause-front
returns-in-Ok-clause-front g c =
    let names = c.args.texts.now in
    let bounds = bounds_of c.args.run.now.limits.now in
    let last = c.args.run.now.last_only in
    let p = c.take_items-ended.new.progress in
    let r = c.in-Ok.refusal in
    let course = course_from c.args.book.now (record { state = c.args.state; counts = c.none.result; waiting = []; written = g.O.Observer.written c.args.out.now; stalls = g.O.Observer.stalls c.args.out.now }) in
    let told = subst (λ (w : Option (List ℕ)). ComesToEnd names bounds last course (place_at p w (g.O.Observer.stalls c.take_items-ended.new.out)) r) (sym c.tell_refusal.ensures.unwritten) c.in-Ok.ensures.ok in
    let end = subst (λ (ss : List StallSeen). ComesToEnd names bounds last course (place_at p (g.O.Observer.written c.tell_refusal.new.out) ss) r) (sym (c.close.ensures.unstalled ∙ c.tell_refusal.ensures.unstalled)) told in
    let e = end.1 in
    when_err c.close.result c.close.ensures.front (λ k. front_closing _ _ _ _ _ _ e.stands e.none r e.ends _ k)
