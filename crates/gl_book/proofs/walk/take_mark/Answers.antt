use Rattle.std.proofs.Common.{◌≡◌, ◌<◌, refl, sym, subst, length, rules, List, None}
use Rattle.book_shelf.specs.declared.item.Item.TheVariants as item
use Rattle.gl_decide.specs.Bounds.{bounds_of}
use Rattle.gl_decide.specs.Stalls.{StallSeen}
use Rattle.gl_book.specs.Courses.{LeadsPast, LeadsPastToFront, place_at}
use Rattle.gl_book.specs.Phases.{jobs_of}
use Rattle.gl_book.specs.declared.progress.Progress.{Progress}
use Rattle.gl_book.proofs.Puts.{err_then, ok_then}
use Rattle.gl_book.proofs.Ways.{marks_behind, marks_past, marks_past_front, none_waits, nothing_past}
use Rattle.gl_book.proofs.walk.take_mark.Goals as goal

pub returns-in-Ok-clause-ok : goal.returns-in-Ok-clause-ok
returns-in-Ok-clause-ok g c =
    let old = c.args.progress.now in
    let new : Progress = record { state = old.state; counts = old.counts; waiting = c.follow_mark.new.self } in
    let some : 0 < length (jobs_of old.waiting) = search rules in
    marks_behind c.args.texts.now (bounds_of c.args.run.now.limits.now) c.args.run.now.last_only c.args.mark old (g.O.Observer.written c.args.out.now) (g.O.Observer.stalls c.args.out.now) some new c.in-Ok.ensures refl refl

pub returns-in-Err-clause-front : goal.returns-in-Err-clause-front
returns-in-Err-clause-front g c =
    nothing_past c.args.texts.now (bounds_of c.args.run.now.limits.now) c.args.run.now.last_only (item.Mark c.args.mark) (place_at c.args.progress.now (g.O.Observer.written c.args.out.now) (g.O.Observer.stalls c.args.out.now))

pub returns-clause-ok : goal.returns-clause-ok
returns-clause-ok g c =
    let old = c.args.progress.now in
    let names = c.args.texts.now in
    let bounds = bounds_of c.args.run.now.limits.now in
    let last = c.args.run.now.last_only in
    let written = g.O.Observer.written c.args.out.now in
    let now = g.O.Observer.written c.put_mark.new.out in
    let stalls = g.O.Observer.stalls c.args.out.now in
    let none : length (jobs_of old.waiting) ≡ 0 = search rules in
    ok_then c.put_mark.result c.put_mark.ensures.ok (λ h. subst (λ (ss : List StallSeen). LeadsPast names bounds last (item.Mark c.args.mark) (place_at old written stalls) None (place_at old now ss)) (sym c.put_mark.ensures.unstalled)
    (marks_past names bounds last c.args.mark old written stalls (none_waits (jobs_of old.waiting) none) now h))

pub returns-clause-front : goal.returns-clause-front
returns-clause-front g c =
    let old = c.args.progress.now in
    let names = c.args.texts.now in
    let bounds = bounds_of c.args.run.now.limits.now in
    let last = c.args.run.now.last_only in
    let written = g.O.Observer.written c.args.out.now in
    let now = g.O.Observer.written c.put_mark.new.out in
    let stalls = g.O.Observer.stalls c.args.out.now in
    let none : length (jobs_of old.waiting) ≡ 0 = search rules in
    err_then c.put_mark.result c.put_mark.ensures.front (λ h. subst (λ (ss : List StallSeen). LeadsPastToFront names bounds last (item.Mark c.args.mark) (place_at old written stalls) now ss) (sym c.put_mark.ensures.unstalled)
    (marks_past_front names bounds last c.args.mark old written stalls (none_waits (jobs_of old.waiting) none) now h))
