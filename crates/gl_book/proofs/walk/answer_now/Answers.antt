use Rattle.std.proofs.Common.{◌∙◌, ap, sym, refl, subst, Some}
use Rattle.book_shelf.specs.declared.item.Item.TheVariants as item
use Rattle.gl_decide.specs.Bounds.{bounds_of}
use Rattle.event_world.specs.NextState.{next_state}
use Rattle.event_world.specs.Seen.{event_seen}
use Rattle.gl_book.specs.Courses.{LeadsPast, place_at}
use Rattle.gl_book.specs.Entry.{stalls_of}
use Rattle.gl_book.specs.Lines.{event_lines}
use Rattle.gl_book.specs.Stops.{told_before}
use Rattle.gl_book.specs.declared.refusal.Refusal.{Refusal}
use Rattle.gl_book.proofs.Stalled.{kept_whole}
use Rattle.gl_book.proofs.Told.{whole_front}
use Rattle.gl_book.proofs.Ways.{goes_past, goes_past_front, nothing_past, refused_past}
use Rattle.gl_book.proofs.walk.answer_now.Goals as goal

pub returns-in-Memory-clause-front : goal.returns-in-Memory-clause-front
returns-in-Memory-clause-front g c =
    nothing_past c.args.texts.now (bounds_of c.args.run.now.limits.now) c.args.run.now.last_only (item.Form c.args.form.now) (place_at c.args.progress.now (g.O.Observer.written c.args.out.now) (g.O.Observer.stalls c.args.out.now))

pub returns-in_default-cause : goal.returns-in_default-cause
returns-in_default-cause g c =
    let names = c.args.texts.now in
    let bounds = bounds_of c.args.run.now.limits.now in
    let last = c.args.run.now.last_only in
    let form = c.args.form.now in
    let here = place_at c.args.progress.now (g.O.Observer.written c.args.out.now) (g.O.Observer.stalls c.args.out.now) in
    let past =
    refused_past names bounds last form (event_seen c.args.event) c.args.progress.now c.requires.next.meant here.written here.stalls c.requires.none c.answer_to-answer.result c.answer_to-answer.ensures c.in-Some.cause
    (sym c.refused_cause.ensures ∙ c.in-Some.is) c.in_default-cause.not-Memory in
    record { ok = subst (λ (r : Refusal). LeadsPast names bounds last (item.Form form) here (Some r) here) (sym c.refusal_at.ensures) past; front = tt; cause = refl }

pub returns-in-Err-clause-front : goal.returns-in-Err-clause-front
returns-in-Err-clause-front g c =
    goes_past_front c.args.texts.now (bounds_of c.args.run.now.limits.now) c.args.run.now.last_only c.args.form.now (event_seen c.args.event) c.args.progress.now c.requires.next.meant (g.O.Observer.written c.args.out.now) (g.O.Observer.stalls c.args.out.now) c.requires.none
    c.answer_to-answer.result c.answer_to-answer.ensures _ _ (sym c.refused_cause.ensures ∙ c.in_default.is) c.in-Err.ensures.front c.in-Err.ensures.kept_front

pub returns-in-Err-take-clause-front : goal.returns-in-Err-take-clause-front
returns-in-Err-take-clause-front g c =
    let e = event_seen c.args.event in
    let a = c.answer_to-answer.result in
    let last = c.args.run.now.last_only in
    let written = g.O.Observer.written c.args.out.now in
    let now = g.O.Observer.written c.put_event.new.out in
    goes_past_front c.args.texts.now (bounds_of c.args.run.now.limits.now) last c.args.form.now e c.args.progress.now c.requires.next.meant written (g.O.Observer.stalls c.args.out.now) c.requires.none
    a c.answer_to-answer.ensures now (g.O.Observer.stalls c.put_event.new.out) (sym c.refused_cause.ensures ∙ c.in_default.is)
    (whole_front written now now (told_before last (event_lines c.args.texts.now e a)) c.in-Ok.ensures.ok refl) (kept_whole (stalls_of a) (g.O.Observer.stalls c.args.out.now) (g.O.Observer.stalls c.put_event.new.out) c.in-Ok.ensures.kept)

pub returns-in-Ok-take-clause-ok : goal.returns-in-Ok-take-clause-ok
returns-in-Ok-take-clause-ok g c =
    let e = event_seen c.args.event in
    let old = c.args.progress.now in
    goes_past c.args.texts.now (bounds_of c.args.run.now.limits.now) c.args.run.now.last_only c.args.form.now e old c.requires.next.meant (g.O.Observer.written c.args.out.now) (g.O.Observer.stalls c.args.out.now) c.requires.none
    c.answer_to-answer.result c.answer_to-answer.ensures (record { state = c.take.new.self; counts = c.with-progress.result; waiting = old.waiting }) (g.O.Observer.written c.put_event.new.out) (g.O.Observer.stalls c.put_event.new.out)
    (sym c.refused_cause.ensures ∙ c.in_default.is) (c.in-Ok-take.ensures ∙ ap (next_state old.state c.args.form.now.tree e) c.in-Ok.ensures.value) c.requires.none c.with-progress.ensures c.in-Ok.ensures.ok c.in-Ok.ensures.kept
