use Rattle.std.proofs.Common.{sym, subst}
use Rattle.std.proofs.lemmas.Result.{IfOk-weaker}
use Rattle.book_shelf.specs.declared.item.Item.TheVariants as item
use Rattle.gl_decide.specs.Bounds.{bounds_of}
use Rattle.event_world.specs.NextState.{BookState}
use Rattle.event_world.specs.Seen.{event_seen}
use Rattle.gl_book.specs.Courses.{IsNext, place_at}
use Rattle.gl_book.proofs.Puts.{err_then}
use Rattle.gl_book.proofs.Ways.{front_past, nothing_past, phase_leads, phase_leads_front, phase_room, then_front, then_past}
use Rattle.gl_book.proofs.walk.take_event.Goals as goal

pub returns-in-Ok-clause-ok : goal.returns-in-Ok-clause-ok
returns-in-Ok-clause-ok g c = c.in-Ok.ensures (g.O.Observer.written c.args.out.now) (g.O.Observer.stalls c.args.out.now)

pub returns-in-Err-clause-front : goal.returns-in-Err-clause-front
returns-in-Err-clause-front g c =
    nothing_past c.args.texts.now (bounds_of c.args.run.now.limits.now) c.args.run.now.last_only (item.Form c.args.form.now) (place_at c.args.progress.now (g.O.Observer.written c.args.out.now) (g.O.Observer.stalls c.args.out.now))

pub answer_now-requires-clause-next : goal.answer_now-requires-clause-next
answer_now-requires-clause-next g c κs within = subst (λ (st : BookState). IsNext c.args.texts.now st c.args.form.now.tree (event_seen c.args.event)) (sym c.in-Ok-end_phase.ensures.ok.state) c.requires.next

pub answer_now-requires-clause-room : goal.answer_now-requires-clause-room
answer_now-requires-clause-room g c κs within = phase_room _ _ _ c.args.progress.now _ _ _ _ c.end_phase.new.progress 1 c.in-Ok-end_phase.ensures.ok c.requires.room

pub returns-in-Ok-end_phase-clause-ok : goal.returns-in-Ok-end_phase-clause-ok
returns-in-Ok-end_phase-clause-ok g c =
    let leads = phase_leads c.args.texts.now (bounds_of c.args.run.now.limits.now) c.args.run.now.last_only c.args.progress.now _ _ _ _ c.end_phase.new.progress c.in-Ok-end_phase.ensures.ok in
    IfOk-weaker c.answer_now.result _ _ (λ r h. then_past c.args.texts.now (bounds_of c.args.run.now.limits.now) c.args.run.now.last_only (item.Form c.args.form.now) _ _ r _ leads h) c.answer_now.ensures.ok

pub returns-in-Ok-end_phase-clause-front : goal.returns-in-Ok-end_phase-clause-front
returns-in-Ok-end_phase-clause-front g c =
    let leads = phase_leads c.args.texts.now (bounds_of c.args.run.now.limits.now) c.args.run.now.last_only c.args.progress.now _ _ _ _ c.end_phase.new.progress c.in-Ok-end_phase.ensures.ok in
    err_then c.answer_now.result c.answer_now.ensures.front (λ h. then_front c.args.texts.now (bounds_of c.args.run.now.limits.now) c.args.run.now.last_only (item.Form c.args.form.now) _ _ _ _ leads h)

pub returns-in-Err-end_phase-clause-front : goal.returns-in-Err-end_phase-clause-front
returns-in-Err-end_phase-clause-front g c =
    front_past _ _ _ (item.Form c.args.form.now) _ _ _ (phase_leads_front c.args.texts.now (bounds_of c.args.run.now.limits.now) c.args.run.now.last_only c.args.progress.now _ _ _ _ c.in-Err-end_phase.ensures.front)
