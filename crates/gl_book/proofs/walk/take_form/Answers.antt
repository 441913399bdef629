use Rattle.std.proofs.Common.{sym, subst, Some, List, ℕ, rules}
use Rattle.book_shelf.specs.declared.item.Item.TheVariants as item
use Rattle.gl_decide.specs.Bounds.{bounds_of}
use Rattle.gl_book.specs.Courses.{EndsPhase, EndsPhaseByFront, LeadsPast, LeadsPastToFront, place_at}
use Rattle.gl_book.specs.declared.refusal.Refusal.{Refusal}
use Rattle.gl_book.proofs.Joined.{on_err}
use Rattle.gl_book.proofs.Puts.{err_then}
use Rattle.gl_book.proofs.Ways.{fault_past, front_past, nothing_past, phase_leads, phase_leads_front}
use Rattle.gl_book.proofs.walk.take_form.Goals as goal

pub returns-in-Ok-clause-front : goal.returns-in-Ok-clause-front
returns-in-Ok-clause-front g c =
    let names = c.args.texts.now in
    let bounds = bounds_of c.args.run.now.limits.now in
    let last = c.args.run.now.last_only in
    let form = c.args.form.now in
    let old = c.args.progress.now in
    let written = g.O.Observer.written c.args.out.now in
    let stalls = (g.O.Observer.stalls c.args.out.now) in
    let here = place_at old written stalls in
    err_then c.take_event.result c.take_event.ensures.front (λ h. subst (λ (ns : List (List ℕ)). LeadsPastToFront ns bounds last (item.Form form) here (g.O.Observer.written c.take_event.new.out) (g.O.Observer.stalls c.take_event.new.out)) c.event.ensures.texts h)

pub returns-in-Memory-clause-front : goal.returns-in-Memory-clause-front
returns-in-Memory-clause-front g c =
    nothing_past c.args.texts.now (bounds_of c.args.run.now.limits.now) c.args.run.now.last_only (item.Form c.args.form.now) (place_at c.args.progress.now (g.O.Observer.written c.args.out.now) (g.O.Observer.stalls c.args.out.now))

pub returns-in_err-end_phase-in_default : goal.returns-in_err-end_phase-in_default
returns-in_err-end_phase-in_default g c =
    let names = c.args.texts.now in
    let bounds = bounds_of c.args.run.now.limits.now in
    let last = c.args.run.now.last_only in
    let form = c.args.form.now in
    let old = c.args.progress.now in
    let written = g.O.Observer.written c.args.out.now in
    let stalls = (g.O.Observer.stalls c.args.out.now) in
    let here = place_at old written stalls in
    let now = g.O.Observer.written c.end_phase.new.out in
    let after = (g.O.Observer.stalls c.end_phase.new.out) in
    let ends : EndsPhaseByFront names bounds last old written stalls now after = subst (λ (ns : List (List ℕ)). EndsPhaseByFront ns bounds last old written stalls now after) c.event.ensures.texts c.in_err-end_phase-in_default.ensures.front in
    record {
      ok = search rules;
      front = on_err c.from_residual.result (front_past names bounds last (item.Form form) here now after (phase_leads_front names bounds last old written now stalls after ends));
      texts = c.event.ensures.texts;
      cause = search rules;
    }

pub returns-in_ok-end_phase-in_default : goal.returns-in_ok-end_phase-in_default
returns-in_ok-end_phase-in_default g c =
    let names = c.args.texts.now in
    let bounds = bounds_of c.args.run.now.limits.now in
    let last = c.args.run.now.last_only in
    let form = c.args.form.now in
    let old = c.args.progress.now in
    let written = g.O.Observer.written c.args.out.now in
    let stalls = (g.O.Observer.stalls c.args.out.now) in
    let here = place_at old written stalls in
    let now = g.O.Observer.written c.end_phase.new.out in
    let after = (g.O.Observer.stalls c.end_phase.new.out) in
    let new = c.end_phase.new.progress in
    let ends : EndsPhase names bounds last old written stalls new now after = subst (λ (ns : List (List ℕ)). EndsPhase ns bounds last old written stalls new now after) c.event.ensures.texts c.in_ok-end_phase-in_default.ensures.ok in
    let leads = phase_leads names bounds last old written now stalls after new ends in
    let past = fault_past names bounds last form c.in-Err.fault old.state (c.in-Err.ensures.meant c.in_default.not-Memory) here (place_at new now after) ends.state ends.none leads in
    record {
      ok = subst (λ (r : Refusal). LeadsPast names bounds last (item.Form form) here (Some r) (place_at new now after)) (sym c.refusal_at.ensures) past;
      front = tt;
      texts = c.event.ensures.texts;
      cause = c.in_ok-end_phase-in_default.ensures.cause;
    }
