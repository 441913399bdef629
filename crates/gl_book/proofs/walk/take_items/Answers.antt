use Rattle.std.proofs.Common.{◌≡◌, ◌+◌, ◌<◌, sym, refl, subst, ℕ, List, [], length, Option, Some, rules, arith}
use Rattle.gl_logic.specs.Names.{with_name}
use Rattle.gl_decide.specs.Bounds.{bounds_of}
use Rattle.gl_book.specs.Courses.{EndsPhase, EndsPhaseByFront, IsAtEnd, LeadsPast, LeadsPastToFront, course_from, place_at}
use Rattle.gl_book.specs.Phases.{jobs_of}
use Rattle.gl_book.specs.declared.refusal.Refusal.{Refusal}
use Rattle.gl_book.proofs.Crosses.{ends_whole, has_room_for}
use Rattle.gl_book.proofs.Joined.{on_err}
use Rattle.gl_book.proofs.Ways.{begins_at, phase_leads, phase_leads_front, room_fewer}
use Rattle.gl_book.proofs.walk.take_items.Goals as goal

pub loop-i-init : goal.loop-i-init
loop-i-init g c = record {
  faults = refl;
  texts = refl;
  stands = begins_at c.args.texts.now (bounds_of c.args.run.now.limits.now) c.args.run.now.last_only c.args.book.now (place_at c.args.progress.now (g.O.Observer.written c.args.out.now) (g.O.Observer.stalls c.args.out.now)) c.requires.can_go_on c.requires.uncounted c.requires.none;
}

pub take_item-requires-clause-empty : goal.take_item-requires-clause-empty
take_item-requires-clause-empty g c κs within = subst (λ (ns : List (List ℕ)). with_name ns [] ≡ ns) (sym c.loop-i.invariant.texts) c.requires.empty

pub take_item-requires-clause-ready : goal.take_item-requires-clause-ready
take_item-requires-clause-ready g c κs within = c.loop-i.invariant.stands.ready

pub take_item-requires-clause-room : goal.take_item-requires-clause-room
take_item-requires-clause-room g c κs within =
    let few : c.loop-i.i + 1 < 18446744073709551616 = search rules in
    has_room_for _ _ _ _ _ _ c.loop-i.invariant.stands 1 few

pub returns-in_err-refusal-clause-front : goal.returns-in_err-refusal-clause-front
returns-in_err-refusal-clause-front g c =
    let bounds = bounds_of c.args.run.now.limits.now in
    let here = place_at c.loop-i.progress (g.O.Observer.written c.loop-i.out) (g.O.Observer.stalls c.loop-i.out) in
    let front = subst (λ (ns : List (List ℕ)). LeadsPastToFront ns bounds c.args.run.now.last_only c.at-next.result.now here (g.O.Observer.written c.take_item.new.out) (g.O.Observer.stalls c.take_item.new.out)) c.loop-i.invariant.texts c.in_err-refusal.ensures.front in
    on_err c.from_residual.result (front _ _ c.at-next.ensures c.loop-i.invariant.stands)

pub returns-in-Some-clause-ok : goal.returns-in-Some-clause-ok
returns-in-Some-clause-ok g c =
    let bounds = bounds_of c.args.run.now.limits.now in
    let last = c.args.run.now.last_only in
    let here = place_at c.loop-i.progress (g.O.Observer.written c.loop-i.out) (g.O.Observer.stalls c.loop-i.out) in
    let next = c.at-next.result.now in
    let q = place_at c.take_item.new.progress (g.O.Observer.written c.take_item.new.out) (g.O.Observer.stalls c.take_item.new.out) in
    let told = subst (λ (o : Option Refusal). LeadsPast c.loop-i.texts bounds last next here o q) c.in-Some.is c.in_ok-refusal.ensures.ok in
    let past = subst (λ (ns : List (List ℕ)). LeadsPast ns bounds last next here (Some c.in-Some.refusal) q) c.loop-i.invariant.texts told in
    (c.loop-i.i, past _ _ c.at-next.ensures c.loop-i.invariant.stands)

pub end_phase-requires-clause-room : goal.end_phase-requires-clause-room
end_phase-requires-clause-room g c κs within =
    let js = jobs_of c.loop-i.progress.waiting in
    let few : c.loop-i.i + 0 < 18446744073709551616 = search rules in
    room_fewer (length js + 0) (length js) c.loop-i.progress.counts (omega arith) (has_room_for _ _ _ _ _ _ c.loop-i.invariant.stands 0 few)

pub returns-in_err-end_phase-clause-front : goal.returns-in_err-end_phase-clause-front
returns-in_err-end_phase-clause-front g c =
    let names = c.args.texts.now in
    let bounds = bounds_of c.args.run.now.limits.now in
    let last = c.args.run.now.last_only in
    let old = c.loop-i.progress in
    let written = g.O.Observer.written c.loop-i.out in
    let stalls = g.O.Observer.stalls c.loop-i.out in
    let now = g.O.Observer.written c.end_phase.new.out in
    let after = g.O.Observer.stalls c.end_phase.new.out in
    let ended = subst (λ (ns : List (List ℕ)). EndsPhaseByFront ns bounds last old written stalls now after) c.loop-i.invariant.texts c.in_err-end_phase.ensures.front in
    on_err c.from_residual-in_err-end_phase.result (phase_leads_front names bounds last old written now stalls after ended _ _ c.loop-i.invariant.stands)

pub returns-clause-ok : goal.returns-clause-ok
returns-clause-ok g c =
    let names = c.args.texts.now in
    let bounds = bounds_of c.args.run.now.limits.now in
    let last = c.args.run.now.last_only in
    let old = c.loop-i.progress in
    let written = g.O.Observer.written c.loop-i.out in
    let stalls = g.O.Observer.stalls c.loop-i.out in
    let now = g.O.Observer.written c.end_phase.new.out in
    let after = g.O.Observer.stalls c.end_phase.new.out in
    let new = c.end_phase.new.progress in
    let course = course_from c.args.book.now (place_at c.args.progress.now (g.O.Observer.written c.args.out.now) (g.O.Observer.stalls c.args.out.now)) in
    let q = place_at new now after in
    let ended = subst (λ (ns : List (List ℕ)). EndsPhase ns bounds last old written stalls new now after) c.loop-i.invariant.texts c.in_ok-end_phase.ensures.ok in
    let s = phase_leads names bounds last old written now stalls after new ended course c.loop-i.i c.loop-i.invariant.stands in
    let ends = ends_whole names bounds last course c.loop-i.i q s (omega (arith, c.loop-i-test.false, c.len-i-end.ensures)) in
    subst (λ (r : Option Refusal). (i : ℕ) × IsAtEnd names bounds last course i q r) (sym c.refusal_of.ensures) (c.loop-i.i, record { stands = s; none = ended.none; ends = ends })
