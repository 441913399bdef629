use Rattle.std.proofs.Common.{rules, ℕ, Bool, false, IsErr, IsErrOf}
use Rattle.hons_arena.specs.Held.{LacksCell}
use Rattle.sym_objects.specs.declared.fault.SobFault.TheVariants as fault
use Rattle.sym_objects.specs.Seen.{stands_for}
use Rattle.sym_objects.proofs.ToArena.{placed, placing_give, placing_visit, refused_give, refused_visit}
use Rattle.sym_objects.proofs.sobs.Sobs.to_arena.Goals as goal

pub visit-requires-clause-held : goal.visit-requires-clause-held
visit-requires-clause-held g c = (c.loop-focus.invariant.extends (λ n. false)).whole

pub give-requires-clause-held : goal.give-requires-clause-held
give-requires-clause-held g c = (c.loop-focus.invariant.extends (λ n. false)).whole

pub returns-in_err-focus-in-Visit : goal.returns-in_err-focus-in-Visit
returns-in_err-focus-in-Visit g c =
    let s = c.args.self.now in
    let l = c.loop-focus in
    let err : IsErr c.from_residual.result = search rules in
    let lacks : IsErrOf c.from_residual.result fault.Full → (v : ℕ → Bool) → LacksCell c.visit.new.arena (stands_for g.B.Meaning s c.in-Visit.x v) = search rules in
    record { places = refused_visit g.B.Meaning s c.args.s c.args.arena.now l.arena c.visit.new.arena l.frames l.focus c.in-Visit.x l.memo c.from_residual.result err l.invariant c.in-Visit.is c.visit.ensures.extends lacks }

pub loop-focus-preserved-in-Visit : goal.loop-focus-preserved-in-Visit
loop-focus-preserved-in-Visit g c =
    let l = c.loop-focus in
    let e = c.in_ok-focus-in-Visit.ensures in
    placing_visit g.B.Meaning c.args.self.now c.args.s c.args.arena.now l.arena c.visit.new.arena l.frames c.visit.new.frames l.focus c.in_ok-focus-in-Visit.focus c.in-Visit.x l.memo l.memo l.invariant c.in-Visit.is e.extends e.turn e.memo

pub returns-in-None : goal.returns-in-None
returns-in-None g c =
    let l = c.loop-focus in
    record { places = placed g.B.Meaning c.args.self.now c.args.s c.args.arena.now l.arena l.frames l.focus c.in-Give.x c.in-Give.id l.memo l.invariant c.in-Give.is c.in-None.ensures.0 }

pub returns-in_err-focus-in-Some : goal.returns-in_err-focus-in-Some
returns-in_err-focus-in-Some g c =
    let s = c.args.self.now in
    let l = c.loop-focus in
    let f = c.in-Some.frame in
    let r = c.from_residual-in_err-focus-in-Some.result in
    let err : IsErr c.from_residual-in_err-focus-in-Some.result = search rules in
    let lacks : IsErrOf c.from_residual-in_err-focus-in-Some.result fault.Full → (v : ℕ → Bool) → LacksCell c.give.new.arena (stands_for g.B.Meaning s c.in-Some.frame.whole v) = search rules in
    record { places = refused_give g.B.Meaning s c.args.s c.args.arena.now l.arena c.give.new.arena l.frames c.pop.new.self l.focus f c.in-Give.x c.in-Give.id l.memo r err l.invariant c.in-Give.is c.in-Some.ensures c.give.ensures.extends lacks }

pub loop-focus-preserved : goal.loop-focus-preserved
loop-focus-preserved g c =
    let l = c.loop-focus in
    let e = c.in_ok-focus-in-Some.ensures in
    placing_give g.B.Meaning c.args.self.now c.args.s c.args.arena.now l.arena c.give.new.arena l.frames c.pop.new.self c.give.new.frames l.focus c.in_ok-focus-in-Some.focus c.in-Some.frame c.in-Give.x c.in-Give.id l.memo c.give.new.memo l.invariant c.in-Give.is c.in-Some.ensures e.extends e.turn e.memo
