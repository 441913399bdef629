use Rattle.std.proofs.Common.{◌≡◌, ℕ, List, [], ◌∷◌, sym, subst}
use Rattle.std.proofs.lemmas.Result.{err_from_is_err_and}
use Rattle.sym_objects.specs.declared.sob.Sob.{Sob}
use Rattle.sym_prims.specs.declared.memo.Key.{Key}
use Rattle.sym_prims.specs.declared.frames.Frame.{Frame}
use Rattle.sym_prims.specs.declared.frames.Focus.{Focus}
use Rattle.sym_prims.specs.declared.frames.Focus.TheVariants as focus
use Rattle.sym_prims.proofs.Running.{Running, memo_stays, right_for, running_done, running_fault, running_other, running_start, running_then}
use Rattle.sym_prims.proofs.applying.run.Goals as goal

pub loop-focus-init : goal.loop-focus-init
loop-focus-init g c =
    let m = g.B.Meaning in
    let old = c.args.objs.now in
    subst (λ (fs : List Frame). Running m c.args.prim c.args.task old old fs (focus.Apply c.args.task) c.new-memo.result) (sym c.new-frames.ensures)
    (subst (λ (ks : List (Key × Sob)). Running m c.args.prim c.args.task old old [] (focus.Apply c.args.task) ks) (sym c.new-memo.ensures) (running_start m c.args.prim old c.args.task c.requires.whole c.requires.task))

pub loop-focus-preserved-in-Apply : goal.loop-focus-preserved-in-Apply
loop-focus-preserved-in-Apply g c =
    let m = g.B.Meaning in
    let old = c.loop-focus.objs in
    let made = c.in_ok-focus-in-Apply.ensures in
    let was : Running m c.args.prim c.args.task c.args.objs.now old c.loop-focus.frames (focus.Apply c.in-Apply.next) c.loop-focus.memo =
    subst (λ (f : Focus). Running m c.args.prim c.args.task c.args.objs.now old c.loop-focus.frames f c.loop-focus.memo) c.in-Apply.is c.loop-focus.invariant in
    running_then m c.args.prim c.args.task c.args.objs.now old c.visit.new.objs c.loop-focus.frames c.visit.new.frames (focus.Apply c.in-Apply.next) c.in_ok-focus-in-Apply.focus c.loop-focus.memo c.loop-focus.memo c.requires.task was made.leaves made.step
    (memo_stays m c.args.prim old c.visit.new.objs made.leaves c.loop-focus.memo was.memo)

pub returns-in_err-focus-in-Apply : goal.returns-in_err-focus-in-Apply
returns-in_err-focus-in-Apply g c =
    let m = g.B.Meaning in
    let old = c.loop-focus.objs in
    let made = c.in_err-focus-in-Apply.ensures in
    let p = err_from_is_err_and c.from_residual.result c.from_residual.ensures.1 in
    let was : Running m c.args.prim c.args.task c.args.objs.now old c.loop-focus.frames (focus.Apply c.in-Apply.next) c.loop-focus.memo =
    subst (λ (f : Focus). Running m c.args.prim c.args.task c.args.objs.now old c.loop-focus.frames f c.loop-focus.memo) c.in-Apply.is c.loop-focus.invariant in
    record { applies = rw (p.1, p.2) (running_fault m c.args.prim c.args.task c.in-Apply.next c.args.objs.now old c.visit.new.objs c.loop-focus.frames c.loop-focus.memo _ c.requires.task was made.leaves made.cause) }

pub returns-in-None : goal.returns-in-None
returns-in-None g c =
    let m = g.B.Meaning in
    let old = c.loop-focus.objs in
    let was : Running m c.args.prim c.args.task c.args.objs.now old [] (focus.Give c.in-Give.value) c.loop-focus.memo =
    subst (λ (fs : List Frame). Running m c.args.prim c.args.task c.args.objs.now old fs (focus.Give c.in-Give.value) c.loop-focus.memo) c.in-None.ensures.0
    (subst (λ (f : Focus). Running m c.args.prim c.args.task c.args.objs.now old c.loop-focus.frames f c.loop-focus.memo) c.in-Give.is c.loop-focus.invariant) in
    record { applies = running_done m c.args.prim c.args.task c.args.objs.now old c.in-Give.value c.loop-focus.memo was }

pub give-requires-clause-frames : goal.give-requires-clause-frames
give-requires-clause-frames g c =
    let m = g.B.Meaning in
    let old = c.loop-focus.objs in
    let was : Running m c.args.prim c.args.task c.args.objs.now old (c.in-Some.frame ∷ c.pop.new.self) (focus.Give c.in-Give.value) c.loop-focus.memo =
    subst (λ (fs : List Frame). Running m c.args.prim c.args.task c.args.objs.now old fs (focus.Give c.in-Give.value) c.loop-focus.memo) c.in-Some.ensures
    (subst (λ (f : Focus). Running m c.args.prim c.args.task c.args.objs.now old c.loop-focus.frames f c.loop-focus.memo) c.in-Give.is c.loop-focus.invariant) in
    was.frames

pub give-requires-clause-right : goal.give-requires-clause-right
give-requires-clause-right g c =
    let m = g.B.Meaning in
    let old = c.loop-focus.objs in
    let was : Running m c.args.prim c.args.task c.args.objs.now old (c.in-Some.frame ∷ c.pop.new.self) (focus.Give c.in-Give.value) c.loop-focus.memo =
    subst (λ (fs : List Frame). Running m c.args.prim c.args.task c.args.objs.now old fs (focus.Give c.in-Give.value) c.loop-focus.memo) c.in-Some.ensures
    (subst (λ (f : Focus). Running m c.args.prim c.args.task c.args.objs.now old c.loop-focus.frames f c.loop-focus.memo) c.in-Give.is c.loop-focus.invariant) in
    right_for m c.args.prim c.args.task c.args.objs.now old c.in-Some.frame c.pop.new.self c.in-Give.value c.loop-focus.memo was

pub returns-in_err-focus-in-Some : goal.returns-in_err-focus-in-Some
returns-in_err-focus-in-Some g c =
    let m = g.B.Meaning in
    let old = c.loop-focus.objs in
    let made = c.in_err-focus-in-Some.ensures in
    let p = err_from_is_err_and c.from_residual-in_err-focus-in-Some.result c.from_residual-in_err-focus-in-Some.ensures.1 in
    record { applies = rw (p.1, p.2) (running_other m c.args.prim c.args.task c.args.objs.now old c.give.new.objs c.loop-focus.frames c.loop-focus.focus c.loop-focus.memo _ c.loop-focus.invariant made.leaves made.cause) }
