use Rattle.std.proofs.Common.{◌≡◌, ℕ, Bool, List, ◌∷◌, sym, subst}
use Rattle.sym_prims.specs.Frames.{AreFrames, IsRightFor, Steps}
use Rattle.sym_prims.specs.declared.frames.Frame.{Frame}
use Rattle.sym_prims.specs.declared.frames.Frame.TheVariants as frame
use Rattle.sym_prims.specs.declared.frames.Focus.TheVariants as focus
use Rattle.sym_prims.specs.Puts.{IsPut}
use Rattle.sym_prims.proofs.Leaving.{leaves_none}
use Rattle.sym_prims.proofs.Running.{memo_more, memo_stays}
use Rattle.sym_prims.proofs.Stepping.{steps_keep, steps_last, steps_second}
use Rattle.sym_prims.proofs.applying.give.Goals as goal

pub returns-in_ok-push-in-Second-clause-step : goal.returns-in_ok-push-in-Second-clause-step
returns-in_ok-push-in-Second-clause-step g c =
    let m = g.B.Meaning in
    let p = c.args.prim in
    let old = c.args.objs.now in
    let fs = c.args.frames.now in
    let j = c.in-Second.joining in
    let t = c.in-Second.task in
    let l : AreFrames m old (frame.Second j t ∷ fs) = subst (λ (x : Frame). AreFrames m old (x ∷ fs)) c.in-Second.is c.requires.frames in
    subst (λ (x : Frame). Steps m p old old (x ∷ fs) c.push.new.self (focus.Give c.args.value) (focus.Apply t)) (sym c.in-Second.is)
    (subst (λ (hs : List Frame). Steps m p old old (frame.Second j t ∷ fs) hs (focus.Give c.args.value) (focus.Apply t)) (sym c.in_ok-push-in-Second.ensures.ok)
    (steps_second m p old old (leaves_none m old c.requires.whole) fs t j c.args.value l c.requires.value))

pub returns-in_ok-join-in-Last-clause-step : goal.returns-in_ok-join-in-Last-clause-step
returns-in_ok-join-in-Last-clause-step g c =
    let m = g.B.Meaning in
    let p = c.args.prim in
    let old = c.args.objs.now in
    let fs = c.args.frames.now in
    let made = c.in_ok-join-in-Last.ensures.gives in
    let l : AreFrames m old (frame.Last c.in-Last.joining c.in-Last.first ∷ fs) = subst (λ (x : Frame). AreFrames m old (x ∷ fs)) c.in-Last.is c.requires.frames in
    subst (λ (x : Frame). Steps m p old c.join.new.objs (x ∷ fs) fs (focus.Give c.args.value) (focus.Give c.in_ok-join-in-Last.field-0)) (sym c.in-Last.is)
    (steps_last m p old c.join.new.objs made.leaves fs c.in-Last.joining c.in-Last.first c.args.value c.in_ok-join-in-Last.field-0 l made.live made.means)

pub returns-in_ok-join-in-Last-clause-memo : goal.returns-in_ok-join-in-Last-clause-memo
returns-in_ok-join-in-Last-clause-memo g c = memo_stays g.B.Meaning c.args.prim c.args.objs.now c.join.new.objs c.in_ok-join-in-Last.ensures.gives.leaves c.args.memo.now c.requires.memo

pub returns-in_ok-keep-in-Keep-clause-step : goal.returns-in_ok-keep-in-Keep-clause-step
returns-in_ok-keep-in-Keep-clause-step g c =
    let m = g.B.Meaning in
    let p = c.args.prim in
    let old = c.args.objs.now in
    let fs = c.args.frames.now in
    let t = c.in-Keep.task in
    let l : AreFrames m old (frame.Keep t ∷ fs) = subst (λ (x : Frame). AreFrames m old (x ∷ fs)) c.in-Keep.is c.requires.frames in
    subst (λ (x : Frame). Steps m p old old (x ∷ fs) fs (focus.Give c.args.value) (focus.Give c.args.value)) (sym c.in-Keep.is)
    (steps_keep m p old old (leaves_none m old c.requires.whole) fs t c.args.value l c.requires.value)

pub returns-in_ok-keep-in-Keep-clause-memo : goal.returns-in_ok-keep-in-Keep-clause-memo
returns-in_ok-keep-in-Keep-clause-memo g c =
    let m = g.B.Meaning in
    let p = c.args.prim in
    let old = c.args.objs.now in
    let t = c.in-Keep.task in
    let l : AreFrames m old (frame.Keep t ∷ c.args.frames.now) = subst (λ (x : Frame). AreFrames m old (x ∷ c.args.frames.now)) c.in-Keep.is c.requires.frames in
    let r : IsRightFor m old p (frame.Keep t) c.args.value = subst (λ (x : Frame). IsRightFor m old p x c.args.value) c.in-Keep.is c.requires.right in
    memo_more m p old c.args.memo.now c.keep.new.self t c.args.value c.requires.memo (record { task = l.0; live = c.requires.value; right = r })
    (subst (λ k. IsPut c.args.memo.now c.keep.new.self k c.args.value) c.key_of.ensures c.in_ok-keep-in-Keep.ensures)
