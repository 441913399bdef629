use Rattle.std.proofs.Common.{◌≡◌, ℕ, Bool, List, ◌∷◌, sym, subst}
use Rattle.sym_prims.specs.Frames.{Steps, cars_of, cdrs_of}
use Rattle.sym_prims.specs.declared.frames.Joining.TheVariants as joining
use Rattle.sym_prims.specs.declared.frames.Frame.{Frame}
use Rattle.sym_prims.specs.declared.frames.Frame.TheVariants as frame
use Rattle.sym_prims.specs.declared.frames.Focus.{Focus}
use Rattle.sym_prims.specs.declared.frames.Focus.TheVariants as focus
use Rattle.sym_prims.proofs.Visiting.{steps_conses}
use Rattle.sym_prims.proofs.applying.look_at_both.Goals as goal

pub returns-in_ok-part-in-Some-clause-step : goal.returns-in_ok-part-in-Some-clause-step
returns-in_ok-part-in-Some-clause-step g c =
    let m = g.B.Meaning in
    let p = c.args.prim in
    let old = c.args.objs.now in
    let fs = c.args.frames.now in
    let t = c.args.task in
    let cs = c.in-Some.conses in
    let made = c.in_ok-part-in-Some.ensures in
    let first = c.node_of-first in
    let second = c.node_of-second in
    subst (λ (hs : List Frame). Steps m p old old fs hs (focus.Apply t) c.in_ok-part-in-Some.field-0) (sym made.frames)
    (subst (λ (f : Focus). Steps m p old old fs (frame.Second joining.Both (cdrs_of t cs) ∷ frame.Keep t ∷ fs) (focus.Apply t) f) (sym made.focus)
    (steps_conses m p old fs t cs first.result second.result c.in-Some.ensures.0 c.in-Some.ensures.1 c.in-Some.ensures.2 c.requires.whole c.requires.frames c.requires.task
    first.ensures.parts second.ensures.parts first.ensures.means second.ensures.means))
