use Rattle.std.proofs.Common.{◌≡◌, ℕ, Bool, true, List, ◌∷◌, ap, sym, ◌∙◌, subst}
use Rattle.std.proofs.lemmas.Result.{err_from_is_err_and}
use Rattle.int_prims.specs.Integers.{IsTooWide}
use Rattle.sym_prims.specs.Frames.{Steps, value_of}
use Rattle.sym_prims.specs.declared.frames.Task.{Task}
use Rattle.sym_prims.specs.declared.frames.Joining.TheVariants as joining
use Rattle.sym_prims.specs.declared.frames.Frame.{Frame}
use Rattle.sym_prims.specs.declared.frames.Frame.TheVariants as frame
use Rattle.sym_prims.specs.declared.frames.Focus.TheVariants as focus
use Rattle.sym_prims.proofs.Leaving.{cause_wider}
use Rattle.sym_prims.proofs.Splitting.{split_both, split_other, split_then}
use Rattle.sym_prims.proofs.applying.split.Goals as goal

pub returns-in_err-only_other-clause-cause : goal.returns-in_err-only_other-clause-cause
returns-in_err-only_other-clause-cause g c =
    let p = err_from_is_err_and c.from_residual-in_err-only_other.result c.from_residual-in_err-only_other.ensures.1 in
    rw (p.1, p.2) (cause_wider g.B.Meaning c.is_unreached.new.objs c.args.task.path c.args.task.path (λ a. ⊥) (λ a. IsTooWide (value_of g.B.Meaning c.args.objs.now c.args.prim c.args.task a)) _ (λ a t. t) (λ a t v. absurd v) (c.in_err-only_other.ensures.cause c.args.task.path))

pub returns-in_err-only_then-clause-cause : goal.returns-in_err-only_then-clause-cause
returns-in_err-only_then-clause-cause g c =
    let p = err_from_is_err_and c.from_residual-in_err-only_then.result c.from_residual-in_err-only_then.ensures.1 in
    rw (p.1, p.2) (cause_wider g.B.Meaning c.is_unreached-2.new.objs c.args.task.path c.args.task.path (λ a. ⊥) (λ a. IsTooWide (value_of g.B.Meaning c.args.objs.now c.args.prim c.args.task a)) _ (λ a t. t) (λ a t v. absurd v) (c.in_err-only_then.ensures.cause c.args.task.path))

pub returns-then-only_other-clause-step : goal.returns-then-only_other-clause-step
returns-then-only_other-clause-step g c =
    split_other g.B.Meaning c.args.prim c.args.objs.now c.args.frames.now c.args.task c.args.then c.args.other c.args.test c.requires.frames c.requires.task c.requires.test c.requires.branches
    c.conjunction.new.objs c.is_unreached.new.objs c.in_ok-yes.yes c.in_ok-yes.ensures.tells c.in_ok-only_other.ensures.leaves (c.in_ok-only_other.ensures.unreached c.if-only_other.true)

pub returns-then-only_then-clause-step : goal.returns-then-only_then-clause-step
returns-then-only_then-clause-step g c =
    split_then g.B.Meaning c.args.prim c.args.objs.now c.args.frames.now c.args.task c.args.then c.args.other c.args.test c.requires.frames c.requires.task c.requires.test c.requires.branches
    c.conjunction.new.objs c.is_unreached.new.objs c.in_ok-yes.yes c.in_ok-yes.ensures.tells c.in_ok-only_other.ensures.leaves
    c.complement-refuted.new.objs c.conjunction-2.new.objs c.complement-refuted.result c.in_ok-no.no c.complement-refuted.ensures.same c.complement-refuted.ensures.live c.complement-refuted.ensures.truth c.in_ok-no.ensures.tells
    c.is_unreached-2.new.objs c.in_ok-only_then.ensures.leaves (c.in_ok-only_then.ensures.unreached c.if-only_then.true)

pub returns-clause-step : goal.returns-clause-step
returns-clause-step g c =
    let m = g.B.Meaning in
    let old = c.args.objs.now in
    let new = c.is_unreached-2.new.objs in
    let fs = c.args.frames.now in
    let framed : c.push_two.new.frames ≡ frame.Second (joining.Choice c.args.test) (record c.args.other { path = c.in_ok-no.no }) ∷ frame.Keep c.args.task ∷ fs =
    c.in_ok-push_two.ensures ∙ ap (λ (q : Task). frame.Second (joining.Choice c.args.test) q ∷ frame.Keep c.args.task ∷ fs) c.under.ensures in
    subst (λ (hs : List Frame). Steps m c.args.prim old new fs hs (focus.Apply c.args.task) (focus.Apply c.under-2.result)) (sym framed)
    (subst (λ (q : Task). Steps m c.args.prim old new fs (frame.Second (joining.Choice c.args.test) (record c.args.other { path = c.in_ok-no.no }) ∷ frame.Keep c.args.task ∷ fs) (focus.Apply c.args.task) (focus.Apply q)) (sym c.under-2.ensures)
    (split_both m c.args.prim old fs c.args.task c.args.then c.args.other c.args.test c.requires.frames c.requires.task c.requires.test c.requires.branches
    c.conjunction.new.objs c.is_unreached.new.objs c.in_ok-yes.yes c.in_ok-yes.ensures.tells c.in_ok-only_other.ensures.leaves
    c.complement-refuted.new.objs c.conjunction-2.new.objs c.complement-refuted.result c.in_ok-no.no c.complement-refuted.ensures.same c.complement-refuted.ensures.live c.complement-refuted.ensures.truth c.in_ok-no.ensures.tells
    new c.in_ok-only_then.ensures.leaves))
