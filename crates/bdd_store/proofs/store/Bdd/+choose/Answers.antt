use Rattle.std.proofs.Common.{◌≡◌, ◌&&◌, arith, ap, sym, ◌∙◌, cond}
use Rattle.bfr_store.specs.Edges.{xor}
use Rattle.bdd_store.specs.Nodes.{truth_of}
use Rattle.bdd_store.proofs.Nodes.{values_of, constant_true, same_top}
use Rattle.bdd_store.proofs.Drawn.{drawn_live, drawn_above}
use Rattle.bdd_store.proofs.Pushes.{extends-then}
use Rattle.bdd_store.proofs.Held.{where_err, held_as, held_flag, choice_halves, choice_joins}
use Rattle.bdd_store.proofs.store.Bdd.+choose.Goals as goal

pub choose-both-requires-clause-x : goal.choose-both-requires-clause-x
choose-both-requires-clause-x t c =
    drawn_live c.args.self.now.nodes _ c.width_of-width.ensures.ordered c.args.t c.args.x c.args.y c.in-Both.u c.in-Both.ensures.drawn.0 c.requires.t c.requires.x c.requires.y

pub choose-both-requires-clause-y : goal.choose-both-requires-clause-y
choose-both-requires-clause-y t c =
    drawn_live c.args.self.now.nodes _ c.width_of-width.ensures.ordered c.args.t c.args.x c.args.y c.in-Both.v c.in-Both.ensures.drawn.1 c.requires.t c.requires.x c.requires.y

pub choose-choose_open-requires : goal.choose-choose_open-requires
choose-choose_open-requires t c =
    let nodes = c.args.self.now.nodes in let o = c.width_of-width.ensures.ordered in let d = c.in-Whole.ensures.drawn in let r = c.requires in
    let s = c.in-Whole.s in let u = c.in-Whole.u in let v = c.in-Whole.v in (
      omega (arith, drawn_above nodes _ o c.args.t c.args.x c.args.y s d.0 r.t r.x r.y, drawn_above nodes _ o c.args.t c.args.x c.args.y u d.1 r.t r.x r.y, drawn_above nodes _ o c.args.t c.args.x c.args.y v d.2 r.t r.x r.y),
      (
        drawn_live nodes _ o c.args.t c.args.x c.args.y s d.0 r.t r.x r.y,
        (
          drawn_live nodes _ o c.args.t c.args.x c.args.y u d.1 r.t r.x r.y,
          (drawn_live nodes _ o c.args.t c.args.x c.args.y v d.2 r.t r.x r.y, c.in-Whole.ensures.open),
        ),
      ),
    )

pub choose-returns-in-Known-clause-live : goal.choose-returns-in-Known-clause-live
choose-returns-in-Known-clause-live t c =
    drawn_live c.args.self.now.nodes _ c.width_of-width.ensures.ordered c.args.t c.args.x c.args.y c.in-Known.known c.in-Known.ensures.drawn c.requires.t c.requires.x c.requires.y

pub choose-returns-in-Known-clause-above : goal.choose-returns-in-Known-clause-above
choose-returns-in-Known-clause-above t c =
    drawn_above c.args.self.now.nodes _ c.width_of-width.ensures.ordered c.args.t c.args.x c.args.y c.in-Known.known c.in-Known.ensures.drawn c.requires.t c.requires.x c.requires.y

pub choose-returns-in-Known-clause-truth : goal.choose-returns-in-Known-clause-truth
unfolding truth_of
choose-returns-in-Known-clause-truth t c a =
    c.in-Known.ensures.truth (values_of c.args.self.now.nodes a) (constant_true c.args.self.now.nodes _ c.width_of-width.ensures.ordered a)

pub choose-returns-in_ok-both-in-Both-clause-above : goal.choose-returns-in_ok-both-in-Both-clause-above
choose-returns-in_ok-both-in-Both-clause-above t c =
    let nodes = c.args.self.now.nodes in let o = c.width_of-width.ensures.ordered in let d = c.in-Both.ensures.drawn in let r = c.requires in
    omega (
      arith,
      same_top c.both.new.self.nodes c.flipped_if.result c.in_ok-both-in-Both.field-0 c.flipped_if.ensures.node,
      c.in_ok-both-in-Both.ensures.above,
      drawn_above nodes _ o c.args.t c.args.x c.args.y c.in-Both.u d.0 r.t r.x r.y,
      drawn_above nodes _ o c.args.t c.args.x c.args.y c.in-Both.v d.1 r.t r.x r.y,
    )

pub choose-returns-in_ok-both-in-Both-clause-truth : goal.choose-returns-in_ok-both-in-Both-clause-truth
unfolding truth_of
choose-returns-in_ok-both-in-Both-clause-truth t c a =
    let nodes = c.args.self.now.nodes in
    c.flipped_if.ensures.truth (values_of c.both.new.self.nodes a)
    ∙ ap (xor c.in-Both.flag) (c.in_ok-both-in-Both.ensures.truth a)
    ∙ c.in-Both.ensures.truth (values_of nodes a) (constant_true nodes _ c.width_of-width.ensures.ordered a)

pub choose-returns-in_ok-choose_open-in-Whole-clause-above : goal.choose-returns-in_ok-choose_open-in-Whole-clause-above
choose-returns-in_ok-choose_open-in-Whole-clause-above t c =
    let nodes = c.args.self.now.nodes in let o = c.width_of-width.ensures.ordered in let d = c.in-Whole.ensures.drawn in let r = c.requires in
    omega (
      arith,
      same_top c.choose_open.new.self.nodes c.flipped_if-in-Whole.result c.in_ok-choose_open-in-Whole.field-0 c.flipped_if-in-Whole.ensures.node,
      c.in_ok-choose_open-in-Whole.ensures.above,
      drawn_above nodes _ o c.args.t c.args.x c.args.y c.in-Whole.s d.0 r.t r.x r.y,
      drawn_above nodes _ o c.args.t c.args.x c.args.y c.in-Whole.u d.1 r.t r.x r.y,
      drawn_above nodes _ o c.args.t c.args.x c.args.y c.in-Whole.v d.2 r.t r.x r.y,
    )

pub choose-returns-in_ok-choose_open-in-Whole-clause-truth : goal.choose-returns-in_ok-choose_open-in-Whole-clause-truth
unfolding truth_of
choose-returns-in_ok-choose_open-in-Whole-clause-truth t c a =
    let nodes = c.args.self.now.nodes in
    c.flipped_if-in-Whole.ensures.truth (values_of c.choose_open.new.self.nodes a)
    ∙ ap (xor c.in-Whole.flag) (c.in_ok-choose_open-in-Whole.ensures.truth a)
    ∙ c.in-Whole.ensures.truth (values_of nodes a) (constant_true nodes _ c.width_of-width.ensures.ordered a)

pub choose-returns-in_err-both-in-Both-clause-unheld : goal.choose-returns-in_err-both-in-Both-clause-unheld
unfolding truth_of
choose-returns-in_err-both-in-Both-clause-unheld t c = where_err c.from_residual.result _ (λ held.
    let nodes = c.args.self.now.nodes in let e = c.in_err-both-in-Both.ensures in
    e.unheld (held_flag c.both.new.self.nodes _ e.extends.ordered e.extends.distinct c.in-Both.flag
    (λ a. cond (truth_of nodes c.args.t a) (truth_of nodes c.args.x a) (truth_of nodes c.args.y a)) (λ a. truth_of nodes c.in-Both.u a && truth_of nodes c.in-Both.v a)
    (λ a. sym (c.in-Both.ensures.truth (values_of nodes a) (constant_true nodes _ c.width_of-width.ensures.ordered a))) held))

pub choose-returns-in_err-choose_open-in-Whole-clause-unheld : goal.choose-returns-in_err-choose_open-in-Whole-clause-unheld
unfolding truth_of
choose-returns-in_err-choose_open-in-Whole-clause-unheld t c = where_err c.from_residual-in_err-choose_open-in-Whole.result _ (λ held.
    let nodes = c.args.self.now.nodes in let e = c.in_err-choose_open-in-Whole.ensures in
    e.unheld (held_flag c.choose_open.new.self.nodes _ e.extends.ordered e.extends.distinct c.in-Whole.flag
    (λ a. cond (truth_of nodes c.args.t a) (truth_of nodes c.args.x a) (truth_of nodes c.args.y a)) (λ a. cond (truth_of nodes c.in-Whole.s a) (truth_of nodes c.in-Whole.u a) (truth_of nodes c.in-Whole.v a))
    (λ a. sym (c.in-Whole.ensures.truth (values_of nodes a) (constant_true nodes _ c.width_of-width.ensures.ordered a))) held))

pub choose_open-returns-in_err-high-clause-unheld : goal.choose_open-returns-in_err-high-clause-unheld
choose_open-returns-in_err-high-clause-unheld t c = where_err c.from_residual.result _ (λ held.
    let w = c.look.ensures in let s = c.in_err-high.ensures.extends in let o = c.branches.ensures in let p = c.branches-2.ensures in let q = c.branches-3.ensures in
    c.in_err-high.ensures.unheld (choice_halves c.args.self.now.nodes _ w.ordered c.choose.new.self.nodes _ s.ordered s.distinct c.min-variable.result
    (omega (arith, c.min-variable.ensures, c.top.ensures.in_width c.requires.open, w.ordered.narrow))
    c.args.t c.branches.result.0 c.branches.result.1 c.args.x c.branches-2.result.0 c.branches-2.result.1 c.args.y c.branches-3.result.0 c.branches-3.result.1
    (record { high_live = o.high; low_live = o.low; above_high = o.above_high; above_low = o.above_low; says = o.truth })
    (record { high_live = p.high; low_live = p.low; above_high = p.above_high; above_low = p.above_low; says = p.truth })
    (record { high_live = q.high; low_live = q.low; above_high = q.above_high; above_low = q.above_low; says = q.truth })
    held).0)

pub choose_open-returns-in_err-low-clause-unheld : goal.choose_open-returns-in_err-low-clause-unheld
choose_open-returns-in_err-low-clause-unheld t c = where_err c.from_residual-in_err-low.result _ (λ held.
    let w = c.look.ensures in let s = c.in_err-low.ensures.extends in let o = c.branches.ensures in let p = c.branches-2.ensures in let q = c.branches-3.ensures in
    let t_low = c.branches.result.1 in let x_low = c.branches-2.result.1 in let y_low = c.branches-3.result.1 in
    let old = c.args.self.now.nodes in let one = c.choose.new.self.nodes in let two = c.choose-2.new.self in let kept = c.in_ok-high.ensures.extends in
    c.in_err-low.ensures.unheld (held_as two.nodes _ s.ordered s.distinct (λ a. cond (truth_of old t_low a) (truth_of old x_low a) (truth_of old y_low a)) (λ a. cond (truth_of one t_low a) (truth_of one x_low a) (truth_of one y_low a))
    (λ a. λ i. cond (sym (kept.same t_low a o.low) i) (sym (kept.same x_low a p.low) i) (sym (kept.same y_low a q.low) i))
    (choice_halves old _ w.ordered two.nodes _ s.ordered s.distinct c.min-variable.result
    (omega (arith, c.min-variable.ensures, c.top.ensures.in_width c.requires.open, w.ordered.narrow))
    c.args.t c.branches.result.0 t_low c.args.x c.branches-2.result.0 x_low c.args.y c.branches-3.result.0 y_low
    (record { high_live = o.high; low_live = o.low; above_high = o.above_high; above_low = o.above_low; says = o.truth })
    (record { high_live = p.high; low_live = p.low; above_high = p.above_high; above_low = p.above_low; says = p.truth })
    (record { high_live = q.high; low_live = q.low; above_high = q.above_high; above_low = q.above_low; says = q.truth })
    held).1))

pub choose_open-returns-in_err-answer-clause-unheld : goal.choose_open-returns-in_err-answer-clause-unheld
choose_open-returns-in_err-answer-clause-unheld t c = where_err c.from_residual-in_err-answer.result _ (λ held.
    let s = c.in_err-answer.ensures.extends in let o = c.branches.ensures in let p = c.branches-2.ensures in let q = c.branches-3.ensures in
    let t_high = c.branches.result.0 in let t_low = c.branches.result.1 in let x_high = c.branches-2.result.0 in let x_low = c.branches-2.result.1 in
    let y_high = c.branches-3.result.0 in let y_low = c.branches-3.result.1 in let kept = c.in_ok-high.ensures.extends in
    let old = c.args.self.now.nodes in let two = c.choose-2.new.self.nodes in let v = c.min-variable.result in
    let high = c.in_ok-high.high in let low = c.in_ok-low.low in
    c.in_err-answer.ensures.unheld (held_as c.branch-self.new.self.nodes _ s.ordered s.distinct (λ a. cond (truth_of old c.args.t a) (truth_of old c.args.x a) (truth_of old c.args.y a)) (λ a. cond (a v) (truth_of two high a) (truth_of two low a))
    (λ a.
    let high_is : truth_of two high a ≡ cond (truth_of old t_high a) (truth_of old x_high a) (truth_of old y_high a) = c.in_ok-low.ensures.extends.same high a c.in_ok-high.ensures.live ∙ c.in_ok-high.ensures.truth a in
    let low_is : truth_of two low a ≡ cond (truth_of old t_low a) (truth_of old x_low a) (truth_of old y_low a) =
    c.in_ok-low.ensures.truth a ∙ (λ i. cond (kept.same t_low a o.low i) (kept.same x_low a p.low i) (kept.same y_low a q.low i)) in
    choice_joins (a v) _ _ _ _ _ _ _ _ _ (truth_of two high a) (truth_of two low a) (o.truth a) (p.truth a) (q.truth a) high_is low_is)
    held))

pub choose_open-returns-clause-extends : goal.choose_open-returns-clause-extends
choose_open-returns-clause-extends t c =
    let old = c.args.self.now in let one = c.choose.new.self in let two = c.choose-2.new.self in let new = c.branch-self.new.self in
    rw c.keep.ensures (extends-then old two new (extends-then old one two c.in_ok-high.ensures.extends c.in_ok-low.ensures.extends) c.in_ok-answer.ensures.extends)

pub choose_open-returns-in_err-answer-clause-extends : goal.choose_open-returns-in_err-answer-clause-extends
choose_open-returns-in_err-answer-clause-extends t c =
    let old = c.args.self.now in let one = c.choose.new.self in let two = c.choose-2.new.self in
    extends-then old two c.branch-self.new.self (extends-then old one two c.in_ok-high.ensures.extends c.in_ok-low.ensures.extends) c.in_err-answer.ensures.extends
