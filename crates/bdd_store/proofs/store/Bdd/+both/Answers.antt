use Rattle.std.proofs.Common.{◌≡◌, false, refl, arith, sym, ◌∙◌, ◌&&◌, cond}
use Rattle.bfr_store.specs.declared.edge.Edge.{Edge}
use Rattle.bdd_store.specs.Inside.{Extends}
use Rattle.bdd_store.specs.Nodes.{truth_of}
use Rattle.bdd_store.proofs.Pushes.{extends-then}
use Rattle.bdd_store.proofs.Nodes.{values_of, constant_true, top-constant}
use Rattle.bdd_store.proofs.Drawn.{top_le, drawn_live, drawn_above, false-says, cond-false, cond-and}
use Rattle.bdd_store.proofs.Held.{where_err, held_as, and_halves}
use Rattle.bdd_store.proofs.store.Bdd.+both.Goals as goal

pub both-returns-in-Some-clause-live : goal.both-returns-in-Some-clause-live
both-returns-in-Some-clause-live t c =
    drawn_live c.args.self.now.nodes _ c.width_of-width.ensures.ordered c.args.x c.args.x c.args.y c.in-Some.known c.in-Some.ensures.drawn c.requires.x c.requires.x c.requires.y

pub both-returns-in-Some-clause-above : goal.both-returns-in-Some-clause-above
both-returns-in-Some-clause-above t c =
    omega (arith, drawn_above c.args.self.now.nodes _ c.width_of-width.ensures.ordered c.args.x c.args.x c.args.y c.in-Some.known c.in-Some.ensures.drawn c.requires.x c.requires.x c.requires.y)

pub both-returns-in-Some-clause-truth : goal.both-returns-in-Some-clause-truth
unfolding truth_of
both-returns-in-Some-clause-truth t c a =
    c.in-Some.ensures.truth (values_of c.args.self.now.nodes a) (constant_true c.args.self.now.nodes _ c.width_of-width.ensures.ordered a)

pub both_open-returns-in-Some-clause-above : goal.both_open-returns-in-Some-clause-above
both_open-returns-in-Some-clause-above t c =
    omega (arith, c.in-Some.ensures.above, top_le c.args.self.now.nodes _ c.look.ensures.ordered c.args.y c.requires.y, top-constant c.args.self.now.nodes _ c.look.ensures.ordered (record { number = 1 }) refl)

pub both_open-returns-in-Some-clause-truth : goal.both_open-returns-in-Some-clause-truth
both_open-returns-in-Some-clause-truth t c a =
    let nodes = c.args.self.now.nodes in
    c.in-Some.ensures.truth a
    ∙ cond-false (truth_of nodes c.args.x a) (truth_of nodes c.args.y a) (truth_of nodes (record { number = 1 }) a) (false-says nodes _ c.look.ensures.ordered (record { number = 1 }) refl a)

pub both_open-keep-requires-clause-truth : goal.both_open-keep-requires-clause-truth
both_open-keep-requires-clause-truth t c a =
    let x = c.args.x in let y = c.args.y in
    let old = c.args.self.now in let one = c.both.new.self in let two = c.both-2.new.self in let new = c.branch-self.new.self in
    let none : Edge = record { number = 1 } in
    let x_high = c.branches.result.0 in let x_low = c.branches.result.1 in let y_high = c.branches-2.result.0 in let y_low = c.branches-2.result.1 in
    let b = a c.min-variable.result in
    let high_is : truth_of two.nodes c.in_ok-high.high a ≡ (truth_of old.nodes x_high a && truth_of old.nodes y_high a) =
    c.in_ok-low.ensures.extends.same c.in_ok-high.high a c.in_ok-high.ensures.live ∙ c.in_ok-high.ensures.truth a in
    let low_is : truth_of two.nodes c.in_ok-low.low a ≡ (truth_of old.nodes x_low a && truth_of old.nodes y_low a) =
    c.in_ok-low.ensures.truth a ∙ (λ i. c.in_ok-high.ensures.extends.same x_low a c.branches.ensures.low i && c.in_ok-high.ensures.extends.same y_low a c.branches-2.ensures.low i) in
    let all : Extends old new = extends-then old two new (extends-then old one two c.in_ok-high.ensures.extends c.in_ok-low.ensures.extends) c.in_ok-answer.ensures.extends in
    let none_is : truth_of new.nodes none a ≡ false = all.same none a c.look.ensures.ordered.some ∙ false-says old.nodes _ c.look.ensures.ordered none refl a in
    c.in_ok-answer.ensures.truth a
    ∙ (λ i. cond b (high_is i) (low_is i))
    ∙ cond-and b (truth_of old.nodes x_high a) (truth_of old.nodes y_high a) (truth_of old.nodes x_low a) (truth_of old.nodes y_low a)
    ∙ (λ i. sym (c.branches.ensures.truth a) i && sym (c.branches-2.ensures.truth a) i)
    ∙ (λ i. sym (all.same x a c.requires.x) i && sym (all.same y a c.requires.y) i)
    ∙ sym (cond-false (truth_of new.nodes x a) (truth_of new.nodes y a) (truth_of new.nodes none a) none_is)

pub both_open-returns-in_err-high-clause-unheld : goal.both_open-returns-in_err-high-clause-unheld
both_open-returns-in_err-high-clause-unheld t c = where_err c.from_residual.result _ (λ held.
    let w = c.look.ensures in let s = c.in_err-high.ensures.extends in let p = c.branches.ensures in let q = c.branches-2.ensures in
    c.in_err-high.ensures.unheld (and_halves c.args.self.now.nodes _ w.ordered c.both.new.self.nodes _ s.ordered s.distinct c.min-variable.result
    (omega (arith, c.min-variable.ensures, c.top.ensures.in_width c.requires.open, w.ordered.narrow))
    c.args.x c.branches.result.0 c.branches.result.1 c.args.y c.branches-2.result.0 c.branches-2.result.1
    (record { high_live = p.high; low_live = p.low; above_high = p.above_high; above_low = p.above_low; says = p.truth })
    (record { high_live = q.high; low_live = q.low; above_high = q.above_high; above_low = q.above_low; says = q.truth })
    held).0)

pub both_open-returns-in_err-low-clause-unheld : goal.both_open-returns-in_err-low-clause-unheld
both_open-returns-in_err-low-clause-unheld t c = where_err c.from_residual-in_err-low.result _ (λ held.
    let w = c.look.ensures in let s = c.in_err-low.ensures.extends in let p = c.branches.ensures in let q = c.branches-2.ensures in
    let x_low = c.branches.result.1 in let y_low = c.branches-2.result.1 in
    let old = c.args.self.now.nodes in let one = c.both.new.self.nodes in let two = c.both-2.new.self in
    c.in_err-low.ensures.unheld (held_as two.nodes _ s.ordered s.distinct (λ a. truth_of old x_low a && truth_of old y_low a) (λ a. truth_of one x_low a && truth_of one y_low a)
    (λ a. λ i. sym (c.in_ok-high.ensures.extends.same x_low a p.low) i && sym (c.in_ok-high.ensures.extends.same y_low a q.low) i)
    (and_halves old _ w.ordered two.nodes _ s.ordered s.distinct c.min-variable.result
    (omega (arith, c.min-variable.ensures, c.top.ensures.in_width c.requires.open, w.ordered.narrow))
    c.args.x c.branches.result.0 x_low c.args.y c.branches-2.result.0 y_low
    (record { high_live = p.high; low_live = p.low; above_high = p.above_high; above_low = p.above_low; says = p.truth })
    (record { high_live = q.high; low_live = q.low; above_high = q.above_high; above_low = q.above_low; says = q.truth })
    held).1))

pub both_open-returns-in_err-answer-clause-unheld : goal.both_open-returns-in_err-answer-clause-unheld
both_open-returns-in_err-answer-clause-unheld t c = where_err c.from_residual-in_err-answer.result _ (λ held.
    let s = c.in_err-answer.ensures.extends in let p = c.branches.ensures in let q = c.branches-2.ensures in
    let x_high = c.branches.result.0 in let x_low = c.branches.result.1 in let y_high = c.branches-2.result.0 in let y_low = c.branches-2.result.1 in
    let old = c.args.self.now.nodes in let two = c.both-2.new.self.nodes in let v = c.min-variable.result in
    let high = c.in_ok-high.high in let low = c.in_ok-low.low in
    c.in_err-answer.ensures.unheld (held_as c.branch-self.new.self.nodes _ s.ordered s.distinct (λ a. truth_of old c.args.x a && truth_of old c.args.y a) (λ a. cond (a v) (truth_of two high a) (truth_of two low a))
    (λ a.
    let high_is : truth_of two high a ≡ (truth_of old x_high a && truth_of old y_high a) = c.in_ok-low.ensures.extends.same high a c.in_ok-high.ensures.live ∙ c.in_ok-high.ensures.truth a in
    let low_is : truth_of two low a ≡ (truth_of old x_low a && truth_of old y_low a) =
    c.in_ok-low.ensures.truth a ∙ (λ i. c.in_ok-high.ensures.extends.same x_low a p.low i && c.in_ok-high.ensures.extends.same y_low a q.low i) in
    (λ i. p.truth a i && q.truth a i)
    ∙ sym (cond-and (a v) (truth_of old x_high a) (truth_of old y_high a) (truth_of old x_low a) (truth_of old y_low a))
    ∙ (λ i. cond (a v) (sym high_is i) (sym low_is i)))
    held))
