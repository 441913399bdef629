use Rattle.std.proofs.Common.{◌≡◌, ◌∙◌, refl, List, Bool, cond}
use Rattle.bfr_store.specs.Edges.{truth_at}
use Rattle.bdd_store.specs.Plans.{IsDrawn, HasConstant}
use Rattle.bdd_store.proofs.Plans.{cond_under, plan_through, drawn_first, drawn_under}
use Rattle.bdd_store.proofs.plan.plan_of.Goals as goal
use Rattle.bdd_store.proofs.plan.plan_of.Goals.{After-under-low}

high_drawn : (c : After-under-low) → IsDrawn c.args.t c.args.x c.args.y c.under-high.result
high_drawn c f m zero at_t at_x at_y = c.under-high.ensures.drawn f m zero at_t at_x at_x

low_drawn : (c : After-under-low) → IsDrawn c.args.t c.args.x c.args.y c.under-low.result
low_drawn c = drawn_under c.args.t c.complement.result c.args.x c.args.y c.under-low.result c.complement.ensures.node c.under-low.ensures.drawn

test_drawn : (c : After-under-low) → IsDrawn c.args.t c.args.x c.args.y c.args.t
test_drawn c = drawn_first c.args.t c.args.x c.args.y c.args.t refl

same : (c : After-under-low) (values : List Bool) → HasConstant values → cond (truth_at values c.args.t) (truth_at values c.under-high.result) (truth_at values c.under-low.result) ≡ cond (truth_at values c.args.t) (truth_at values c.args.x) (truth_at values c.args.y)
same c values h = cond_under _ (truth_at values c.complement.result) _ _ _ _ (c.complement.ensures.truth values) (c.under-high.ensures.truth values h) (c.under-low.ensures.truth values h)

pub returns-then-high-low-clause-drawn : goal.returns-then-high-low-clause-drawn
returns-then-high-low-clause-drawn c = high_drawn ((goal.at.returns-then-high-low-clause-drawn c).After-under-low)

pub returns-then-node-eq0-2-clause-truth : goal.returns-then-node-eq0-2-clause-truth
returns-then-node-eq0-2-clause-truth c values h = c.beside_constant.ensures.truth values h ∙ same ((goal.at.returns-then-node-eq0-2-clause-truth c).After-under-low) values h

pub returns-then-node-eq0-2-clause-drawn : goal.returns-then-node-eq0-2-clause-drawn
returns-then-node-eq0-2-clause-drawn c =
    let d = (goal.at.returns-then-node-eq0-2-clause-drawn c).After-under-low in
    plan_through c.args.t c.args.x c.args.y _ _ _ c.beside_constant.result (test_drawn d) (high_drawn d) (low_drawn d) c.beside_constant.ensures.drawn

pub returns-then-node-eq0-3-clause-truth : goal.returns-then-node-eq0-3-clause-truth
returns-then-node-eq0-3-clause-truth c values h = c.beside_low_constant.ensures.truth values h ∙ same ((goal.at.returns-then-node-eq0-3-clause-truth c).After-under-low) values h

pub returns-then-node-eq0-3-clause-drawn : goal.returns-then-node-eq0-3-clause-drawn
returns-then-node-eq0-3-clause-drawn c =
    let d = (goal.at.returns-then-node-eq0-3-clause-drawn c).After-under-low in
    plan_through c.args.t c.args.x c.args.y _ _ _ c.beside_low_constant.result (test_drawn d) (high_drawn d) (low_drawn d) c.beside_low_constant.ensures.drawn

pub returns-clause-truth : goal.returns-clause-truth
returns-clause-truth c values h = c.symmetric.ensures.truth values ∙ same ((goal.at.returns-clause-truth c).After-under-low) values h

pub returns-clause-drawn : goal.returns-clause-drawn
returns-clause-drawn c =
    let d = (goal.at.returns-clause-drawn c).After-under-low in
    plan_through c.args.t c.args.x c.args.y _ _ _ c.symmetric.result (test_drawn d) (high_drawn d) (low_drawn d) c.symmetric.ensures.drawn
