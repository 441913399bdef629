use Rattle.std.proofs.Common.{refl}
use Rattle.bdd_store.proofs.Plans.{plan_through, drawn_first, drawn_second}
use Rattle.bdd_store.proofs.plan.symmetric.Goals as goal

pub returns-then-node-2-clause-drawn : goal.returns-then-node-2-clause-drawn
returns-then-node-2-clause-drawn c =
    let t = c.args.t in let x = c.args.high in let y = c.args.low in
    plan_through t x y x t c.complement.result c.regular.result (drawn_second t x y x refl) (drawn_first t x y t refl) (drawn_first t x y c.complement.result c.complement.ensures.node) c.regular.ensures.drawn
