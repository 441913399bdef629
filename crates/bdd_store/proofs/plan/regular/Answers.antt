use Rattle.std.proofs.Common.{refl}
use Rattle.bdd_store.proofs.Plans.{plan_through, drawn_first, drawn_second, drawn_third}
use Rattle.bdd_store.proofs.plan.regular.Goals as goal

pub returns-then-is_complemented-clause-drawn : goal.returns-then-is_complemented-clause-drawn
returns-then-is_complemented-clause-drawn c =
    let t = c.args.t in let x = c.args.high in let y = c.args.low in
    plan_through t x y c.complement.result y x c.regular_high.result (drawn_first t x y c.complement.result c.complement.ensures.node) (drawn_third t x y y refl) (drawn_second t x y x refl) c.regular_high.ensures.drawn
