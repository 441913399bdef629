use Rattle.std.proofs.Common.{◌≡◌, ◌∙◌, ap, sym, List, ℕ, [], ◌∷◌, ◌++◌, suc, ◌+◌, map, take, arith}
use Rattle.gl_logic.specs.Object.{Object}
use Rattle.event_world.proofs.KeptNames.{front_more}
use Rattle.event_world.proofs.parameters.variables.Goals as goal

pub loop-i-preserved : goal.loop-i-preserved
loop-i-preserved c =
    let ks = c.args.constants.now in
    let k : ℕ × Object = (c.at.result.0.number, c.at.result.1.now) in
    let next : suc c.loop-i.i ≡ c.loop-i.i + 1 = omega arith in
    c.in_ok-push.ensures.ok ∙ (ap (λ (ns : List ℕ). ns ++ c.at.result.0.number ∷ []) c.loop-i.invariant
    ∙ (sym (front_more (λ (p : ℕ × Object). p.0) ks c.loop-i.i k c.at.ensures) ∙ ap (λ n. map (λ (p : ℕ × Object). p.0) (take n ks)) next))
