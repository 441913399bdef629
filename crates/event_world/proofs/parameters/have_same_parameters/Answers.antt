use Rattle.std.proofs.Common.{◌≡◌, ◌∙◌, ap, sym, ℕ, suc, ◌+◌, eqb, false, arith}
use Rattle.gl_logic.specs.Object.{Object}
use Rattle.event_world.proofs.KeptNames.{same_from, same_next, same_not}
use Rattle.event_world.proofs.parameters.have_same_parameters.Goals as goal

pub returns-then-name-other : goal.returns-then-name-other
returns-then-name-other c =
    let k : ℕ × Object = (c.at.result.0.number, c.at.result.1.now) in
    let j : ℕ × Object = (c.at-in-loop-i.result.0.number, c.at-in-loop-i.result.1.now) in
    let apart : eqb c.at.result.0.number c.at-in-loop-i.result.0.number ≡ false = grind (arith, c.if-name-other.true) in
    sym (same_not c.args.first.now c.args.second.now c.loop-i.i k j c.at.ensures c.at-in-loop-i.ensures apart) ∙ c.loop-i.invariant

pub loop-i-preserved : goal.loop-i-preserved
loop-i-preserved c =
    let k : ℕ × Object = (c.at.result.0.number, c.at.result.1.now) in
    let j : ℕ × Object = (c.at-in-loop-i.result.0.number, c.at-in-loop-i.result.1.now) in
    let next : c.loop-i.i + 1 ≡ suc c.loop-i.i = omega arith in
    let same : c.at.result.0.number ≡ c.at-in-loop-i.result.0.number = omega (arith, c.if-name-other.false) in
    ap (same_from c.args.first.now c.args.second.now) next ∙ (same_next c.args.first.now c.args.second.now c.loop-i.i k j c.at.ensures c.at-in-loop-i.ensures same ∙ c.loop-i.invariant)
