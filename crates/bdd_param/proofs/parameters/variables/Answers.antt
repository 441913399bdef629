use Rattle.std.proofs.Common.{arith}
use Rattle.bdd_param.proofs.Variables.{grows_then, variables_more}
use Rattle.bdd_param.proofs.parameters.variables.Goals as goal

pub loop-k-preserved : goal.loop-k-preserved
loop-k-preserved c =
    let inv = c.loop-k.invariant in
    let m = c.in_ok-edge.ensures.makes in
    let old = c.loop-k.store in
    let new = c.var.new.self in
    let k = c.loop-k.k in
    record {
      grows = grows_then c.args.store.now old new inv.grows m.grows;
      wide = omega (arith, inv.wide, m.width);
      width = omega (arith, inv.width, m.width);
      variables = variables_more old new m.grows c.loop-k.edges k inv.variables c.in_ok-edge.edge m.live m.truth c.push.new.self c.in_ok-push.ensures.ok;
    }
