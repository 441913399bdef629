use Rattle.std.proofs.Common.{arith}
use Rattle.sym_objects.proofs.Chosen.{chosen_value}
use Rattle.sym_objects.proofs.bits.choose_bits.Goals as goal

pub returns-clause-value : goal.returns-clause-value
returns-clause-value g c v =
    let l = c.loop-k in
    let n = c.len.ensures in
    let m = c.len-2.ensures in
    chosen_value g.B.Meaning c.args.test c.args.a.now c.args.b.now c.args.objs.now l.objs l.bits l.invariant.chosen (omega (arith, n.len, n.some)) (omega (arith, m.len, m.some))
    (omega (arith, n.len, m.len, c.max-count.ensures, l.invariant.len)) (omega (arith, n.len, m.len, c.max-count.ensures, l.invariant.len)) v
