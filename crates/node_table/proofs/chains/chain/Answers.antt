use Rattle.std.proofs.Common.{◌<◌, length, arith}
use Rattle.node_table.proofs.Tables.{chained-next}
use Rattle.node_table.proofs.chains.chain.Goals as goal

pub loop-number-preserved : goal.loop-number-preserved
loop-number-preserved g c =
    let l = c.loop-number in
    let here : l.number < length c.args.nodes.now = omega arith in
    record {
      chained = chained-next g.N.Interned.hash_of c.args.count c.args.nodes.now l.number c.index-nodes-number.result l.next.items c.push_reserved.new.self.items l.heads.items c.hash.result c.spread-bucket.result _ l.invariant.chained here
          c.index-nodes-number.is c.hash.ensures c.spread-bucket.ensures.place (omega (arith, c.spread-bucket.ensures.within, l.invariant.chained.buckets)) c.index.ensures c.push_reserved.ensures.items;
      next = omega (arith, l.invariant.next, c.push_reserved.ensures.capacity);
      heads = omega (arith, l.invariant.heads);
    }
