use Rattle.std.proofs.Common.{◌<◌, length, arith}
use Rattle.std.proofs.lemmas.List.{get_or_default}
use Rattle.sym_objects.specs.declared.node.Node.TheVariants as node
use Rattle.sym_objects.proofs.Linked.{chained-next}
use Rattle.sym_objects.proofs.chains.chain.Goals as goal

pub loop-number-preserved : goal.loop-number-preserved
loop-number-preserved c =
    let l = c.loop-number in
    let here : l.number < length c.args.nodes.now = omega arith in
    record {
      chained = chained-next c.args.count c.args.nodes.now l.number _ c.bucket-bucket.result _ l.next.items c.push_reserved.new.self.items l.heads.items l.invariant.chained here
          (get_or_default c.args.nodes.now l.number (node.Character 0) _ here) c.bucket-bucket.ensures.bucket (omega (arith, c.bucket-bucket.ensures.within, l.invariant.chained.buckets)) c.index.ensures c.push_reserved.ensures.items;
      next = omega (arith, l.invariant.next, c.push_reserved.ensures.capacity);
      heads = omega (arith, l.invariant.heads);
    }
