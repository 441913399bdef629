use Rattle.sym_prims.proofs.Telling.{numbers_tell}
use Rattle.sym_prims.proofs.predicates.test_numbers.Goals as goal

pub returns : goal.returns
returns g c =
    let first = c.integer_bits-first in
    let second = c.integer_bits-second in
    record {
      tells = numbers_tell g.B.Meaning c.args.prim c.args.x c.args.y c.args.objs.now first.new.objs second.new.objs c.store.result.now c.test.new.store first.result second.result c.test.result
          first.ensures.same second.ensures.same c.store.ensures.now c.requires.whole first.ensures.value second.ensures.value c.test.ensures.makes;
    }
