use Rattle.std.proofs.Common.{◌≡◌, ℕ, Bool}
use Rattle.sym_bits.specs.Integers.{integer_under}
use Rattle.sym_prims.specs.Results.{integer_result}
use Rattle.sym_prims.proofs.Leaving.{operates_lent}
use Rattle.sym_prims.proofs.numbers.operated.Goals as goal

pub returns : goal.returns
returns g c =
    let m = g.B.Meaning in
    record {
      operates = operates_lent m c.args.objs.now c.store.result.now c.operate.new.store c.operate.result
          (λ s a. integer_result c.args.prim (integer_under m s c.args.first.now a) (integer_under m s c.args.second.now a)) c.store.ensures.now c.requires.whole c.operate.ensures.makes c.operate.ensures.width;
    }
