use Rattle.std.proofs.Common.{◌≡◌, ℕ, Bool}
use Rattle.bfr_store.specs.Edges.{xor}
use Rattle.sym_prims.proofs.Telling.{tells_not}
use Rattle.sym_prims.proofs.predicates.equal_booleans.Goals as goal

pub returns : goal.returns
returns g c =
    let m = g.B.Meaning in
    let old = c.args.objs.now in
    record {
      tells = tells_not m old c.difference.new.objs c.complement.new.objs c.in_ok-differs.differs c.complement.result (λ a. xor (m.truth_of old.store c.args.e a) (m.truth_of old.store c.args.f a))
          c.in_ok-differs.ensures.tells c.complement.ensures.same c.complement.ensures.live c.complement.ensures.truth;
    }
