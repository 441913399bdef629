use Rattle.std.proofs.Common.{◌≡◌, ◌+◌, arith, length}
use Rattle.std.proofs.lemmas.Result.{IfOk-weaker}
use Rattle.bdd_store.proofs.Canonical.{only_edge}
use Rattle.bdd_store.proofs.Room.{few, ok_unless}
use Rattle.bdd_store.proofs.bits.BddBits.and.Goals as goal

pub returns-clause-room : goal.returns-clause-room
returns-clause-room c = λ narrow room.
    let new = c.both.new.self in let e = c.both.ensures in
    ok_unless c.both.result (length new.nodes ≡ new.limit + 1) e.full (λ full.
    omega (arith, full, e.extends.same_limit, few new.nodes new.width e.extends.ordered e.extends.distinct (omega (arith, e.extends.same_width))))

pub returns-clause-only : goal.returns-clause-only
returns-clause-only c =
    let new = c.both.new.self in let e = c.both.ensures in
    IfOk-weaker c.both.result _ _ (λ r live. only_edge new new.width e.extends.ordered e.extends.distinct r live) e.live
