use Rattle.sym_prims.proofs.Leaving.{leaves_lent}
use Rattle.gl_interp.proofs.store_calls.value.Goals as goal

pub returns-clause-leaves : goal.returns-clause-leaves
returns-clause-leaves g c =
    let k = c.value.ensures.keeps in
    leaves_lent g.B.Meaning c.args.objs.now c.store.result.now c.value.new.self c.store.ensures.now c.requires.whole (record { stays = k.stays; same = k.same; same_limit = k.same_limit; same_budget = k.same_budget; no_fewer = k.no_fewer }) k.same_width
