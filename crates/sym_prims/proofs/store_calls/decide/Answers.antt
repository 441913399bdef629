use Rattle.std.proofs.Common.{◌≡◌, ℕ, Bool, true, false, refl, sym, ◌∙◌}
use Rattle.gl_logic.specs.Assignments.{value_at}
use Rattle.sym_prims.proofs.Leaving.{leaves_lent, truth_lent}
use Rattle.sym_prims.proofs.store_calls.decide.Goals as goal

pub returns-clause-leaves : goal.returns-clause-leaves
returns-clause-leaves g c = leaves_lent g.B.Meaning c.args.objs.now c.store.result.now c.decide.new.self c.store.ensures.now c.requires.whole c.decide.ensures.grows c.decide.ensures.width

pub returns-clause-never : goal.returns-clause-never
returns-clause-never g c is a =
    sym (truth_lent g.B.Meaning c.args.objs.now c.store.result.now c.decide.new.self c.args.edge a c.store.ensures.now c.decide.ensures.grows c.requires.edge) ∙ c.decide.ensures.never is a

pub returns-clause-sometimes : goal.returns-clause-sometimes
returns-clause-sometimes g c is =
    sym (truth_lent g.B.Meaning c.args.objs.now c.store.result.now c.decide.new.self c.args.edge (value_at c.decide.new.out) c.store.ensures.now c.decide.ensures.grows c.requires.edge) ∙ c.decide.ensures.sometimes is
