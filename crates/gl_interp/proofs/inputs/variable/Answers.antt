use Rattle.std.proofs.Common.{refl, subst}
use Rattle.bfr_store.specs.Keeps.{Grows}
use Rattle.sym_objects.proofs.Keeping.{grows_by_store}
use Rattle.gl_interp.proofs.inputs.variable.Goals as goal

pub returns-clause-grows : goal.returns-clause-grows
returns-clause-grows g c =
    let m = g.B.Meaning in
    let old = c.args.objs.now in
    let store = c.var.new.self in
    grows_by_store m old (record old { store = store }) store refl c.requires.whole (subst (λ (s : g.row.B.Denot). Grows m s store) c.store.ensures.now c.var.ensures.makes.grows)
