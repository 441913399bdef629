use Rattle.std.proofs.Common.{cond}
use Rattle.sym_objects.proofs.Keeping.{edge_by_store}
use Rattle.sym_objects.proofs.edges.choose_edge.Goals as goal

pub returns-clause-makes : goal.returns-clause-makes
returns-clause-makes g c =
    edge_by_store g.B.Meaning c.args.objs.now c.store.result.now c.ite.new.self c.ite.result
    (λ s a. cond (g.B.Meaning.truth_of s c.args.t a) (g.B.Meaning.truth_of s c.args.x a) (g.B.Meaning.truth_of s c.args.y a)) c.store.ensures.now c.requires.whole c.ite.ensures.makes
