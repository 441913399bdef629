use Rattle.sym_prims.proofs.Visiting.{first_branches, test_live}
use Rattle.sym_prims.proofs.applying.look_at_first.Goals as goal

pub split-requires-clause-test : goal.split-requires-clause-test
split-requires-clause-test g c = test_live g.B.Meaning c.args.prim c.args.objs.now c.node_of-node.result c.in-Some.c.test c.in-Some.c.then c.in-Some.c.other c.in-Some.ensures c.node_of-node.ensures.edges

pub split-requires-clause-branches : goal.split-requires-clause-branches
split-requires-clause-branches g c =
    first_branches g.B.Meaning c.args.prim c.args.objs.now c.args.task c.node_of-node.result c.in-Some.c.test c.in-Some.c.then c.in-Some.c.other c.with_first-then.result c.with_first-other.result c.in-Some.ensures c.with_first-then.ensures c.with_first-other.ensures
    c.requires.task c.node_of-node.ensures.parts c.node_of-node.ensures.means
