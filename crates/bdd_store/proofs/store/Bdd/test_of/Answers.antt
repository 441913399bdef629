use Rattle.std.proofs.Common.{arith}
use Rattle.bdd_store.proofs.Tests.{always, flipped_differ, test_made}
use Rattle.bdd_store.proofs.store.Bdd.test_of.Goals as goal

pub returns-clause-test : goal.returns-clause-test
returns-clause-test c =
    let s = c.args.self.now in
    let n = c.node_of-node.result in
    let w = c.node_of-node.ensures in
    let flag = c.is_complemented-flag.result in
    let high = c.flipped_if.result in
    let low = c.flipped_if-2.result in
    let h = c.flipped_if.ensures in
    let l = c.flipped_if-2.ensures in
    test_made s w.ordered w.distinct c.args.e high low n flag w.node (omega arith) c.requires.live c.is_complemented-flag.ensures h.node l.node
    (flipped_differ s w.ordered w.distinct c.args.e high low n flag w.node (omega arith) c.requires.live c.is_complemented-flag.ensures h.node l.node h.plain l.plain h.parity l.parity)
    h.truth l.truth

pub returns-then-node-eq0-clause-always : goal.returns-then-node-eq0-clause-always
returns-then-node-eq0-clause-always c = always c.args.self.now c.args.e c.node_of-node.ensures.ordered (omega arith)
