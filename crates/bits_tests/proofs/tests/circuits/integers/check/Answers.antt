use Rattle.std.proofs.Common.{ℕ, ◌<◌, get_or, arith, below_more, ap, subst, sym, rules}
use Rattle.bfr_store.specs.declared.edge.Edge.{Edge}
use Rattle.bdd_store.specs.Nodes.{IsLive}
use Rattle.sym_bits.proofs.Reading.{read_at}
use Rattle.bits_tests.proofs.tests.circuits.integers.check.Goals as goal

pub loop-k-preserved : goal.loop-k-preserved
loop-k-preserved g c =
    below_more (λ k. (d : Edge) → IsLive c.args.store.now (get_or c.args.bits.now k d)) c.loop-k.k c.loop-k.invariant
    (λ d. subst (IsLive c.args.store.now) (sym (read_at c.args.bits.now c.loop-k.k c.at.result d c.at.ensures)) (search rules))

pub returns : goal.returns
returns g c k d h = c.loop-k.invariant k (omega arith) d
