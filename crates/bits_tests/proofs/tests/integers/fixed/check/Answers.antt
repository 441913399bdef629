use Rattle.std.proofs.Common.{ℕ, ◌<◌, get_or, arith, below_more, ap}
use Rattle.bfr_store.specs.declared.edge.Edge.{Edge}
use Rattle.sym_bits.proofs.Reading.{read_at}
use Rattle.bits_tests.proofs.tests.integers.fixed.check.Goals as goal

pub loop-k-preserved : goal.loop-k-preserved
loop-k-preserved g c =
    let xs = c.args.a.now in
    let i = c.loop-k.k in
    let e = c.at.result in
    let small : e.number < 6 = omega arith in
    below_more (λ k. (d : Edge) → (get_or xs k d).number < 6) i c.loop-k.invariant (λ d. omega (arith, small, ap (λ (f : Edge). f.number) (read_at xs i e d c.at.ensures)))

pub returns : goal.returns
returns g c k d h = c.loop-k.invariant k (omega arith) d
