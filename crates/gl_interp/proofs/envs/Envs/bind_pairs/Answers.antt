use Rattle.std.proofs.Common.{◌≡◌, ◌-◌, suc, arith, sym, subst}
use Rattle.gl_interp.specs.Envs.{EnvsBelow}
use Rattle.gl_interp.proofs.Cells.{paired_more}
use Rattle.gl_interp.proofs.envs.Envs.bind_pairs.Goals as goal

pub loop-k-preserved : goal.loop-k-preserved
loop-k-preserved c =
    let k = c.loop-k.k - 1 in
    let next : c.loop-k.k ≡ suc k = omega (arith, c.loop-k-test.true) in
    paired_more c.args.self.now c.loop-k.self c.bind.new.self c.args.pairs.now (c.at.result.0.number, c.at.result.1) c.loop-k.at.number c.in_ok-at.at.number c.loop-k.k k c.loop-k.invariant next c.at.ensures
    c.in_ok-at.ensures.number c.in_ok-at.ensures.added

pub returns-in_err-at-clause-below : goal.returns-in_err-at-clause-below
returns-in_err-at-clause-below c n b v = subst (λ es. EnvsBelow n es) (sym c.in_err-at.ensures.err) (c.loop-k.invariant.below n b v)
