use Rattle.std.proofs.Common.{◌≡◌, ◌-◌, ◌<◌, suc, arith, sym, subst, length}
use Rattle.gl_interp.specs.Envs.{EnvsBelow, EnvsKept}
use Rattle.gl_interp.proofs.Cells.{bound_more, bound_start, read_again}
use Rattle.gl_interp.proofs.envs.Envs.bind_all.Goals as goal

pub loop-k-init : goal.loop-k-init
loop-k-init c = bound_start c.args.self.now c.args.names.now c.args.values.now c.args.env.number c.len-k.result c.requires.env c.len-k.ensures c.requires.count

pub loop-k-preserved : goal.loop-k-preserved
loop-k-preserved c =
    let k = c.loop-k.k - 1 in
    let next : c.loop-k.k ≡ suc k = omega (arith, c.loop-k-test.true) in
    let less : k < length c.args.values.now = omega (arith, c.loop-k.invariant.within, c.loop-k-test.true, c.requires.count) in
    bound_more c.args.self.now c.loop-k.self c.bind.new.self c.args.names.now c.args.values.now _ c.args.env.number c.loop-k.at.number c.in_ok-at.at.number c.loop-k.k k c.at.result.now.number c.loop-k.invariant next c.at.ensures c.requires.count
    (read_again c.args.values.now k _ less) c.in_ok-at.ensures.number c.in_ok-at.ensures.added

pub returns-in_err-at-clause-kept : goal.returns-in_err-at-clause-kept
returns-in_err-at-clause-kept c = subst (λ es. EnvsKept c.args.self.now es) (sym c.in_err-at.ensures.err) c.loop-k.invariant.kept

pub returns-in_err-at-clause-below : goal.returns-in_err-at-clause-below
returns-in_err-at-clause-below c n b v = subst (λ es. EnvsBelow n es) (sym c.in_err-at.ensures.err) (c.loop-k.invariant.below n b v)
