use Rattle.std.proofs.Common.{rules, arith, ◌≡◌, subst, refl, length, Some, slice_get, FitsSigned, to_z, of_z, to_z-of_z, ℕ}
use Rattle.std.specs.Int.{w64}
use Rattle.gl_logic.proofs.CellCounts.{at_index}
use Rattle.lisp_eval.specs.Frameless.{BindsUpTo}
use Rattle.lisp_eval.specs.Outside.{on_locals}
use Rattle.lisp_eval.specs.declared.value.Value.TheVariants as value
use Rattle.lisp_eval.proofs.FirstBound.{one_more}
use Rattle.lisp_eval.proofs.integers.bind_integers.Goals as goal

pub loop-i-preserved : goal.loop-i-preserved
loop-i-preserved c =
    let ts = c.args.terms.now in
    let t = c.index-terms-i.result in
    let i = c.in-Some.integer in
    let fits : FitsSigned w64 i = search rules in
    let there : slice_get ts c.loop-i.i ≡ Some t = at_index ts c.loop-i.i t c.loop-i-test.true c.index-terms-i.is in (
      one_more c.args.locals.now c.args.names.now ts c.args.from c.args.left.now c.loop-i.left c.integer_at_once.new.left c.loop-i.i c.args.next.now.items c.loop-i.next.items c.push.new.self.items c.loop-i.invariant.0 t there
          (record { name = c.at.result.now; value = value.Int (to_z w64 (of_z w64 i)) }) c.at.ensures i (to_z w64 (of_z w64 i)) (to_z-of_z {w = w64} {z = i} fits) refl c.in-Some.ensures c.in_ok-push-in-Some.ensures.items,
      omega (arith, c.loop-i.invariant.1),
    )

pub returns-clause-binds : goal.returns-clause-binds
returns-clause-binds c =
    let last : c.loop-i.i ≡ length c.args.terms.now = omega (arith, c.loop-i-test.false, c.loop-i.auto.i-end, c.requires.within) in
    subst (λ (k : ℕ). BindsUpTo (on_locals c.args.locals.now) c.args.names.now c.args.terms.now c.args.from c.args.left.now c.loop-i.left c.args.next.now.items c.loop-i.next.items k) last c.loop-i.invariant.0
