use Rattle.std.proofs.Common.{rules, arith, ◌≡◌, refl, Err, Some, slice_get}
use Rattle.lisp_eval.specs.declared.attempt.Stop.TheVariants as stop
use Rattle.lisp_eval.proofs.Entering.{scope_grown}
use Rattle.lisp_eval.proofs.Grown.{grown_on}
use Rattle.lisp_eval.proofs.NextBound.{refused, all_bound, one_stops, one_unheld, one_bound}
use Rattle.gl_logic.proofs.CellCounts.{at_index}
use Rattle.lisp_eval.proofs.Advancing.{told}
use Rattle.lisp_eval.proofs.frameless.bind_found.Goals as goal

pub returns-in_err-to-clause-tells : goal.returns-in_err-to-clause-tells
returns-in_err-to-clause-tells c =
    let a = c.args in
    let l = c.loop-to in
    let is : c.from_residual.result ≡ Err stop.Memory = search rules in
    refused a.setting.now.world.now.definitions a.setting.now.functions.now a.scope.now a.names.now a.terms.now a.left a.arena.now a.next.now.items l.arena l.invariant.whole l.invariant.grown c.requires.scope l.rest l.from l.next.items
    c.bind_first_integers.new.next.items l.invariant.behind c.from_residual.result is

pub returns-then-to-terms-clause-tells : goal.returns-then-to-terms-clause-tells
returns-then-to-terms-clause-tells c =
    let a = c.args in
    let l = c.loop-to in
    let first = c.bind_first_integers.new in
    all_bound a.setting.now.world.now.definitions a.setting.now.functions.now a.scope.now a.names.now a.terms.now a.left a.arena.now a.next.now.items l.arena l.invariant.whole l.invariant.grown c.requires.scope l.rest l.from l.next.items
    l.invariant.behind first.left c.in_ok-to.to first.next.items c.in_ok-to.ensures.binds c.requires.count c.if-to-terms.true

pub at_once-requires-clause-scope : goal.at_once-requires-clause-scope
at_once-requires-clause-scope c = (scope_grown c.args.arena.now.objects c.loop-to.arena.objects c.loop-to.invariant.grown c.args.scope.now c.requires.scope).0

pub returns-in_err-found-clause-tells : goal.returns-in_err-found-clause-tells
returns-in_err-found-clause-tells c =
    let a = c.args in
    let l = c.loop-to in
    let first = c.bind_first_integers.new in
    let t = c.index-terms-to.result in
    let there : slice_get a.terms.now c.in_ok-to.to ≡ Some t = at_index a.terms.now c.in_ok-to.to t c.if-to-terms.false c.index-terms-to.is in
    let e = c.in_err-found.field-0.0 in
    let is : c.from_residual-in_err-found.result ≡ Err e = search rules in
    one_stops a.setting.now.world.now.definitions a.setting.now.functions.now a.scope.now a.names.now a.terms.now a.left a.arena.now a.next.now.items l.arena l.invariant.whole l.invariant.grown c.requires.scope l.rest l.from l.next.items
    l.invariant.behind first.left c.in_ok-to.to first.next.items c.in_ok-to.ensures.binds t there c.at_once.new.arena e c.from_residual-in_err-found.result is (told c.in_err-found.ensures)

pub returns-in_err-push-clause-tells : goal.returns-in_err-push-clause-tells
returns-in_err-push-clause-tells c =
    let a = c.args in
    let l = c.loop-to in
    let first = c.bind_first_integers.new in
    let t = c.index-terms-to.result in
    let there : slice_get a.terms.now c.in_ok-to.to ≡ Some t = at_index a.terms.now c.in_ok-to.to t c.if-to-terms.false c.index-terms-to.is in
    let is : c.from_residual-in_err-push.result ≡ Err stop.Memory = search rules in
    one_unheld a.setting.now.world.now.definitions a.setting.now.functions.now a.scope.now a.names.now a.terms.now a.left a.arena.now a.next.now.items l.arena l.invariant.whole l.invariant.grown c.requires.scope l.rest l.from l.next.items
    l.invariant.behind first.left c.in_ok-to.to first.next.items c.in_ok-to.ensures.binds t there c.at_once.new.arena c.at_once.result c.push.new.self.items c.from_residual-in_err-push.result is (told c.at_once.ensures)

pub loop-to-preserved : goal.loop-to-preserved
loop-to-preserved c =
    let a = c.args in
    let l = c.loop-to in
    let first = c.bind_first_integers.new in
    let t = c.index-terms-to.result in
    let there : slice_get a.terms.now c.in_ok-to.to ≡ Some t = at_index a.terms.now c.in_ok-to.to t c.if-to-terms.false c.index-terms-to.is in
    let found = c.in_ok-found.found in record {
      whole = c.at_once.ensures.adds.whole;
      grown = grown_on a.arena.now.objects l.arena.objects c.at_once.new.arena.objects l.invariant.grown c.at_once.ensures.adds.grown;
      agree = c.at_once.ensures.agree;
      within = omega (arith, c.if-to-terms.false);
      behind = one_bound a.setting.now.world.now.definitions a.setting.now.functions.now a.scope.now a.names.now a.terms.now a.left a.arena.now a.next.now.items l.arena l.invariant.whole l.invariant.grown c.requires.scope l.rest l.from l.next.items
          l.invariant.behind first.left c.in_ok-to.to first.next.items c.in_ok-to.ensures.binds t there c.at_once.new.arena found (told c.in_ok-found.ensures) (record { name = c.at.result.now; value = found.value }) refl c.at.ensures c.push.new.self.items c.in_ok-push.ensures.items;
    }
